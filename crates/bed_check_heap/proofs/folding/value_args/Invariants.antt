use Rattle.std.proofs.Common.{◌≡◌, ◌++◌, drop}
use Rattle.bed_deriv.specs.HeapRules.{value_args}
use Rattle.bed_check_heap.proofs.folding.value_args.Given as goal

abbrev pub invariant-loop-value : goal.invariant-loop-value
invariant-loop-value l = l.out ++ value_args (drop l.value-index l.values) ≡ value_args l.values
