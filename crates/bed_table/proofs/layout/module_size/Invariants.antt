use Rattle.std.proofs.Common.{◌≡◌, ◌+◌, ◌-◌, ◌^◌, ◌<◌, min, drop}
use Rattle.bed_table.specs.Layout.{sum_of_sizes}
use Rattle.bed_table.proofs.layout.module_size.Given as goal

abbrev pub invariant-loop-function : goal.invariant-loop-function
invariant-loop-function l = (l.size < 2 ^ 64) × (min (l.size + sum_of_sizes (drop l.function-index l.functions)) (2 ^ 64 - 1) ≡ min (l.before + sum_of_sizes l.functions) (2 ^ 64 - 1))
