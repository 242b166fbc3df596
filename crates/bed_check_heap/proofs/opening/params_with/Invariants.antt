use Rattle.std.proofs.Common.{◌≡◌, ◌++◌, length}
use Rattle.bed_deriv.specs.HeapRules.{params_with}
use Rattle.bed_check_heap.proofs.opening.params_with.Given as goal

abbrev pub invariant-loop-left : goal.invariant-loop-left
invariant-loop-left l = l.out ++ params_with l.left l.rest ≡ params_with l.fn.params l.fn.args

abbrev pub decreases-loop-left : goal.decreases-loop-left
decreases-loop-left l = length l.left
