use Rattle.std.proofs.Common.{◌≡◌, ◌++◌, length}
use Rattle.bed_deriv.specs.HeapRules.{cases_opened}
use Rattle.bed_check_heap.proofs.unfolding.cases_opened.Given as goal

abbrev pub invariant-loop-rest : goal.invariant-loop-rest
invariant-loop-rest l = l.out ++ cases_opened l.s l.values l.rest ≡ cases_opened l.s l.values l.fn.cases

abbrev pub decreases-loop-rest : goal.decreases-loop-rest
decreases-loop-rest l = length l.rest
