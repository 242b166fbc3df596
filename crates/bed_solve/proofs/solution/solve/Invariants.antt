use Rattle.bed_solve.proofs.SolvingLemmas.{IsPart}
use Rattle.bed_solve.proofs.solution.solve.Given as goal

abbrev pub invariant-loop-left : goal.invariant-loop-left
invariant-loop-left l = IsPart l.s l.out l.taken l.left

abbrev pub decreases-loop-left : goal.decreases-loop-left
decreases-loop-left l = l.left
