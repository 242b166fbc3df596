use Rattle.std.proofs.Common.{◌≡◌, length}
use Rattle.bed_plain.specs.Solving.{first_step}
use Rattle.bed_solve.proofs.steps.first_step.Given as goal

abbrev pub invariant-loop-rest : goal.invariant-loop-rest
invariant-loop-rest l = first_step l.s l.taken l.number l.rest ≡ first_step l.s l.taken 1 l.s.facts

abbrev pub decreases-loop-rest : goal.decreases-loop-rest
decreases-loop-rest l = length l.rest
