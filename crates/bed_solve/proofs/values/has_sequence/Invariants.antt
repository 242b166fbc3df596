use Rattle.std.proofs.Common.{◌≡◌, length}
use Rattle.bed_deriv.specs.PureRules.{has_sequence}
use Rattle.bed_solve.proofs.values.has_sequence.Given as goal

abbrev pub invariant-loop-rest : goal.invariant-loop-rest
invariant-loop-rest l = has_sequence l.v l.rest ≡ has_sequence l.v l.fn.pieces

abbrev pub decreases-loop-rest : goal.decreases-loop-rest
decreases-loop-rest l = length l.rest
