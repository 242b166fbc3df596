use Rattle.std.proofs.Common.{◌≡◌, length, nat_le}
use Rattle.bed_deriv.specs.Matches.{count_of_goals}
use Rattle.bed_deriv.proofs.matching.has_goals_within.Given as goal

abbrev pub invariant-loop-rest : goal.invariant-loop-rest
invariant-loop-rest l = nat_le (count_of_goals l.rest) l.left ≡ nat_le (count_of_goals l.fn.terms) l.n

abbrev pub decreases-loop-rest : goal.decreases-loop-rest
decreases-loop-rest l = length l.rest
