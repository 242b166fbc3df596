use Rattle.std.proofs.Common.{◌≡◌, length}
use Rattle.bed_deriv.specs.Matches.{match_goals}
use Rattle.bed_deriv.specs.Matching.{prefixed}
use Rattle.bed_deriv.proofs.matching.match_goals.Given as goal

abbrev pub invariant-loop-rest : goal.invariant-loop-rest
invariant-loop-rest l = prefixed l.out (match_goals l.rest l.left) ≡ match_goals l.fn.terms l.fn.choices

abbrev pub decreases-loop-rest : goal.decreases-loop-rest
decreases-loop-rest l = length l.rest
