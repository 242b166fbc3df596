use Rattle.std.proofs.Common.{◌≡◌, length}
use Rattle.bed_deriv.specs.Matches.{chosen}
use Rattle.bed_deriv.specs.Matching.{prefixed}
use Rattle.bed_deriv.proofs.choice.chosen.Given as goal

abbrev pub invariant-loop-rest : goal.invariant-loop-rest
invariant-loop-rest l = prefixed l.out (chosen l.atoms l.rest) ≡ chosen l.atoms l.fn.args

abbrev pub decreases-loop-rest : goal.decreases-loop-rest
decreases-loop-rest l = length l.rest
