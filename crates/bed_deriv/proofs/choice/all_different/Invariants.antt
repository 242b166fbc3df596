use Rattle.std.proofs.Common.{◌≡◌, length}
use Rattle.bed_deriv.specs.Matches.{all_different}
use Rattle.bed_deriv.proofs.choice.all_different.Given as goal

abbrev pub invariant-loop-rest : goal.invariant-loop-rest
invariant-loop-rest l = all_different l.rest ≡ all_different l.fn.choices

abbrev pub decreases-loop-rest : goal.decreases-loop-rest
decreases-loop-rest l = length l.rest
