use Rattle.std.proofs.Common.{◌≡◌, length}
use Rattle.bed_deriv.specs.Matches.{is_chosen}
use Rattle.bed_deriv.proofs.choice.is_chosen.Given as goal

abbrev pub invariant-loop-rest : goal.invariant-loop-rest
invariant-loop-rest l = is_chosen l.number l.rest ≡ is_chosen l.number l.fn.choices

abbrev pub decreases-loop-rest : goal.decreases-loop-rest
decreases-loop-rest l = length l.rest
