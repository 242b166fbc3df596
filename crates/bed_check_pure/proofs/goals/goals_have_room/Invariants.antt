use Rattle.std.proofs.Common.{◌≡◌, length}
use Rattle.bed_deriv.specs.Checks.{have_room, states_of}
use Rattle.bed_check_pure.proofs.goals.goals_have_room.Given as goal

abbrev pub invariant-loop-rest : goal.invariant-loop-rest
invariant-loop-rest l = have_room (states_of l.rest) ≡ have_room (states_of l.fn.goals)

abbrev pub decreases-loop-rest : goal.decreases-loop-rest
decreases-loop-rest l = length l.rest
