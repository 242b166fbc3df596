use Rattle.std.proofs.Common.{◌≡◌, length}
use Rattle.bed_deriv.specs.Checks.{have_room}
use Rattle.bed_check_heap.proofs.remainder.states_have_room.Given as goal

abbrev pub invariant-loop-rest : goal.invariant-loop-rest
invariant-loop-rest l = have_room l.rest ≡ have_room l.fn.states

abbrev pub decreases-loop-rest : goal.decreases-loop-rest
decreases-loop-rest l = length l.rest
