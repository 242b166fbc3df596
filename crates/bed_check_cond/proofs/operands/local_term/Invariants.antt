use Rattle.std.proofs.Common.{◌≡◌, length}
use Rattle.bed_deriv.specs.Steps.{local_term}
use Rattle.bed_check_cond.proofs.operands.local_term.Given as goal

abbrev pub invariant-loop-rest : goal.invariant-loop-rest
invariant-loop-rest l = local_term l.rest l.x.bytes ≡ local_term l.fn.locals l.x.bytes

abbrev pub decreases-loop-rest : goal.decreases-loop-rest
decreases-loop-rest l = length l.rest
