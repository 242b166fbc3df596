use Rattle.std.proofs.Common.{◌≡◌, length}
use Rattle.bed_deriv.specs.Steps.{operand_terms}
use Rattle.bed_deriv.specs.Matching.{prefixed}
use Rattle.bed_check_cond.proofs.operands.operand_terms.Given as goal

abbrev pub invariant-loop-rest : goal.invariant-loop-rest
invariant-loop-rest l = prefixed l.out (operand_terms l.locals l.rest) ≡ operand_terms l.locals l.fn.operands

abbrev pub decreases-loop-rest : goal.decreases-loop-rest
decreases-loop-rest l = length l.rest
