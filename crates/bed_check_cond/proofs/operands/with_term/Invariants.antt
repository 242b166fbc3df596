use Rattle.std.proofs.Common.{◌≡◌, ◌++◌, drop}
use Rattle.bed_deriv.specs.Steps.{with_term}
use Rattle.bed_check_cond.proofs.operands.with_term.Given as goal

abbrev pub invariant-loop-local : goal.invariant-loop-local
invariant-loop-local l = l.out ++ with_term (drop l.local-index l.locals) l.x l.w ≡ with_term l.locals l.x l.w
