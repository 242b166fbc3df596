use Rattle.std.proofs.Common.{◌≡◌, ◌++◌, drop}
use Rattle.bed_deriv.specs.Opening.{local_values}
use Rattle.bed_check_cond.proofs.values.push_locals.Given as goal

abbrev pub invariant-loop-local : goal.invariant-loop-local
invariant-loop-local l = l.out ++ local_values (drop l.local-index l.locals) ≡ l.initial.out ++ local_values l.locals
