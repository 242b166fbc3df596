use Rattle.std.proofs.Common.{◌≡◌, ◌++◌, drop}
use Rattle.bed_deriv.specs.Opening.{local_values}
use Rattle.bed_search.proofs.given.local_values.Given as goal

abbrev pub invariant-loop-local : goal.invariant-loop-local
invariant-loop-local l = l.out ++ local_values (drop l.local-index l.locals) ≡ local_values l.locals
