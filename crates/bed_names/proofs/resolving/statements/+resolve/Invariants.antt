use Rattle.std.proofs.Common.{◌≡◌, take, map}
use Rattle.bed_names.specs.Resolved.{resolved_stmt}
use Rattle.bed_names.proofs.resolving.statements.+resolve.Given as goal

abbrev pub invariant-body-loop-s : goal.invariant-body-loop-s
invariant-body-loop-s l = l.out ≡ map (resolved_stmt l.outer) (take l.s-index l.body)
