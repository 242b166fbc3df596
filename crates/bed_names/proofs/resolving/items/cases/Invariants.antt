use Rattle.std.proofs.Common.{◌≡◌, take, map}
use Rattle.bed_names.specs.Resolved.{resolved_assertion}
use Rattle.bed_names.proofs.resolving.items.cases.Given as goal

abbrev pub invariant-loop-a : goal.invariant-loop-a
invariant-loop-a l = l.out ≡ map (resolved_assertion l.outer) (take l.a-index l.cases)
