use Rattle.std.proofs.Common.{◌≡◌, take, map}
use Rattle.bed_names.specs.Resolved.{resolved_predicate}
use Rattle.bed_names.proofs.resolving.items.predicates.Given as goal

abbrev pub invariant-loop-p : goal.invariant-loop-p
invariant-loop-p l = l.out ≡ map (resolved_predicate l.declared) (take l.p-index l.items)
