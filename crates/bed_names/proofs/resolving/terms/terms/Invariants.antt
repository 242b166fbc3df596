use Rattle.std.proofs.Common.{◌≡◌, take, map}
use Rattle.bed_names.specs.Resolved.{resolved_term}
use Rattle.bed_names.proofs.resolving.terms.terms.Given as goal

abbrev pub invariant-loop-t : goal.invariant-loop-t
invariant-loop-t l = l.out ≡ map (resolved_term l.scope) (take l.t-index l.terms)
