use Rattle.std.proofs.Common.{◌≡◌, take, map}
use Rattle.bed_names.specs.Resolved.{resolved_signature}
use Rattle.bed_names.proofs.resolving.items.signatures.Given as goal

abbrev pub invariant-loop-s : goal.invariant-loop-s
invariant-loop-s l = l.out ≡ map (resolved_signature l.declared) (take l.s-index l.items)
