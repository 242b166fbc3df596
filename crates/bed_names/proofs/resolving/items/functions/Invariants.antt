use Rattle.std.proofs.Common.{◌≡◌, take, map}
use Rattle.bed_names.specs.Resolved.{resolved_function}
use Rattle.bed_names.proofs.resolving.items.functions.Given as goal

abbrev pub invariant-loop-f : goal.invariant-loop-f
invariant-loop-f l = l.out ≡ map (resolved_function l.declared) (take l.f-index l.items)
