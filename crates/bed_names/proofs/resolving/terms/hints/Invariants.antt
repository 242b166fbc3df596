use Rattle.std.proofs.Common.{◌≡◌, take, map}
use Rattle.bed_names.specs.Resolved.{resolved_hint}
use Rattle.bed_names.proofs.resolving.terms.hints.Given as goal

abbrev pub invariant-loop-h : goal.invariant-loop-h
invariant-loop-h l = l.out ≡ map (resolved_hint l.outer) (take l.h-index l.hints)
