use Rattle.std.proofs.Common.{◌≡◌, drop, map}
use Rattle.bed_link.specs.Linkable.{missing}
use Rattle.bed_link.specs.Seen.{knows}
use Rattle.bed_link.proofs.unresolved.all_found.Given as goal

abbrev pub invariant-loop-part : goal.invariant-loop-part
invariant-loop-part l = missing (knows l.exported) (knows l.given) (map (λ p. p.item.now.name) (drop l.part-index l.imports))
    ≡ missing (knows l.exported) (knows l.given) (map (λ p. p.item.now.name) l.imports)
