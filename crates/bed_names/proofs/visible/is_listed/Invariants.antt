use Rattle.std.proofs.Common.{◌≡◌, drop, map}
use Rattle.bed_names.specs.Names.{is_among}
use Rattle.bed_names.proofs.visible.is_listed.Given as goal

abbrev pub invariant-loop-y : goal.invariant-loop-y
invariant-loop-y l = is_among (map (λ y. y.now) (drop l.y-index l.names)) l.x ≡ is_among (map (λ y. y.now) l.names) l.x
