use Rattle.std.proofs.Common.{◌≡◌, drop, map}
use Rattle.bed_table.specs.Layout.{is_among}
use Rattle.bed_table.proofs.layout.is_among.Given as goal

abbrev pub invariant-loop-other : goal.invariant-loop-other
invariant-loop-other l = is_among (map (λ n. n.now) (drop l.other-index l.names)) l.name.bytes ≡ is_among (map (λ n. n.now) l.names) l.name.bytes
