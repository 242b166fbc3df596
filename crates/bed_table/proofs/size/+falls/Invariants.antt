use Rattle.std.proofs.Common.{◌≡◌, true, drop, map}
use Rattle.bed_table.specs.Pieces.{falls_after}
use Rattle.bed_table.specs.Code.{piece}
use Rattle.bed_table.proofs.size.+falls.Given as goal

abbrev pub invariant-body_falls-loop-item : goal.invariant-body_falls-loop-item
invariant-body_falls-loop-item l = falls_after l.falls (map piece (drop l.item-index l.body)) ≡ falls_after true (map piece l.body)
