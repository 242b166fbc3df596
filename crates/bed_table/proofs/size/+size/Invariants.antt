use Rattle.std.proofs.Common.{◌≡◌, ◌+◌, ◌-◌, ◌^◌, ◌<◌, min, drop, map}
use Rattle.bed_table.specs.Pieces.{size_of}
use Rattle.bed_table.specs.Code.{piece}
use Rattle.bed_table.proofs.size.+size.Given as goal

abbrev pub invariant-body_size-loop-item : goal.invariant-body_size-loop-item
invariant-body_size-loop-item l =
    (l.size < 2 ^ 64) × (min (l.size + size_of (map piece (drop l.item-index l.body))) (2 ^ 64 - 1) ≡ min (size_of (map piece l.body)) (2 ^ 64 - 1))
