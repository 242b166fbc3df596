use Rattle.std.proofs.Common.{◌≡◌, ◌+◌, ◌-◌, ◌^◌, ◌<◌, min, drop, map}
use Rattle.bed_table.specs.Layout.{sum_of_sizes}
use Rattle.bed_link.proofs.lengths.length_of.Given as goal

abbrev pub invariant-loop-part : goal.invariant-loop-part
invariant-loop-part l = (l.length < 2 ^ 64)
    × (min (l.length + sum_of_sizes (map (λ p. p.item.now) (drop l.part-index l.functions))) (2 ^ 64 - 1)
    ≡ min (sum_of_sizes (map (λ p. p.item.now) l.functions)) (2 ^ 64 - 1))
