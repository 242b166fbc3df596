use Rattle.std.proofs.Common.{◌≡◌, ◌+◌, ◌≤◌, ◌++◌, drop, map}
use Rattle.bed_table.specs.Pieces.{size_of, heads_of}
use Rattle.bed_table.specs.Code.{piece}
use Rattle.bed_table.proofs.heads.+heads.Given as goal

abbrev pub invariant-push_heads-loop-item : goal.invariant-push_heads-loop-item
invariant-push_heads-loop-item l = record {
  within : l.next + size_of (map piece (drop l.item-index l.body)) ≤ 4294967296;
  same : l.out.items ++ map (λ h. h.address) (heads_of l.next (map piece (drop l.item-index l.body)))
      ≡ l.initial.out.items ++ map (λ h. h.address) (heads_of l.at (map piece l.body));
}
