use Rattle.std.proofs.Common.{◌≡◌, ◌+◌, ◌≤◌, ◌++◌, drop, map}
use Rattle.bed_table.specs.Pieces.{size_of, bytes_of}
use Rattle.bed_table.specs.Code.{piece}
use Rattle.bed_table.specs.Seen.{names_in, labels_in}
use Rattle.bed_table.proofs.code.+code.Given as goal

abbrev pub invariant-put_body-loop-item : goal.invariant-put_body-loop-item
invariant-put_body-loop-item l = record {
  within : l.next + size_of (map piece (drop l.item-index l.body)) ≤ 4294967296;
  same : l.out.items ++ bytes_of (names_in l.scope) (labels_in l.scope) l.next (map piece (drop l.item-index l.body))
      ≡ l.initial.out.items ++ bytes_of (names_in l.scope) (labels_in l.scope) l.at (map piece l.body);
}
