use Rattle.std.proofs.Common.{◌≡◌, ◌+◌, ◌≤◌, ◌++◌, drop, map}
use Rattle.bed_table.specs.Layout.{sum_of_sizes}
use Rattle.bed_link.specs.Seen.{entries_from}
use Rattle.bed_link.proofs.linked.functions_at.Given as goal

abbrev pub invariant-loop-part : goal.invariant-loop-part
invariant-loop-part l = record {
  within : l.at + sum_of_sizes (map (λ p. p.item.now) (drop l.part-index l.functions)) ≤ 4294967296;
  same : l.out ++ entries_from l.at (map (λ p. p.item.now) (drop l.part-index l.functions)) ≡ entries_from l.base (map (λ p. p.item.now) l.functions);
}
