use Rattle.std.proofs.Common.{◌≡◌, ◌+◌, ◌≤◌, ◌++◌, drop, map}
use Rattle.bed_table.specs.Layout.{sum_of_sizes}
use Rattle.bed_link.specs.Seen.{loops_from}
use Rattle.bed_link.proofs.linked.loops_at.Given as goal

abbrev pub invariant-loop-part : goal.invariant-loop-part
invariant-loop-part l = record {
  counted : l.number ≤ l.at;
  within : l.at + sum_of_sizes (map (λ p. p.item.now) (drop l.part-index l.functions)) ≤ 4294967296;
  same : l.out ++ loops_from l.number l.at (map (λ p. p.item.now) (drop l.part-index l.functions)) ≡ loops_from 0 l.base (map (λ p. p.item.now) l.functions);
}
