use Rattle.std.proofs.Common.{◌≡◌, ℕ, List, [], drop, map, is_some}
use Rattle.bed_names.specs.Tables.{number_of}
use Rattle.bed_table.specs.Layout.{Defined, exports, outside_names}
use Rattle.bed_link.specs.Seen.{Knows}
use Rattle.bed_link.proofs.outside.outside_names_of.Given as goal

abbrev pub invariant-loop-part : goal.invariant-loop-part
invariant-loop-part l = record {
  seen : Knows l.seen (map (λ n. n.now) l.out.items);
  names : (ds : List Defined) → ((x : List ℕ) → is_some (number_of l.exported x) ≡ exports ds x)
      → outside_names ds (map (λ n. n.now) l.out.items) (map (λ p. p.item.now.name) (drop l.part-index l.imports))
      ≡ outside_names ds [] (map (λ p. p.item.now.name) l.imports);
}
