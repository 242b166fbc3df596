use Rattle.std.proofs.Common.{◌≡◌, take, drop, map}
use Rattle.bed_names.specs.Tables.{IsIndex}
use Rattle.bed_link.specs.Faults.{each_after, differs_from, first_named, differing}
use Rattle.bed_link.proofs.differing.all_agree.Given as goal

abbrev pub invariant-loop-number : goal.invariant-loop-number
invariant-loop-number g l = record {
  table : IsIndex l.table (take l.number (map g.T.Declared.name_of l.items));
  faults : each_after
      (λ before t.
      differs_from g.T.Declared.name_of g.T.Declared.number_of g.T.Declared.same
      (first_named g.T.Declared.name_of g.T.Declared.number_of g.T.Declared.same before t) t)
      (take l.number l.items) (drop l.number l.items)
      ≡ differing g.T.Declared.name_of g.T.Declared.number_of g.T.Declared.same l.items;
}
