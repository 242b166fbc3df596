use Rattle.std.proofs.Common.{◌≡◌, take, drop, map}
use Rattle.bed_names.specs.Tables.{IsIndex}
use Rattle.bed_link.specs.Linkable.{repeated, is_one_of}
use Rattle.bed_link.specs.Faults.{each_after, fault_if}
use Rattle.bed_link.specs.declared.error.LinkError.TheVariants.{Twice}
use Rattle.bed_link.proofs.twice.distinct.Given as goal

abbrev pub invariant-loop-number : goal.invariant-loop-number
invariant-loop-number g l = record {
  table : IsIndex l.table (take l.number (map g.T.Named.name_of l.items));
  faults : each_after (λ before x. fault_if (is_one_of before x) (Twice x)) (take l.number (map g.T.Named.name_of l.items)) (drop l.number (map g.T.Named.name_of l.items))
      ≡ repeated (map g.T.Named.name_of l.items);
}
