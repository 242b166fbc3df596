use Rattle.std.proofs.Common.{◌≡◌, [], take, drop, map}
use Rattle.bed_names.specs.Faults.{noted}
use Rattle.bed_names.specs.Tables.{IsIndex}
use Rattle.bed_names.specs.Terms.{twice_after, twice_faults}
use Rattle.bed_names.proofs.index.index.Given as goal

abbrev pub invariant-loop-number : goal.invariant-loop-number
invariant-loop-number g l = record {
  table : IsIndex l.table (take l.number (map g.T.Named.name_of l.items));
  found : noted l.found (twice_after [] (take l.number (map g.T.Named.name_of l.items)) (drop l.number (map g.T.Named.name_of l.items)))
      ≡ noted l.fn.found (twice_faults [] (map g.T.Named.name_of l.items));
}
