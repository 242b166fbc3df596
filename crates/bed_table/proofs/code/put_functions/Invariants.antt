use Rattle.std.proofs.Common.{◌≡◌, ◌+◌, ◌≤◌, ◌++◌, drop, map}
use Rattle.bed_table.specs.Layout.{placed_from, total_size, code_of, address_of}
use Rattle.bed_table.specs.Seen.{defined_of, label_of}
use Rattle.bed_table.proofs.code.put_functions.Given as goal

abbrev pub invariant-loop-item : goal.invariant-loop-item
invariant-loop-item l = record {
  within : l.at + total_size (map defined_of (drop l.item-index l.functions)) ≤ 4294967296;
  same : l.out.items ++ code_of (address_of (map label_of l.labels)) (placed_from l.at (map defined_of (drop l.item-index l.functions)))
      ≡ l.initial.out.items ++ code_of (address_of (map label_of l.labels)) (placed_from l.base (map defined_of l.functions));
}
