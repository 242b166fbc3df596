use Rattle.std.proofs.Common.{◌≡◌, ◌+◌, ◌≤◌, ◌++◌, drop, map}
use Rattle.bed_table.specs.Layout.{function_label, placed_from, total_size}
use Rattle.bed_table.specs.Seen.{defined_of, label_of}
use Rattle.bed_table.proofs.layout.push_labels.Given as goal

abbrev pub invariant-loop-item : goal.invariant-loop-item
invariant-loop-item l = record {
  within : l.at + total_size (map defined_of (drop l.item-index l.functions)) ≤ 4294967296;
  same : map label_of l.out.items ++ map function_label (placed_from l.at (map defined_of (drop l.item-index l.functions)))
      ≡ map label_of l.initial.out.items ++ map function_label (placed_from l.base (map defined_of l.functions));
}
