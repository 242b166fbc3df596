use Rattle.std.proofs.Common.{◌≡◌, ◌++◌, drop, map}
use Rattle.bed_table.specs.Layout.{function_label, import_label, placed_from}
use Rattle.bed_table.specs.Seen.{defined_of, label_of}
use Rattle.bed_table.proofs.layout.all_labels.Given as goal

abbrev pub invariant-loop-import : goal.invariant-loop-import
invariant-loop-import l = map label_of l.out.items ++ map import_label (drop l.import-index l.imports)
    ≡ map function_label (placed_from l.base (map defined_of l.functions)) ++ map import_label l.imports
