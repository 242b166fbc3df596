use Rattle.std.proofs.Common.{◌≡◌, ℕ, List, ◌++◌, map, drop}
use Rattle.bed_table.specs.Layout.{Label, import_label}
use Rattle.bed_layout.specs.Addresses.{address_with}
use Rattle.bed_layout.proofs.names.add_imports.Given as goal

abbrev pub invariant-loop-import : goal.invariant-loop-import
invariant-loop-import l =
    (more : List Label) (x : List ℕ) → address_with l.table (map import_label (drop l.import-index l.imports) ++ more) x ≡ address_with l.initial.table (map import_label l.imports ++ more) x
