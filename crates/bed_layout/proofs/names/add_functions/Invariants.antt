use Rattle.std.proofs.Common.{◌≡◌, ℕ, List, ◌++◌, map, drop}
use Rattle.bed_table.specs.Layout.{Label}
use Rattle.bed_layout.specs.Addresses.{function_label, address_with}
use Rattle.bed_layout.proofs.names.add_functions.Given as goal

abbrev pub invariant-loop-function : goal.invariant-loop-function
invariant-loop-function l =
    (more : List Label) (x : List ℕ) → address_with l.table (map function_label (drop l.function-index l.functions) ++ more) x ≡ address_with l.initial.table (map function_label l.functions ++ more) x
