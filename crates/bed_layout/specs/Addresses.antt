-- The addresses of functions and imports, by their names.
use Rattle.std.specs.Prelude.{ℕ, Bool, List, ◌++◌, map, unwrap_or}
use Rattle.bed_lang.specs.declared.word.Name.{Name}
use Rattle.bed_table.specs.Layout.{Label, address_of, import_label}
use Rattle.bed_names.specs.Tables.{number_of}

-- a name with an address
abbrev pub label : Name → ℕ → Label
label name at = record { name = name.bytes; address = at }

-- a function's name, with its address and whether it is exported, as a label
abbrev pub function_label : Name × ℕ × Bool → Label
function_label f = record { name = f.0.bytes; address = f.1 }

-- the address of a name: that of the first function or else import of the name; 0 where there is none
abbrev pub addresses : List (Name × ℕ × Bool) → List (Name × ℕ) → List ℕ → ℕ
addresses functions imports = address_of (map function_label functions ++ map import_label imports)

-- the address of a name by a table, and by labels that aren't in it yet
abbrev pub address_with : List (List ℕ × ℕ) → List Label → List ℕ → ℕ
address_with table more name = unwrap_or (number_of table name) (address_of more name)

-- the address of a name by a table; 0 where there is none
abbrev pub address_in : List (List ℕ × ℕ) → List ℕ → ℕ
address_in table name = unwrap_or (number_of table name) 0
