-- What stands where in the code of linked modules, by the table's layout.
use Rattle.std.specs.Prelude.{ℕ, Bool, List, map}
use Rattle.bed_lang.specs.declared.word.Name.{Name}
use Rattle.bed_lang.specs.declared.module.Module.{Module}
use Rattle.bed_table.specs.Layout.{Placed, placed, Loop, loops, code_length, outside_imports, label_address}
use Rattle.bed_link.specs.declared.linked.Linked.{Linked}

-- a function's name, its address, and whether it is exported
abbrev pub function_entry : Placed → Name × ℕ × Bool
function_entry p = (p.defined.function.name, p.address, p.defined.function.exported)

-- the number of a loop's function, and the address of its head
abbrev pub loop_entry : Loop → ℕ × ℕ
loop_entry l = (l.function, l.head.address)

abbrev pub resolved : List Module → List (Name × ℕ) → ℕ → Linked
resolved modules given base = record {
  base = base;
  length = code_length modules;
  functions = map function_entry (placed modules base);
  loops = map loop_entry (loops modules base);
  imports = map (λ x. (x, label_address modules base given x.bytes)) (outside_imports modules);
}
