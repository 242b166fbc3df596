-- What the code's own values stand for.
use Rattle.std.specs.Prelude.{◌≡◌, ℕ, ◌+◌, List, ◌++◌, map, length}
use Rattle.bed_lang.specs.declared.word.Name.{Name}
use Rattle.bed_lang.specs.Numbers.{wrap}
use Rattle.bed_table.specs.declared.scope.Known.{Known}
use Rattle.bed_table.specs.declared.scope.Scope.{Scope}
use Rattle.bed_table.specs.declared.layout.Item.{Item}
use Rattle.bed_table.specs.declared.symbols.SymbolTable.{SymbolTable}
use Rattle.bed_table.specs.Layout.{Label, Defined, address_of}
use Rattle.bed_table.specs.Image.{Symbol, table_bytes}

-- a label with its address
abbrev pub label_of : Known → Label
label_of k = record { name = k.name.now.bytes; address = k.address }

-- the locals of a function, the arguments first
abbrev pub names_in : Scope → List Name
names_in s = s.params.now ++ s.locals.now

abbrev pub labels_in : Scope → List ℕ → ℕ
labels_in s = address_of (map label_of s.labels.now)

-- a function with its locals
abbrev pub defined_of : Item → Defined
defined_of i = record { function = i.function.now; locals = i.params.now ++ i.function.now.locals }

-- symbols are written at the end of a table, and counted modulo 2^32
pub record Adds (old new : SymbolTable) (symbols : List Symbol) : Type 0 where
  pub bytes_are : new.bytes.items ≡ old.bytes.items ++ table_bytes symbols
  pub count_is : wrap new.count ≡ wrap (old.count + length symbols)

-- a table of these symbols
pub record IsTable (symbols : List Symbol) (t : SymbolTable) : Type 0 where
  pub bytes_are : t.bytes.items ≡ table_bytes symbols
  pub count_is : wrap t.count ≡ wrap (length symbols)
