-- The bytes of an image file.
use Rattle.std.specs.Prelude.{ℕ, ◌+◌, ◌-◌, List, [], ◌∷◌, ◌++◌, map, length, drop, decimal, codes, if◌then◌else◌}
use Rattle.bed_lang.specs.declared.word.Name.{Name}
use Rattle.bed_lang.specs.declared.module.Module.{Module}
use Rattle.bed_lang.specs.Numbers.{word_bytes}
use Rattle.bed_table.specs.Layout.{Placed, placed, heads_at, label_address, outside_imports, code_length, code}

-- kinds: 0 a function, 1 an exported function, 2 a loop head, 3 an import
pub record Symbol : Type 0 where
  pub kind : ℕ
  pub address : ℕ
  pub name : List ℕ

-- a name of more than 255 bytes is written as its last 255 bytes
abbrev pub short : List ℕ → List ℕ
short name = drop (length name - 255) name

-- loop j of a function f, from 1, is named `f.loopj`
abbrev pub loop_name : List ℕ → ℕ → List ℕ
loop_name function j = function ++ (codes ".loop" ++ decimal j)

-- the loops of a function from number j on, by the addresses of their heads
abbrev pub loop_symbols : List ℕ → ℕ → List ℕ → List Symbol
loop_symbols function j [] = []
loop_symbols function j (a ∷ more) = record { kind = 2; address = a; name = short (loop_name function j) } ∷ loop_symbols function (1 + j) more

-- a function stands before its loops
abbrev pub function_symbols : Placed → List Symbol
function_symbols p =
    record { kind = if p.defined.function.exported then 1 else 0; address = p.address; name = short p.defined.function.name.bytes }
    ∷ loop_symbols p.defined.function.name.bytes 1 (map (λ h. h.address) (heads_at p))

abbrev pub symbols_of : List Placed → List Symbol
symbols_of [] = []
symbols_of (p ∷ ps) = function_symbols p ++ symbols_of ps

abbrev pub import_symbols : (List ℕ → ℕ) → List Name → List Symbol
import_symbols labels names = map (λ n. record { kind = 3; address = labels n.bytes; name = short n.bytes }) names

-- the symbols: functions with their loops in layout order, and then the outside imports
abbrev pub symbols : List Module → ℕ → List (Name × ℕ) → List Symbol
symbols modules base imports =
    symbols_of (placed modules base) ++ import_symbols (label_address modules base imports) (outside_imports modules)

-- kind, address, length of the name, name
abbrev pub symbol_bytes : Symbol → List ℕ
symbol_bytes s = (s.kind ∷ word_bytes s.address) ++ (length s.name ∷ s.name)

abbrev pub table_bytes : List Symbol → List ℕ
table_bytes [] = []
table_bytes (s ∷ ss) = symbol_bytes s ++ table_bytes ss

-- `BIM1`, the base, the length of the code, the number of symbols, the symbols, the code
abbrev pub image : List Module → ℕ → List (Name × ℕ) → List ℕ
image modules base imports =
    codes "BIM1" ++ (word_bytes base ++ (word_bytes (code_length modules)
    ++ (word_bytes (length (symbols modules base imports))
    ++ (table_bytes (symbols modules base imports) ++ code modules base imports))))
