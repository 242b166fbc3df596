-- Where functions stand: modules in their order, functions in the order of the text, with nothing between them, from a base.
use Rattle.std.specs.Prelude.{ℕ, ◌+◌, Bool, false, ◌&&◌, ◌||◌, List, [], ◌∷◌, ◌++◌, map, bytes_eq, if◌then◌else◌}
use Rattle.bed_lang.specs.declared.word.Name.{Name}
use Rattle.bed_lang.specs.declared.module.Signature.{Signature}
use Rattle.bed_lang.specs.declared.module.Function.{Function}
use Rattle.bed_lang.specs.declared.module.Module.{Module}
use Rattle.bed_table.specs.Pieces.{Head}
use Rattle.bed_table.specs.Code.{locals_of, function_piece}

-- a function with its locals, the arguments first
pub record Defined : Type 0 where
  pub function : Function
  pub locals : List Name

abbrev pub define : List Signature → Function → Defined
define signatures f = record { function = f; locals = locals_of signatures f }

abbrev pub defined_in : Module → List Defined
defined_in m = map (define m.signatures) m.functions

-- the functions of all modules, in layout order
abbrev pub all_defined : List Module → List Defined
all_defined [] = []
all_defined (m ∷ ms) = defined_in m ++ all_defined ms

-- a function with its address
pub record Placed : Type 0 where
  pub defined : Defined
  pub address : ℕ

abbrev pub function_size : Defined → ℕ
function_size d = (function_piece d.function).size

-- each function stands right behind the one before it
abbrev pub placed_from : ℕ → List Defined → List Placed
placed_from at [] = []
placed_from at (d ∷ ds) = record { defined = d; address = at } ∷ placed_from (at + function_size d) ds

abbrev pub placed : List Module → ℕ → List Placed
placed modules base = placed_from base (all_defined modules)

-- the length of the code
abbrev pub total_size : List Defined → ℕ
total_size [] = 0
total_size (d ∷ ds) = function_size d + total_size ds

-- the same, of functions in a text
abbrev pub sum_of_sizes : List Function → ℕ
sum_of_sizes [] = 0
sum_of_sizes (f ∷ fs) = (function_piece f).size + sum_of_sizes fs

abbrev pub code_length : List Module → ℕ
code_length modules = total_size (all_defined modules)

-- a name with an address
pub record Label : Type 0 where
  pub name : List ℕ
  pub address : ℕ

-- the address of the first label of a name; 0 where there is none
abbrev pub address_of : List Label → List ℕ → ℕ
address_of [] name = 0
address_of (l ∷ ls) name = if bytes_eq l.name name then l.address else address_of ls name

-- the labels: the functions of all modules, and then the addresses that are given for imports
abbrev pub function_label : Placed → Label
function_label p = record { name = p.defined.function.name.bytes; address = p.address }

abbrev pub import_label : Name × ℕ → Label
import_label i = record { name = i.0.bytes; address = i.1 }

abbrev pub all_labels : List Module → ℕ → List (Name × ℕ) → List Label
all_labels modules base imports =
    map function_label (placed modules base) ++ map import_label imports

abbrev pub label_address : List Module → ℕ → List (Name × ℕ) → List ℕ → ℕ
label_address modules base imports = address_of (all_labels modules base imports)

-- the bytes of functions, one after the other
abbrev pub code_of : (List ℕ → ℕ) → List Placed → List ℕ
code_of labels [] = []
code_of labels (p ∷ ps) = (function_piece p.defined.function).bytes p.defined.locals labels p.address ++ code_of labels ps

abbrev pub code : List Module → ℕ → List (Name × ℕ) → List ℕ
code modules base imports = code_of (label_address modules base imports) (placed modules base)

-- what is known of a function at its address: the name of its signature, and whether it is exported
pub record Entry : Type 0 where
  pub name : List ℕ
  pub address : ℕ
  pub signature : List ℕ
  pub exported : Bool

abbrev pub entries : List Module → ℕ → List Entry
entries modules base =
    map (λ p. record {
      name = p.defined.function.name.bytes;
      address = p.address;
      signature = p.defined.function.signature.bytes;
      exported = p.defined.function.exported;
    })
    (placed modules base)

-- the loop heads of a function at its address
abbrev pub heads_at : Placed → List Head
heads_at p = (function_piece p.defined.function).heads p.address

-- a loop head, with the number of its function, from 0, in layout order
pub record Loop : Type 0 where
  pub function : ℕ
  pub head : Head

abbrev pub loops_from : ℕ → List Placed → List Loop
loops_from number [] = []
loops_from number (p ∷ ps) = map (λ h. record { function = number; head = h }) (heads_at p) ++ loops_from (1 + number) ps

-- the loop heads of all functions, in layout order
abbrev pub loops : List Module → ℕ → List Loop
loops modules base = loops_from 0 (placed modules base)

-- whether there is an exported function of this name
abbrev pub exports : List Defined → List ℕ → Bool
exports [] name = false
exports (d ∷ ds) name = (d.function.exported && bytes_eq d.function.name.bytes name) || exports ds name

-- the names of all imports, in the order of modules and texts
abbrev pub imported : List Module → List Name
imported [] = []
imported (m ∷ ms) = map (λ i. i.name) m.imports ++ imported ms

abbrev pub is_among : List Name → List ℕ → Bool
is_among [] name = false
is_among (n ∷ ns) name = bytes_eq n.bytes name || is_among ns name

-- of a list of names, those that aren't exported functions, each at its first place; `seen` are those that were met before
abbrev pub outside_names : List Defined → List Name → List Name → List Name
outside_names functions seen [] = seen
outside_names functions seen (n ∷ ns) =
    outside_names functions (if exports functions n.bytes || is_among seen n.bytes then seen else (seen ++ n ∷ [])) ns

-- the imports that no module exports, in the order of their first declaration
abbrev pub outside_imports : List Module → List Name
outside_imports modules = outside_names (all_defined modules) [] (imported modules)
