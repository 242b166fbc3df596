-- A table of names, in the order in which they were first seen.
use Rattle.std.specs.Prelude.{◌≡◌, ℕ, ◌+◌, ◌<◌, if◌then◌else◌, List, [], ◌∷◌, map, Vec, Option, None, Some, option_map, bytes_eq, find, slice_get}
use Rattle.std.specs.Map.{lookup}
use Rattle.std.specs.declared.alloc.Global.{Global}
use Rattle.bed_lang.specs.declared.word.Name.{Name}
use Rattle.bed_lang.specs.declared.module.Signature.{Signature}
use Rattle.bed_lang.specs.declared.condition.Decls.{Decls}
use Rattle.bed_lang.specs.Lookups.{first_signature}
use Rattle.bed_names.specs.Statements.{frame}

-- the entries by the bytes of their names
abbrev pub by_bytes : List (Vec ℕ Global × ℕ) → List (List ℕ × ℕ)
by_bytes entries = map (λ e. (e.0.items, e.1)) entries

-- the number under a name
abbrev pub number_of : List (List ℕ × ℕ) → List ℕ → Option ℕ
number_of table name = lookup (bytes_eq name) table

-- the number, from 0, of the first name with these bytes
abbrev pub position_of : List Name → List ℕ → Option ℕ
position_of [] name = None
position_of (x ∷ xs) name = if bytes_eq name x.bytes then Some 0 else option_map (λ n. n + 1) (position_of xs name)

-- a table has under each name the number of its first item
abbrev pub IsIndex : List (List ℕ × ℕ) → List Name → Type 0
IsIndex table names = (name : List ℕ) → number_of table name ≡ position_of names name

-- the item at a position, where there is one
abbrev pub item_at : {T : Type 0} → List T → Option ℕ → Option T
item_at items None = None
item_at items (Some number) = slice_get items number

-- a table has the numbers of items by their names: the item with the number of a name is the first item of that name
abbrev pub Indexes : {T : Type 0} → (T → Name) → List (List ℕ × ℕ) → List T → Type 0
Indexes name_of table items =
    (name : List ℕ) → item_at items (number_of table name) ≡ find (λ t. bytes_eq (name_of t).bytes name) items

-- the frame of the first signature of each name is counted in 32 bits
abbrev pub FramesFit : List Signature → Type 0
FramesFit signatures = (x : List ℕ) (s : Signature) → first_signature signatures x ≡ Some s → frame s < 4294967296

-- the tables of the declarations
pub record AreTables (d : Decls) (signatures predicates labels : List (List ℕ × ℕ)) : Type 0 where
  pub signature : Indexes (λ s. s.name) signatures d.signatures
  pub predicate : Indexes (λ p. p.name) predicates d.predicates
  pub label : Indexes (λ l. l.0) labels d.labels
  pub fits : FramesFit d.signatures
