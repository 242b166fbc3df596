-- Pieces of code, and how they stand one after the other.
use Rattle.std.specs.Prelude.{ℕ, ◌+◌, Bool, true, List, [], ◌∷◌, ◌++◌}
use Rattle.bed_lang.specs.declared.word.Name.{Name}
use Rattle.bed_lang.specs.declared.logic.Assertion.{Assertion}

-- the first address of a loop, and what holds whenever control is there
pub record Head : Type 0 where
  pub address : ℕ
  pub invariant : Assertion

-- the code of a part of a function
pub record Piece : Type 0 where
  -- whether control may come to the end of the part
  pub falls : Bool
  -- the number of its bytes
  pub size : ℕ
  -- its bytes: by the function's locals (the arguments first), the addresses of labels by name, and the address of its first byte
  pub bytes : List Name → (List ℕ → ℕ) → ℕ → List ℕ
  -- the heads of its loops in the order of the text, by the address of its first byte
  pub heads : ℕ → List Head

-- code with no loop, whose bytes are the same at each address
abbrev pub straight : ℕ → (List Name → (List ℕ → ℕ) → List ℕ) → Piece
straight size code = record { falls = true; size = size; bytes = λ locals labels at. code locals labels; heads = λ at. [] }

-- no code
abbrev pub nothing : Piece
nothing = straight 0 (λ locals labels. [])

-- the last piece of a list decides whether control comes to its end; `before` where there is none
abbrev pub falls_after : Bool → List Piece → Bool
falls_after before [] = before
falls_after before (p ∷ ps) = falls_after p.falls ps

abbrev pub size_of : List Piece → ℕ
size_of [] = 0
size_of (p ∷ ps) = p.size + size_of ps

abbrev pub bytes_of : List Name → (List ℕ → ℕ) → ℕ → List Piece → List ℕ
bytes_of locals labels at [] = []
bytes_of locals labels at (p ∷ ps) = p.bytes locals labels at ++ bytes_of locals labels (at + p.size) ps

abbrev pub heads_of : ℕ → List Piece → List Head
heads_of at [] = []
heads_of at (p ∷ ps) = p.heads at ++ heads_of (at + p.size) ps

-- pieces one after the other, with nothing between them
abbrev pub sequence : List Piece → Piece
sequence ps = record { falls = falls_after true ps; size = size_of ps; bytes = λ locals labels at. bytes_of locals labels at ps; heads = λ at. heads_of at ps }
