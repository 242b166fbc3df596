-- Parts of memory of a known form, as the points-to assertions of separation logic have them: each has these bytes and no
-- others, so nothing is dropped or left over.
use Rattle.std.specs.Prelude.{◌≡◌, ℕ, ◌+◌, ◌<◌, ◌≤◌, Some, List, [], ◌∷◌, length}
use Rattle.bed_lang.specs.Numbers.{wrap}
use Rattle.bed_machine.specs.Memory.{Memory, empty, word_at}
use Rattle.bed_sat.specs.Parts.{Joins}

-- exactly the four bytes of one word, the lowest first; the last of them has an address
pub record IsCell (address content : ℕ) (h : Memory) : Type 0 where
  pub holds : word_at h address ≡ Some content
  pub only : (a v : ℕ) → h a ≡ Some v → (address ≤ a) × (a < address + 4) × (v < 256)

-- exactly one byte
pub record IsByte (address content : ℕ) (h : Memory) : Type 0 where
  pub holds : h address ≡ Some content
  pub only : (a v : ℕ) → h a ≡ Some v → (a ≡ address) × (v < 256)

-- exactly these words in a row: at an address, 4 after it and so on, modulo 2^32
abbrev pub AreWordsAt : ℕ → List ℕ → Memory → Type 0
AreWordsAt address [] h = h ≡ empty
AreWordsAt address (v ∷ vs) h =
    (first others : Memory) × Joins h first others × IsCell address v first × AreWordsAt (wrap (address + 4)) vs others

-- exactly n words in a row, of any contents
abbrev pub IsBlock : ℕ → ℕ → Memory → Type 0
IsBlock address n h = (vs : List ℕ) × (length vs ≡ n) × AreWordsAt address vs h
