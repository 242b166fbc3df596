-- Memories and their parts, as in separation logic: a memory is the disjoint union of parts, each with bytes of its own.
use Rattle.std.specs.Prelude.{◌≡◌, ℕ, ◌⊎◌, Option, Some, None, List, [], ◌∷◌}
use Rattle.bed_machine.specs.Memory.{Memory, empty}

-- what a memory and its two parts have at one address: one part has nothing there, and the memory has what the other has
abbrev pub Meet : (whole left right : Option ℕ) → Type 0
Meet whole left right = (left ≡ None) × (whole ≡ right) ⊎ (right ≡ None) × (whole ≡ left)

-- a memory is the disjoint union of two parts
pub record Joins (whole left right : Memory) : Type 0 where
  pub at : (a : ℕ) → Meet (whole a) (left a) (right a)

-- a memory is the disjoint union of the parts in a list
abbrev pub JoinsAll : Memory → List Memory → Type 0
JoinsAll whole [] = whole ≡ empty
JoinsAll whole (part ∷ parts) = (others : Memory) × Joins whole part others × JoinsAll others parts

-- a memory has each byte of a part
pub record Includes (whole part : Memory) : Type 0 where
  pub at : (a v : ℕ) → part a ≡ Some v → whole a ≡ Some v

-- no address is in both
pub record AreDisjoint (left right : Memory) : Type 0 where
  pub at : (a : ℕ) → (left a ≡ None) ⊎ (right a ≡ None)

-- the first of two bytes that is there
abbrev pub or_else : Option ℕ → Option ℕ → Option ℕ
or_else (Some v) other = Some v
or_else None other = other

-- the bytes of two memories; where both have one, that of the first
abbrev pub union : Memory → Memory → Memory
union left right a = or_else (left a) (right a)
