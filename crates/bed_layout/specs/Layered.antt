-- Layers: the room for one function's bytes at a time.
use Rattle.std.specs.Prelude.{◌≡◌, ℕ, ◌+◌, Bool, List, [], ◌∷◌, ◌++◌}
use Rattle.bed_lang.specs.declared.word.Name.{Name}
use Rattle.bed_il.specs.declared.blocks.Block.{Block}
use Rattle.bed_il.specs.Places.{blocks_size}

-- the functions of all items of code, in order
abbrev pub functions_in : List (List (List Block)) → List (List Block)
functions_in [] = []
functions_in (m ∷ ms) = m ++ functions_in ms

-- the number of the bytes of functions
abbrev pub total_size : List (List Block) → ℕ
total_size [] = 0
total_size (B ∷ Bs) = blocks_size B + total_size Bs

-- a layer is seen as the bytes of its room, and the addresses under names
pub record LayerView : Type 0 where
  pub bytes : List ℕ
  pub names : List (List ℕ × ℕ)

-- functions have the addresses at which their blocks stand, one right after the other from an address
abbrev pub StandAt : List (Name × ℕ × Bool) → List (List Block) → ℕ → Type 0
StandAt [] [] at = Unit {0}
StandAt (f ∷ fs) (B ∷ Bs) at = (f.1 ≡ at) × StandAt fs Bs (at + blocks_size B)
StandAt _ _ at = ⊥
