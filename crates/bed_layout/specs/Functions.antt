-- Functions as blocks, and where they stand in code.
use Rattle.std.specs.Prelude.{◌≡◌, ℕ, ◌+◌, List, [], ◌∷◌, ◌++◌}
use Rattle.bed_il.specs.declared.blocks.Block.{Block}
use Rattle.bed_il.specs.Bytes.{laid}
use Rattle.bed_il.specs.Places.{blocks_size, place_of}
use Rattle.bed_laws.specs.Activations.{FunctionSite}
use Rattle.bed_laws.specs.Keeps.{LoopHead}

-- the bytes of a function's blocks from an address, where each label has the address of its block
abbrev pub function_bytes : (List ℕ → ℕ) → List Block → ℕ → List ℕ
function_bytes functions B at = laid functions (place_of B at) B at

-- the bytes of functions one right after the other, from an address; `functions` has the address of each function and import
abbrev pub code_bytes : (List ℕ → ℕ) → List (List Block) → ℕ → List ℕ
code_bytes functions [] at = []
code_bytes functions (B ∷ Bs) at = function_bytes functions B at ++ code_bytes functions Bs (at + blocks_size B)

-- a function as blocks: what its statements are about, the address of its first byte, the label of its first block, its blocks, and the
-- heads of its loops
pub record BlockFunction : Type 0 where
  pub site : FunctionSite
  pub address : ℕ
  pub entry : ℕ
  pub blocks : List Block
  pub heads : List LoopHead

-- the address of each of a function's labels
abbrev pub places_in : BlockFunction → ℕ → ℕ
places_in f = place_of f.blocks f.address

-- functions have the addresses that they have one right after the other, from an address
abbrev pub StandFrom : List BlockFunction → ℕ → Type 0
StandFrom [] at = Unit {0}
StandFrom (f ∷ fs) at = (f.address ≡ at) × StandFrom fs (at + blocks_size f.blocks)
