-- From blocks to sound images: statements of laws.
use Rattle.std.specs.Prelude.{◌≡◌, ℕ, ◌+◌, Bool, Some, List, ◌++◌, take, slice_get, Contains}
use Rattle.bed_lang.specs.declared.word.Name.{Name}
use Rattle.bed_sat.specs.Runs.{Outside}
use Rattle.bed_sat.specs.Sound.{Linked, world_of, IsOutsideOf, IsSound, IsSoundFromAll}
use Rattle.bed_il.specs.declared.blocks.Block.{Block}
use Rattle.bed_layout.specs.Functions.{BlockFunction, places_in, function_bytes, code_bytes}
use Rattle.bed_layout.specs.Layered.{StandAt}
use Rattle.bed_layout.specs.Keeping.{KeepsFunction}
use Rattle.bed_layout.specs.Placed.{IsPlaced}
use Rattle.bed_layout.specs.Written.{IsWritten}

-- beside every outside, the blocks of each function keep its specification
abbrev pub AllKeep : Linked → List BlockFunction → Type 0
AllKeep p fs =
    (X : Outside) → IsOutsideOf p X → (f : BlockFunction) → Contains fs f
    → KeepsFunction (world_of p X) f.site (places_in f) f.blocks f.heads f.entry

-- where functions keep their specifications and are laid out, the code is sound from all of them
abbrev pub KeptIsSoundFromAll : Type 0
KeptIsSoundFromAll = (p : Linked) (fs : List BlockFunction) → IsPlaced p fs → AllKeep p fs → IsSoundFromAll p

-- so it is where the functions' blocks are those of statements whose conditions hold
abbrev pub WrittenIsSoundFromAll : Type 0
WrittenIsSoundFromAll =
    (p : Linked) (fs : List BlockFunction) → IsPlaced p fs → ((f : BlockFunction) → Contains fs f → IsWritten p f) → IsSoundFromAll p

-- and from the exported ones
abbrev pub KeptIsSound : Type 0
KeptIsSound = (p : Linked) (fs : List BlockFunction) → IsPlaced p fs → AllKeep p fs → IsSound p

-- where functions have the addresses at which they stand, the code of the first k + 1 is that of the first k, and then the bytes of the
-- blocks of function k from its address
abbrev pub PiecesAreCode : Type 0
PiecesAreCode =
    (addresses : List ℕ → ℕ) (functions : List (Name × ℕ × Bool)) (Bs : List (List Block)) (base : ℕ) → StandAt functions Bs base
    → (k : ℕ) (B : List Block) (f : Name × ℕ × Bool) → slice_get Bs k ≡ Some B → slice_get functions k ≡ Some f
    → code_bytes addresses (take (k + 1) Bs) base ≡ code_bytes addresses (take k Bs) base ++ function_bytes addresses B f.1
