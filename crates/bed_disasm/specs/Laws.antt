-- What holds of every image and of all bytes.
use Rattle.std.specs.Prelude.{◌≡◌, ◌⊎◌, ℕ, List}
use Rattle.bed_machine.specs.Instructions.{BeginsWith}
use Rattle.bed_machine.specs.declared.instructions.Ins.{Ins}
use Rattle.bed_image.specs.declared.image.Image.{Image}
use Rattle.bed_disasm.specs.Listing.{IsListing}

-- an image has one listing at most
abbrev pub OneListing : Image → Type 0
OneListing i = (text also : List ℕ) → IsListing i text → IsListing i also → text ≡ also

-- and it has one
abbrev pub HasListing : Image → Type 0
HasListing i = (text : List ℕ) × IsListing i text

-- an instruction begins the bytes, or none does
abbrev pub BeginsOrNot : List ℕ → Type 0
BeginsOrNot bytes = ((i : Ins) × (size : ℕ) × BeginsWith bytes i size) ⊎ ((i : Ins) (size : ℕ) → BeginsWith bytes i size → ⊥)
