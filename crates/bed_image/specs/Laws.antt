-- What holds of the bytes of every file.
use Rattle.std.specs.Prelude.{◌≡◌, ◌⊎◌, ℕ, ◌<◌, List, get_or}
use Rattle.bed_image.specs.declared.image.Image.{Image}
use Rattle.bed_image.specs.Format.{IsFileOf}
use Rattle.bed_image.specs.Faults.{IsFault}

-- bytes are those of one image at most
abbrev pub OneImage : List ℕ → Type 0
OneImage bytes = (i j : Image) → IsFileOf i bytes → IsFileOf j bytes → i ≡ j

-- an image's bytes have no fault
abbrev pub HasNoFault : List ℕ → Type 0
HasNoFault bytes = (i : Image) (at : ℕ) → IsFileOf i bytes → IsFault bytes at → ⊥

-- bytes have one first fault at most
abbrev pub OneFault : List ℕ → Type 0
OneFault bytes = (a b : ℕ) → IsFault bytes a → IsFault bytes b → a ≡ b

-- these numbers are bytes
abbrev pub AreBytes : List ℕ → Type 0
AreBytes bytes = (i : ℕ) → get_or bytes i 0 < 256

-- bytes are those of an image, or have a fault
abbrev pub HasAnswer : List ℕ → Type 0
HasAnswer bytes = AreBytes bytes → ((i : Image) × IsFileOf i bytes) ⊎ ((at : ℕ) × IsFault bytes at)
