-- What a call that appends a line, or a listing, leaves.
use Rattle.std.specs.Prelude.{◌≡◌, ℕ, List, ◌++◌}
use Rattle.bed_image.specs.declared.image.Image.{Image}
use Rattle.bed_disasm.specs.Listing.{IsLine, IsListing}

-- the line at an address was appended; the code's bytes from there on are these
pub record IsLineAppended (at : ℕ) (bytes : List ℕ) (size : ℕ) (old new : List ℕ) : Type 0 where
  pub text : List ℕ
  pub line : IsLine at bytes size text
  pub appended : new ≡ old ++ text

-- the listing was appended
pub record IsListingAppended (i : Image) (old new : List ℕ) : Type 0 where
  pub text : List ℕ
  pub listing : IsListing i text
  pub appended : new ≡ old ++ text
