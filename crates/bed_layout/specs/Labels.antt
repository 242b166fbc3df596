-- The addresses of a function's blocks, as a table of them is kept.
use Rattle.std.specs.Prelude.{◌≡◌, ℕ, ◌+◌, ◌<◌, List, length, take, slice_index}
use Rattle.bed_lang.specs.Numbers.{wrap}
use Rattle.bed_il.specs.declared.blocks.Block.{Block}
use Rattle.bed_il.specs.Fit.{AreDistinct}
use Rattle.bed_il.specs.Places.{blocks_size}
use Rattle.bed_layout.specs.declared.labels.Labels.{Labels}

-- numbers are the addresses of the blocks, laid out from an address, as far as there are both; modulo 2^32
abbrev pub AreAddresses : List Block → ℕ → List ℕ → Type 0
AreAddresses B at places =
    (k : ℕ) → k < length places → k < length B → slice_index places k ≡ wrap (at + blocks_size (take k B))

-- the labels differ, and their addresses are known
pub record AreLabels (l : Labels) : Type 0 where
  pub distinct : AreDistinct l.blocks.now
  pub addresses : AreAddresses l.blocks.now l.at l.places.now
