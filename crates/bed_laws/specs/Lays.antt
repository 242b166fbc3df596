-- The second law: blocks laid out are a piece of the code table, wherever they stand.
use Rattle.std.specs.Prelude.{◌≡◌, ℕ, ◌+◌, Bool, true, false, Option, Some, None, List, Contains, map}
use Rattle.bed_lang.specs.declared.word.Name.{Name}
use Rattle.bed_table.specs.Pieces.{Piece, Head}
use Rattle.bed_il.specs.declared.blocks.Block.{Block}
use Rattle.bed_il.specs.Bytes.{laid}
use Rattle.bed_il.specs.Places.{blocks_size, ArePlaced}
use Rattle.bed_il.specs.Fit.{first_label, Fit, HasCode}
use Rattle.bed_laws.specs.Keeps.{LoopHead}

-- what stands right after blocks: the block of a label, where control comes to their end
abbrev pub behind : Bool → ℕ → Option ℕ
behind true next = Some next
behind false next = None

-- Blocks are a piece of code in a function with these locals: they have the piece's size; the first label stands first; laid out from any
-- address, where labels have the addresses of their blocks and `next` that behind them, they have the piece's bytes, and their loops' heads
-- its heads; and they fit, with the block of each loop's head having instructions, so that control is at the head's address there alone.
pub record Lays (locals : List Name) (B : List Block) (heads : List LoopHead) (first next : ℕ) (piece : Piece) : Type 0 where
  pub size : blocks_size B ≡ piece.size
  pub begins : first_label B None ≡ Some first
  pub bytes : (functions : List ℕ → ℕ) (places : ℕ → ℕ) (at : ℕ) → ArePlaced B at places → places next ≡ at + piece.size
      → laid functions places B at ≡ piece.bytes locals functions at
  pub at_heads : (places : ℕ → ℕ) (at : ℕ) → ArePlaced B at places
      → map (λ (x : LoopHead). record { address = places x.label; invariant = x.invariant }) heads ≡ piece.heads at
  pub fit : Fit B (behind piece.falls next)
  pub code : (x : LoopHead) → Contains heads x → HasCode B x.label
