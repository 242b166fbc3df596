-- The labels of blocks.
use Rattle.std.specs.Prelude.{◌≡◌, ℕ, ◌≤◌, ◌<◌, Some, List, Contains}
use Rattle.bed_il.specs.declared.blocks.Block.{Block}
use Rattle.bed_il.specs.BlockMachine.{block_at}
use Rattle.bed_laws.specs.Keeps.{LoopHead}

-- the labels of blocks, and of loop heads, are from `first` on and below `end`
pub record Spans (B : List Block) (heads : List LoopHead) (first end : ℕ) : Type 0 where
  pub blocks_in : (l : ℕ) (b : Block) → block_at B l ≡ Some b → (first ≤ l) × (l < end)
  pub heads_in : (x : LoopHead) → Contains heads x → (first ≤ x.label) × (x.label < end)
