use Rattle.std.proofs.Common.{◌≡◌, drop}
use Rattle.bed_il.specs.BlockMachine.{block_at}
use Rattle.bed_il.proofs.stepping.block_with.Given as goal

-- no block before has the label
abbrev pub invariant-loop-block : goal.invariant-loop-block
invariant-loop-block l = block_at l.blocks l.label ≡ block_at (drop l.block-index l.block-items) l.label
