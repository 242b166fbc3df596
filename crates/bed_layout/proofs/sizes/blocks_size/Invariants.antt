use Rattle.std.proofs.Common.{◌≡◌, ◌+◌, drop}
use Rattle.bed_lang.specs.Numbers.{wrap}
use Rattle.bed_il.specs.Places.{blocks_size}
use Rattle.bed_layout.proofs.sizes.blocks_size.Given as goal

abbrev pub invariant-loop-block : goal.invariant-loop-block
invariant-loop-block l = wrap (l.size + blocks_size (drop l.block-index l.blocks)) ≡ wrap (blocks_size l.blocks)
