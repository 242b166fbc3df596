use Rattle.std.proofs.Common.{◌≤◌, ◌⊎◌, List, map, drop, Contains}
use Rattle.bed_lang.specs.Numbers.{wrap}
use Rattle.bed_il.specs.declared.blocks.Block.{Block}
use Rattle.bed_il.specs.Places.{blocks_size}
use Rattle.bed_layout.specs.Layered.{functions_in}
use Rattle.bed_layout.proofs.functions.longest.Given as goal

abbrev pub invariant-loop-module : goal.invariant-loop-module
invariant-loop-module g l =
    (B : List Block) → Contains (functions_in (map g.M.HasBlocks.each l.code)) B → (wrap (blocks_size B) ≤ l.longest) ⊎ Contains (functions_in (map g.M.HasBlocks.each (drop l.module-index l.code))) B
