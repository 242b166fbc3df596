use Rattle.std.proofs.Common.{◌≤◌, ◌⊎◌, List, drop, Contains}
use Rattle.bed_lang.specs.Numbers.{wrap}
use Rattle.bed_il.specs.declared.blocks.Block.{Block}
use Rattle.bed_il.specs.Places.{blocks_size}
use Rattle.bed_layout.proofs.functions.longest_of.Given as goal

abbrev pub invariant-loop-function : goal.invariant-loop-function
invariant-loop-function l = record {
  least : l.fn.least ≤ l.longest;
  each : (B : List Block) → Contains l.functions B → (wrap (blocks_size B) ≤ l.longest) ⊎ Contains (drop l.function-index l.functions) B;
}
