use Rattle.std.proofs.Common.{◌≡◌, ◌++◌, ◌≤◌, ◌<◌, ◌^◌, List, map, drop, length, Contains}
use Rattle.bed_il.specs.declared.blocks.Block.{Block}
use Rattle.bed_il.specs.Places.{blocks_size}
use Rattle.bed_layout.specs.Addresses.{addresses, address_in}
use Rattle.bed_layout.specs.Functions.{code_bytes}
use Rattle.bed_layout.specs.Layered.{functions_in}
use Rattle.bed_layout.proofs.layer.lay.Given as goal

abbrev pub invariant-loop-module : goal.invariant-loop-module
invariant-loop-module g l = record {
  put : l.out.items ++ code_bytes (addresses l.functions l.imports) (functions_in (map g.M.HasBlocks.each (drop l.module-index l.code))) l.next
      ≡ code_bytes (addresses l.functions l.imports) (functions_in (map g.M.HasBlocks.each l.code)) l.base;
  room : (B : List Block) → Contains (functions_in (map g.M.HasBlocks.each l.code)) B → blocks_size B < 2 ^ 32 → blocks_size B ≤ length l.layer.bytes;
  names : address_in l.layer.names ≡ addresses l.functions l.imports;
}
