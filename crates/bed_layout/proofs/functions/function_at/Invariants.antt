use Rattle.std.proofs.Common.{◌≡◌, map, drop, slice_get}
use Rattle.bed_layout.specs.Layered.{functions_in}
use Rattle.bed_layout.proofs.functions.function_at.Given as goal

abbrev pub invariant-loop-module : goal.invariant-loop-module
invariant-loop-module g l = slice_get (functions_in (map g.M.HasBlocks.each (drop l.module-index l.code))) l.left ≡ slice_get (functions_in (map g.M.HasBlocks.each l.code)) l.fn.number
