use Rattle.std.proofs.Common.{◌≡◌, ◌+◌, ◌-◌, ◌^◌, ◌<◌, min, drop}
use Rattle.bed_table.specs.Layout.{code_length}
use Rattle.bed_table.proofs.layout.code_length.Given as goal

abbrev pub invariant-loop-module : goal.invariant-loop-module
invariant-loop-module l = (l.size < 2 ^ 64) × (min (l.size + code_length (drop l.module-index l.modules)) (2 ^ 64 - 1) ≡ min (code_length l.modules) (2 ^ 64 - 1))
