use Rattle.std.proofs.Common.{◌≡◌, ◌+◌, ◌-◌, ◌^◌, ◌<◌, min, drop}
use Rattle.bed_table.specs.CodeTable.{arguments_size}
use Rattle.bed_table.proofs.size.arguments_size.Given as goal

abbrev pub invariant-loop-a : goal.invariant-loop-a
invariant-loop-a l =
    (l.size < 2 ^ 64) × (min (l.size + arguments_size (drop l.a-index l.arguments)) (2 ^ 64 - 1) ≡ min (arguments_size l.arguments) (2 ^ 64 - 1))
