use Rattle.std.proofs.Common.{◌≡◌, ◌+◌, drop}
use Rattle.bed_top.specs.Returns.{first_broken, broken_condition}
use Rattle.bed_top.proofs.returns.broken.Given as goal

abbrev pub invariant-loop-function : goal.invariant-loop-function
invariant-loop-function l =
    (first_broken l.number l.tree.signatures (drop l.function-index l.tree.functions) ≡ broken_condition l.tree)
    × (l.number ≡ l.function-index + 1)
