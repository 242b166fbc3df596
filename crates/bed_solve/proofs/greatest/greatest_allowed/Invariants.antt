use Rattle.std.proofs.Common.{◌≡◌, ◌≤◌, length, drop}
use Rattle.std.specs.Option.{option_copied}
use Rattle.bed_plain.specs.Solving.{greatest_allowed}
use Rattle.bed_solve.proofs.greatest.greatest_allowed.Given as goal

abbrev pub invariant-loop-left : goal.invariant-loop-left
invariant-loop-left l = (l.left ≤ length l.vars) × (option_copied l.found ≡ greatest_allowed l.p (drop l.left l.vars))

abbrev pub decreases-loop-left : goal.decreases-loop-left
decreases-loop-left l = l.left
