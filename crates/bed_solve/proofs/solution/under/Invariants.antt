use Rattle.std.proofs.Common.{◌≡◌, ◌≤◌, length, take}
use Rattle.bed_solve.specs.Solutions.{under}
use Rattle.bed_solve.proofs.solution.under.Given as goal

abbrev pub invariant-loop-left : goal.invariant-loop-left
invariant-loop-left l = (l.left ≤ length l.nodes) × (under (take l.left l.nodes) l.whole ≡ under l.nodes l.fn.tree)

abbrev pub decreases-loop-left : goal.decreases-loop-left
decreases-loop-left l = l.left
