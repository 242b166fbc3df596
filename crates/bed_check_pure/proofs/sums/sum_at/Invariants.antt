use Rattle.std.proofs.Common.{◌≡◌, ◌≤◌, ◌*◌, length, drop, Some}
use Rattle.bed_check_pure.specs.Combinations.{sum_at}
use Rattle.bed_check_pure.proofs.sums.sum_at.Given as goal

abbrev pub invariant-loop-pairs : goal.invariant-loop-pairs
invariant-loop-pairs l = (2 * l.pairs ≤ length l.args) × (sum_at l.s (drop (2 * l.pairs) l.args) ≡ Some l.total)

abbrev pub decreases-loop-pairs : goal.decreases-loop-pairs
decreases-loop-pairs l = l.pairs
