use Rattle.std.proofs.Common.{◌≤◌, ◌-◌, length, take}
use Rattle.bed_chain.specs.Freed.{AreTied, edges_at}
use Rattle.bed_chain.proofs.graph.first_free.Given as goal

abbrev pub invariant-loop-at : goal.invariant-loop-at
invariant-loop-at l = (l.at ≤ length l.places) × AreTied (edges_at l.labels (take l.at l.places))

abbrev pub decreases-loop-at : goal.decreases-loop-at
decreases-loop-at l = length l.places - l.at
