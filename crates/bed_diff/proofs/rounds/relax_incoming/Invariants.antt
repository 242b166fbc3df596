use Rattle.std.proofs.Common.{◌≡◌, ℕ, ◌<◌, ◌≤◌, ◌-◌, length}
use Rattle.bed_diff.specs.Edges.{edge_at}
use Rattle.bed_diff.specs.Rounds.{IsDone, KeepsDone, Progress, Collected}
use Rattle.bed_diff.proofs.rounds.relax_incoming.Given as goal

abbrev pub invariant-loop-after : goal.invariant-loop-after
invariant-loop-after l = record {
  low : l.after ≤ length l.edges;
  end : 0 < l.after → (edge_at l.edges (l.after - 1)).to ≡ l.node;
  len : length l.labels.items ≡ length l.initial.labels.items;
  progress : Progress l.edges l.done l.labels.items;
  keeps : KeepsDone l.edges l.done l.initial.labels.items l.labels.items;
  collected : Collected l.done l.labels.items l.next.items;
  done : (j : ℕ) → l.after ≤ j → j < length l.edges → (edge_at l.edges j).to ≡ l.node → IsDone l.done l.labels.items (edge_at l.edges j);
}

abbrev pub decreases-loop-after : goal.decreases-loop-after
decreases-loop-after l = l.after
