use Rattle.std.proofs.Common.{◌≡◌, ℕ, ◌<◌, ◌≤◌, length, get_or}
use Rattle.bed_diff.specs.Edges.{edge_at}
use Rattle.bed_diff.specs.Rounds.{IsDone, Progress, Collected}
use Rattle.bed_diff.proofs.rounds.run_round.Given as goal

abbrev pub invariant-loop-node : goal.invariant-loop-node
invariant-loop-node l = record {
  len : length l.labels.items ≡ length l.initial.labels.items;
  progress : Progress l.edges l.done l.labels.items;
  collected : Collected l.done l.labels.items l.next.items;
  done : (j : ℕ) → j < length l.edges → ((p : ℕ) → l.node-index ≤ p → p < length l.front → get_or l.front p 0 ≡ (edge_at l.edges j).to → ⊥) → IsDone l.done l.labels.items (edge_at l.edges j);
}
