use Rattle.std.proofs.Common.{◌≡◌, ℕ, ◌<◌, length, get_or}
use Rattle.bed_diff.proofs.rounds.all_nodes.Given as goal

abbrev pub invariant-loop-node : goal.invariant-loop-node
invariant-loop-node l = (length l.all.items ≡ l.node) × ((k : ℕ) → k < l.node → get_or l.all.items k 0 ≡ k)
