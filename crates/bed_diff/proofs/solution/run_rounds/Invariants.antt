use Rattle.std.proofs.Common.{◌-◌, length}
use Rattle.bed_diff.specs.Rounds.{IsReady}
use Rattle.bed_diff.proofs.solution.run_rounds.Given as goal

abbrev pub invariant-rounds : goal.invariant-rounds
invariant-rounds l = IsReady l.edges (length l.initial.labels.items) l.done l.labels.items l.front.items

abbrev pub decreases-rounds : goal.decreases-rounds
decreases-rounds l = length l.initial.labels.items - l.done
