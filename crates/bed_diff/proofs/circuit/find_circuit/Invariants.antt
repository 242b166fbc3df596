use Rattle.std.proofs.Common.{length, ◌-◌}
use Rattle.bed_diff.specs.Rounds.{Trail}
use Rattle.bed_diff.proofs.circuit.find_circuit.Given as goal

abbrev pub invariant-follow : goal.invariant-follow
invariant-follow l = Trail l.edges l.labels l.fn.start l.steps.items l.walk.items l.at

abbrev pub decreases-follow : goal.decreases-follow
decreases-follow l = length l.labels - length l.walk.items
