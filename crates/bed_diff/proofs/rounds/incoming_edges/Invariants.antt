use Rattle.bed_diff.specs.Rounds.{AreListed}
use Rattle.bed_diff.proofs.rounds.incoming_edges.Given as goal

abbrev pub invariant-loop-i : goal.invariant-loop-i
invariant-loop-i l = AreListed l.edges l.nodes l.i l.last.items l.before.items
