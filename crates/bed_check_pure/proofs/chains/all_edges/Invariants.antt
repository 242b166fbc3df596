use Rattle.std.proofs.Common.{◌≡◌, length}
use Rattle.bed_check_pure.specs.Legs.{all_edges}
use Rattle.bed_check_pure.proofs.chains.all_edges.Given as goal

abbrev pub invariant-loop-rest : goal.invariant-loop-rest
invariant-loop-rest l = all_edges l.s l.rest l.at.node l.at.up l.at.down ≡ all_edges l.s l.fn.args l.fn.first 0 0

abbrev pub decreases-loop-rest : goal.decreases-loop-rest
decreases-loop-rest l = length l.rest
