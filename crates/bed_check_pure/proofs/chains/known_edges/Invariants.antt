use Rattle.std.proofs.Common.{◌≡◌, length}
use Rattle.bed_deriv.specs.Chains.{known_edges}
use Rattle.bed_check_pure.proofs.chains.known_edges.Given as goal

abbrev pub invariant-loop-rest : goal.invariant-loop-rest
invariant-loop-rest l = known_edges l.s l.rest ≡ known_edges l.s l.fn.args

abbrev pub decreases-loop-rest : goal.decreases-loop-rest
decreases-loop-rest l = length l.rest
