use Rattle.std.proofs.Common.{◌≡◌, ◌++◌, length}
use Rattle.bed_chain.specs.Freed.{chain_args}
use Rattle.bed_chain.proofs.graph.chain_args.Given as goal

abbrev pub invariant-loop-rest : goal.invariant-loop-rest
invariant-loop-rest l = l.args ++ chain_args l.labels l.rest ≡ chain_args l.labels l.places

abbrev pub decreases-loop-rest : goal.decreases-loop-rest
decreases-loop-rest l = length l.rest
