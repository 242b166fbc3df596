use Rattle.std.proofs.Common.{◌≡◌, length}
use Rattle.bed_check_pure.specs.Combinations.{pairs_known}
use Rattle.bed_check_pure.proofs.sums.pairs_known.Given as goal

abbrev pub invariant-loop-rest : goal.invariant-loop-rest
invariant-loop-rest l = pairs_known l.s l.rest ≡ pairs_known l.s l.fn.args

abbrev pub decreases-loop-rest : goal.decreases-loop-rest
decreases-loop-rest l = length l.rest
