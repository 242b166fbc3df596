use Rattle.std.proofs.Common.{◌≡◌, length}
use Rattle.bed_deriv.specs.PureRules.{is_even}
use Rattle.bed_check_pure.proofs.sums.is_even.Given as goal

abbrev pub invariant-loop-rest : goal.invariant-loop-rest
invariant-loop-rest l = is_even l.rest ≡ is_even l.fn.args

abbrev pub decreases-loop-rest : goal.decreases-loop-rest
decreases-loop-rest l = length l.rest
