use Rattle.std.proofs.Common.{◌≡◌, length}
use Rattle.bed_check_pure.specs.Refusals.{are_numbers}
use Rattle.bed_check_pure.proofs.refusals.are_numbers.Given as goal

abbrev pub invariant-loop-rest : goal.invariant-loop-rest
invariant-loop-rest l = are_numbers l.s l.rest ≡ are_numbers l.s l.fn.args

abbrev pub decreases-loop-rest : goal.decreases-loop-rest
decreases-loop-rest l = length l.rest
