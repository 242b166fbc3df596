use Rattle.std.proofs.Common.{◌≡◌, length}
use Rattle.bed_check_pure.specs.Refusals.{are_values}
use Rattle.bed_check_pure.proofs.refusals.are_values.Given as goal

abbrev pub invariant-loop-left : goal.invariant-loop-left
invariant-loop-left l = are_values l.next l.left l.rest ≡ are_values l.next l.fn.binds l.fn.args

abbrev pub decreases-loop-left : goal.decreases-loop-left
decreases-loop-left l = length l.left
