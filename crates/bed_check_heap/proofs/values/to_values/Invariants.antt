use Rattle.std.proofs.Common.{◌≡◌, length}
use Rattle.bed_deriv.specs.Arguments.{to_values}
use Rattle.bed_deriv.specs.Matching.{prefixed}
use Rattle.bed_check_heap.proofs.values.to_values.Given as goal

abbrev pub invariant-loop-left : goal.invariant-loop-left
invariant-loop-left l = prefixed l.out (to_values l.s.next l.left l.rest) ≡ to_values l.s.next l.fn.binds l.fn.args

abbrev pub decreases-loop-left : goal.decreases-loop-left
decreases-loop-left l = length l.left
