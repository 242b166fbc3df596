use Rattle.std.proofs.Common.{◌≡◌, length}
use Rattle.bed_deriv.specs.ListRules.{has_element}
use Rattle.bed_check_pure.proofs.sequences.has_element.Given as goal

abbrev pub invariant-loop-rest : goal.invariant-loop-rest
invariant-loop-rest l = has_element l.rest ≡ has_element l.fn.pieces

abbrev pub decreases-loop-rest : goal.decreases-loop-rest
decreases-loop-rest l = length l.rest
