use Rattle.std.proofs.Common.{◌≡◌, length}
use Rattle.bed_deriv.specs.Matches.{arg_equations}
use Rattle.bed_deriv.specs.Matching.{prefixed}
use Rattle.bed_deriv.proofs.matching.arg_equations.Given as goal

abbrev pub invariant-loop-left : goal.invariant-loop-left
invariant-loop-left l = prefixed l.out (arg_equations l.left l.right) ≡ arg_equations l.fn.args l.fn.others

abbrev pub decreases-loop-left : goal.decreases-loop-left
decreases-loop-left l = length l.left
