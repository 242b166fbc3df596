use Rattle.std.proofs.Common.{◌≡◌, ◌≤◌, ◌++◌, drop}
use Rattle.bed_deriv.specs.Opening.{first_locals}
use Rattle.bed_deriv.proofs.beginning.first_locals.Given as goal

abbrev pub invariant-loop-x : goal.invariant-loop-x
invariant-loop-x l =
    (l.next ≤ l.x-index) × (l.out ++ first_locals (drop l.x-index l.locals) l.left l.next ≡ first_locals l.locals l.arguments 0)
