use Rattle.std.proofs.Common.{◌≡◌, ◌++◌, drop}
use Rattle.bed_deriv.specs.PureRules.{parts_but}
use Rattle.bed_solve.proofs.values.parts_but.Given as goal

abbrev pub invariant-loop-part : goal.invariant-loop-part
invariant-loop-part l = l.out ++ parts_but l.v (drop l.part-index l.parts) ≡ parts_but l.v l.parts
