use Rattle.std.proofs.Common.{◌≡◌, length}
use Rattle.bed_lang.specs.declared.form.Key.TheVariants as key
use Rattle.bed_lang.specs.Coefficients.{coefficient_in}
use Rattle.bed_solve.proofs.values.coefficient.Given as goal

abbrev pub invariant-loop-rest : goal.invariant-loop-rest
invariant-loop-rest l = coefficient_in (key.Var l.v) l.rest ≡ coefficient_in (key.Var l.v) l.fn.parts

abbrev pub decreases-loop-rest : goal.decreases-loop-rest
decreases-loop-rest l = length l.rest
