use Rattle.std.proofs.Common.{◌↔◌, IsSome, IfSome, IsTrue, sym, subst}
use Rattle.bed_sat.specs.Facts.{IsTrueFact}
use Rattle.bed_sat.specs.Comparisons.{compares}
use Rattle.bed_sat.proofs.ComparisonLaws.{result_compares, result_truth}
use Rattle.bed_sat.proofs.comparison.eval_pure.Goals as goal

pub returns-clause-compared : goal.returns-clause-compared
returns-clause-compared c =
    subst (λ r. IsSome r ↔ IsTrue (compares c.args.values.now c.args.p.now)) (sym c.pure_value.ensures)
    (result_compares c.args.values.now c.args.p.now)

pub returns-clause-truth : goal.returns-clause-truth
returns-clause-truth c codes labels ν g =
    subst (λ r. IfSome r (λ b. IsTrue b ↔ IsTrueFact codes labels ν c.args.p.now)) (sym c.pure_value.ensures)
    (result_truth c.args.values.now codes labels ν g c.args.p.now)
