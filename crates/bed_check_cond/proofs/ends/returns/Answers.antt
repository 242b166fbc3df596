use Rattle.std.proofs.Common.{ℕ, List, Result, sym, subst}
use Rattle.bed_lang.specs.declared.logic.Atom.{Atom}
use Rattle.bed_deriv.specs.declared.rest.Onward.{Onward}
use Rattle.bed_deriv.specs.Checks.{first_failure}
use Rattle.bed_check_cond.specs.Points.{rest_of, ended, AnswersStep}
use Rattle.bed_check_cond.specs.Parts.{end_found, returned_end}
use Rattle.bed_check_cond.proofs.EndLemmas.{end_valued}
use Rattle.bed_check_cond.proofs.ends.returns.Goals as goal

pub returns : goal.returns
returns c =
    subst (λ (r : Result Onward ℕ). AnswersStep ended c.returned_found.result r)
    (sym (end_valued (rest_of c.args.at.now) c.args.args.now c.args.n (returned_end c.args.at.now.state c.args.s.now c.args.a.now) c.in_ok-bs.bs c.in_ok-bs.cs c.in_ok-bs.ensures))
    (
    subst (λ (xs : List (ℕ × Atom)). AnswersStep ended c.returned_found.result (first_failure (end_found (rest_of c.args.at.now) (returned_end c.args.at.now.state c.args.s.now c.args.a.now) c.in_ok-bs.bs xs)))
    c.as_slice.ensures c.returned_found.ensures
    )
