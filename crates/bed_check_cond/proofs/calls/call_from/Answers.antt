use Rattle.std.proofs.Common.{◌≡◌, ◌∙◌, ℕ, ◌+◌, List, drop, length, Result, ap, sym, subst}
use Rattle.bed_deriv.specs.declared.derivation.DArg.{DArg}
use Rattle.bed_deriv.specs.declared.rest.Onward.{Onward}
use Rattle.bed_deriv.specs.Checks.{first_failure}
use Rattle.bed_check_cond.specs.Points.{rest_of, called, AnswersStep}
use Rattle.bed_check_cond.specs.Parts.{call_chosen}
use Rattle.bed_check_cond.proofs.CallLemmas.{valued}
use Rattle.bed_check_cond.proofs.calls.call_from.Goals as goal

pub returns : goal.returns
returns c =
    let site = c.args.site.now in
    let one = c.len.ensures in
    let two = c.len-2.ensures in
    let count : c.len.result + c.len-2.result ≡ length c.args.s.now.logical + length c.args.s.now.pre.binders = cc in
    subst (λ (r : Result Onward ℕ). AnswersStep (called site.after.now) c.call_chosen.result r)
    (sym (valued (rest_of c.args.at.now) c.args.s.now site.target.now site.via.now site.operands.now site.into.now site.after.now c.args.args.now c.in_ok-vs.vs c.in_ok-vs.bs c.in_ok-vs.ensures))
    (
    subst (λ (xs : List DArg). AnswersStep (called site.after.now) c.call_chosen.result
    (first_failure (call_chosen (rest_of c.args.at.now) c.args.s.now site.target.now site.via.now site.operands.now site.into.now site.after.now c.in_ok-vs.vs c.in_ok-vs.bs xs)))
    (c.args_behind-atoms.ensures ∙ ap (λ (k : ℕ). drop k c.args.args.now) count) c.call_chosen.ensures
    )
