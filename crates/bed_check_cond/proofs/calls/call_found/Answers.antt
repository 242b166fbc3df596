use Rattle.std.proofs.Common.{◌≡◌, ℕ, List, Some, Result, sym, subst}
use Rattle.bed_lang.specs.declared.word.Word.{Word}
use Rattle.bed_deriv.specs.declared.rest.Onward.{Onward}
use Rattle.bed_deriv.specs.Checks.{first_failure}
use Rattle.bed_deriv.specs.Steps.{operand_terms}
use Rattle.bed_check_cond.specs.Points.{rest_of, called, AnswersStep}
use Rattle.bed_check_cond.specs.Parts.{call_worded}
use Rattle.bed_check_cond.proofs.CallLemmas.{worded}
use Rattle.bed_check_cond.proofs.calls.call_found.Goals as goal

pub returns-in-Ok-Some : goal.returns-in-Ok-Some
returns-in-Ok-Some c =
    let site = c.args.site.now in
    let read = c.in-Ok-Some.ensures in
    let is = c.in-Ok-Some.is in
    let one = c.in-Ok-Some.field-0-is in
    let two = c.in-Ok-Some.ws-is in
    let locals = c.as_slice.ensures in
    let found : operand_terms c.args.at.now.state.locals site.operands.now ≡ Some c.in-Ok-Some.ws = cc in
    subst (λ (r : Result Onward ℕ). AnswersStep (called site.after.now) c.call_worded.result r)
    (sym (worded (rest_of c.args.at.now) c.args.s.now site.target.now site.via.now site.operands.now site.into.now site.after.now c.args.vs.now c.args.bs.now c.args.cs.now c.in-Ok-Some.ws found))
    (
    subst (λ (us : List Word). AnswersStep (called site.after.now) c.call_worded.result
    (first_failure (call_worded (rest_of c.args.at.now) c.args.s.now site.target.now site.via.now site.into.now site.after.now c.args.vs.now c.args.bs.now c.args.cs.now us)))
    c.as_slice-in-Ok-Some.ensures c.call_worded.ensures
    )
