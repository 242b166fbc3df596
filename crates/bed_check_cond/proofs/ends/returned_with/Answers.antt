use Rattle.std.proofs.Common.{◌∙◌, List, ap, subst}
use Rattle.bed_lang.specs.declared.word.Name.{Name}
use Rattle.bed_lang.specs.declared.logic.Term.{Term}
use Rattle.bed_deriv.specs.Checks.{first_failure}
use Rattle.bed_check_cond.specs.Points.{ended, AnswersStep}
use Rattle.bed_check_cond.specs.Parts.{end_meets, returned_terms}
use Rattle.bed_check_cond.proofs.ends.returned_with.Goals as goal

pub returns-in-Ok : goal.returns-in-Ok
returns-in-Ok c =
    subst (λ (ts : List Term). AnswersStep ended c.end_meets.result (first_failure (end_meets c.args.state.now ts c.args.cs.now)))
    (
    c.as_slice-in-Ok.ensures
    ∙ c.in-Ok.ensures
    ∙ ap (λ (ps : List Name). returned_terms c.args.state.now ps c.args.w.now c.args.bs.now c.as_slice.result.now) c.as_slice-params.ensures
    ∙ ap (λ (ts : List Term). returned_terms c.args.state.now c.args.s.now.params c.args.w.now c.args.bs.now ts) c.as_slice.ensures
    )
    c.end_meets.ensures
