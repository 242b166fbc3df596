use Rattle.std.proofs.Common.{◌≡◌, ◌++◌, List, IfOk, ap, ◌∙◌, subst}
use Rattle.bed_lang.specs.declared.word.Name.{Name}
use Rattle.bed_lang.specs.declared.logic.Arg.{Arg}
use Rattle.bed_lang.specs.declared.logic.Term.{Term}
use Rattle.bed_lang.specs.Instances.{terms_with}
use Rattle.bed_deriv.specs.Opening.{replacing}
use Rattle.bed_deriv.specs.Matches.{match_goals}
use Rattle.bed_deriv.specs.Steps.{names_with}
use Rattle.bed_check_cond.proofs.calls.goals_before.Goals as goal

pub returns : goal.returns
returns c =
    let read = ap (λ (vs : List (Name × Arg)). terms_with (replacing vs) c.as_slice-2.result.now) (c.as_slice.ensures ∙ c.in_ok-values.ensures) in
    let of = ap (λ (ts : List Term). terms_with (replacing (c.args.vs.now ++ names_with c.args.s.now.params c.args.ws.now ++ c.args.bs.now)) ts) c.as_slice-2.ensures in
    subst (λ (ts : List Term). IfOk c.match_goals.result (λ r. r ≡ match_goals ts c.args.cs.now)) (c.as_slice-3.ensures ∙ c.in_ok-terms.ensures ∙ read ∙ of) c.match_goals.ensures
