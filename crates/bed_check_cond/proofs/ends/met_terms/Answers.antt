use Rattle.std.proofs.Common.{◌≡◌, List, IfOk, ◌∙◌, subst}
use Rattle.bed_lang.specs.declared.word.Name.{Name}
use Rattle.bed_lang.specs.declared.logic.Arg.{Arg}
use Rattle.bed_lang.specs.Instances.{terms_with}
use Rattle.bed_deriv.specs.Opening.{replacing}
use Rattle.bed_check_cond.proofs.ends.met_terms.Goals as goal

pub returns : goal.returns
returns c =
    subst (λ (vs : List (Name × Arg)). IfOk c.read_terms.result (λ r. r ≡ terms_with (replacing vs) c.args.terms.now)) (c.as_slice.ensures ∙ c.in_ok-values.ensures) c.read_terms.ensures
