use Rattle.std.proofs.Common.{◌≡◌, List, IfOk, ap, ◌∙◌, subst}
use Rattle.bed_lang.specs.declared.word.Name.{Name}
use Rattle.bed_lang.specs.declared.logic.Arg.{Arg}
use Rattle.bed_forms.specs.Rewritten.{arg_by}
use Rattle.bed_deriv.specs.Opening.{replacing, local_values, replaced_word, replaced_seq}
use Rattle.bed_search.proofs.given.given_value.Goals as goal

pub returns : goal.returns
returns c =
    subst (λ (vs : List (Name × Arg)). IfOk c.read_arg_anew.result (λ r. r ≡ arg_by (replaced_word (replacing vs)) (replaced_seq (replacing vs)) c.args.a.now))
    (c.as_slice-2.ensures ∙ c.in_ok-values.ensures ∙ ap local_values c.as_slice.ensures) c.read_arg_anew.ensures
