use Rattle.std.proofs.Common.{◌≡◌, ◌∙◌, IfOk, ap, subst}
use Rattle.bed_lang.specs.Instances.{terms_with}
use Rattle.bed_deriv.specs.Opening.{alone}
use Rattle.bed_check_heap.proofs.folding.case_terms.Goals as goal

pub returns : goal.returns
returns c =
    subst (λ t. IfOk c.read_terms.result (λ r. r ≡ t))
    (ap (λ vs. terms_with (alone vs) c.args.terms.now) (c.as_slice.ensures ∙ c.in_ok-all.ensures)) c.read_terms.ensures
