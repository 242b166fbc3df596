use Rattle.std.proofs.Common.{◌∙◌, refl}
use Rattle.bed_check_cond.proofs.calls.opened_after.Goals as goal

pub returns : goal.returns
returns c =
    c.in_ok-push_terms.ensures
    ∙ rw (c.as_slice-2.ensures, c.as_slice.ensures, c.in_ok-values.ensures, c.in_ok-out.ensures, c.fresh_word-answer.ensures, c.len.ensures) refl
