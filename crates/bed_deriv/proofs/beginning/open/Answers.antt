use Rattle.std.proofs.Common.{◌∙◌, refl}
use Rattle.bed_deriv.proofs.beginning.open.Goals as goal

pub returns : goal.returns
returns c =
    c.in_ok-push_terms.ensures
    ∙ rw (c.as_slice-2.ensures, c.in_ok-values.ensures, c.as_slice.ensures, c.as_slice-binders.ensures, c.new.ensures, c.new-2.ensures, c.as_slice-3.ensures) refl
