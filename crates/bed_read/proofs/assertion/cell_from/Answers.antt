use Rattle.std.proofs.Common.{refl, ap, ◌∙◌}
use Rattle.bed_read.specs.Trees.{cell_at}
use Rattle.bed_read.proofs.assertion.cell_from.Goals as goal

pub returns : goal.returns
returns c = ((c.in_ok-address.ensures.0, (c.in_ok-is_word.is_word, c.in_ok-is_word.value)), rw (c.in_ok-address.ensures.1, c.in_ok-is_word.ensures) refl, c.cell.ensures ∙ ap (λ p. cell_at p (c.in_ok-is_word.is_word, c.in_ok-is_word.value)) c.in_ok-address.ensures.2)
