use Rattle.std.proofs.Common.{refl, ap, ◌∙◌}
use Rattle.bed_read.specs.Trees.{fact_of, word_of}
use Rattle.bed_read.proofs.fact.fact_from.Goals as goal

pub returns : goal.returns
returns c = ((c.in_ok-left.ensures.0, c.in_ok-tail.tail), rw (c.in_ok-left.ensures.1, c.in_ok-tail.ensures) refl, c.into_fact.ensures ∙ ap (λ w. fact_of w c.in_ok-tail.tail) (c.into_word.ensures ∙ ap word_of c.in_ok-left.ensures.2))
