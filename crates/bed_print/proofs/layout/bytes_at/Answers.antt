use Rattle.std.proofs.Common.{◌∙◌}
use Rattle.bed_print.proofs.LayoutLemmas.{word_at, no_word}
use Rattle.bed_print.proofs.layout.bytes_at.Goals as goal

pub returns-then-position-words : goal.returns-then-position-words
returns-then-position-words c = c.as_bytes.ensures.value ∙ word_at c.args.words.now c.args.position _ c.if-position-words.true

pub returns-else-position-words : goal.returns-else-position-words
returns-else-position-words c = no_word c.args.words.now c.args.position c.if-position-words.false
