use Rattle.std.proofs.Common.{◌∙◌}
use Rattle.bed_print.proofs.LayoutLemmas.{fixed_at}
use Rattle.bed_print.proofs.layout.word_bytes.Goals as goal

pub returns : goal.returns
returns c = c.bytes_at.ensures ∙ fixed_at c.args.word
