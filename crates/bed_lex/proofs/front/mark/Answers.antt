use Rattle.std.proofs.Common.{◌∙◌}
use Rattle.bed_lex.proofs.MarkLemmas.{mark_in_marks}
use Rattle.bed_lex.proofs.front.mark.Goals as goal

pub returns : goal.returns
returns c = c.first_mark.ensures ∙ mark_in_marks c.args.text.now
