use Rattle.bed_lex.proofs.MarkLemmas.{longest}
use Rattle.bed_lex.proofs.lexing.takes_longest_mark.Goals as goal

pub returns : goal.returns
returns c = longest c.args._text.now c.args._mark.now
