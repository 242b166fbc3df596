use Rattle.bed_read.proofs.TextLaws.{an_answer}
use Rattle.bed_read.proofs.laws.has_an_answer.Goals as goal

pub returns : goal.returns
returns c = an_answer c.args._text.now
