use Rattle.bed_read.proofs.TextLaws.{not_refused}
use Rattle.bed_read.proofs.laws.is_not_refused.Goals as goal

pub returns : goal.returns
returns c = not_refused c.args._text.now
