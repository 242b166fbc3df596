use Rattle.bed_read.proofs.TextLaws.{one_module}
use Rattle.bed_read.proofs.laws.has_one_module.Goals as goal

pub returns : goal.returns
returns c = one_module c.args._text.now
