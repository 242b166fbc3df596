use Rattle.bed_read.proofs.TextLaws.{one_refusal}
use Rattle.bed_read.proofs.laws.has_one_refusal.Goals as goal

pub returns : goal.returns
returns c = one_refusal c.args._text.now
