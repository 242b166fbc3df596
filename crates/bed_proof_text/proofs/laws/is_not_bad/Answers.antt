use Rattle.bed_proof_text.proofs.TextLemmas.{not_bad}
use Rattle.bed_proof_text.proofs.laws.is_not_bad.Goals as goal

pub returns : goal.returns
returns c = not_bad c.args._text.now
