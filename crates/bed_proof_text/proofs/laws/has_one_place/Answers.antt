use Rattle.bed_proof_text.proofs.TextLemmas.{one_place}
use Rattle.bed_proof_text.proofs.laws.has_one_place.Goals as goal

pub returns : goal.returns
returns c = one_place c.args._text.now
