use Rattle.bed_proof_text.proofs.TextLemmas.{one_list}
use Rattle.bed_proof_text.proofs.laws.has_one_list.Goals as goal

pub returns : goal.returns
returns c = one_list c.args._text.now
