use Rattle.bed_proof_text.proofs.TextAnswers.{text_answer}
use Rattle.bed_proof_text.proofs.laws.has_an_answer.Goals as goal

pub returns : goal.returns
returns c = text_answer c.args._text.now
