use Rattle.bed_proof_lex.proofs.ScanLemmas.{one_scan}
use Rattle.bed_proof_lex.proofs.lexing.has_one_proof_scan.Goals as goal

pub returns : goal.returns
returns c = one_scan 0 c.args._text.now
