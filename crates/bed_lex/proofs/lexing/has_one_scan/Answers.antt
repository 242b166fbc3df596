use Rattle.bed_lex.proofs.ScanLaws.{one_scan}
use Rattle.bed_lex.proofs.lexing.has_one_scan.Goals as goal

pub returns : goal.returns
returns c = one_scan 0 c.args._text.now
