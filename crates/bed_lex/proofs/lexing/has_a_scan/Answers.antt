use Rattle.bed_lex.proofs.ScanLaws.{a_scan}
use Rattle.bed_lex.proofs.lexing.has_a_scan.Goals as goal

pub returns : goal.returns
returns c = a_scan c.args._text.now
