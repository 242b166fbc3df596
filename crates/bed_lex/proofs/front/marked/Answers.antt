use Rattle.std.proofs.Common.{sym}
use Rattle.bed_lex.proofs.MarkLemmas.{mark_sized}
use Rattle.bed_lex.proofs.front.marked.Goals as goal

pub returns-in-Some-fixed-clause-sized : goal.returns-in-Some-fixed-clause-sized
returns-in-Some-fixed-clause-sized c = mark_sized c.args.text.now c.in-Some.mark.now (sym c.in-Some.ensures)
