use Rattle.std.proofs.Common.{sym}
use Rattle.bed_top.proofs.LeafLemmas.{lengths_stop, lengths_pass}
use Rattle.bed_top.proofs.stages.lengths.Goals as goal

pub returns-then-has_long : goal.returns-then-has_long
returns-then-has_long c = λ words job. lengths_stop words c.args.texts.now job _ (sym c.if-has_long.ensures) c.refuse_limit.ensures

pub returns : goal.returns
returns c = λ words job. lengths_pass words c.args.texts.now job _ (sym c.if-has_long.ensures)
