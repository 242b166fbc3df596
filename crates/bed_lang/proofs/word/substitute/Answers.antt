use Rattle.bed_lang.proofs.ValueLaws.{value-replaced_ok}
use Rattle.bed_lang.proofs.word.substitute.Goals as goal

pub returns-clause-value : goal.returns-clause-value
returns-clause-value c = value-replaced_ok c.args.v.now c.args.by.now c.args.w.now c.replace.result c.replace.ensures
