use Rattle.bed_forms.proofs.DifferenceLaws.{difference_ok}
use Rattle.bed_forms.proofs.normal.difference.Goals as goal

pub returns-clause-value : goal.returns-clause-value
returns-clause-value c = difference_ok c.args.a.now c.args.b.now c.difference_of.result c.difference_of.ensures
