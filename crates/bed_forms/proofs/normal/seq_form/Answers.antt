use Rattle.bed_forms.proofs.FormLaws.{values_ok}
use Rattle.bed_forms.proofs.normal.seq_form.Goals as goal

pub returns-clause-value : goal.returns-clause-value
returns-clause-value c = values_ok c.args.s.now c.pieces_of.result c.pieces_of.ensures.exact
