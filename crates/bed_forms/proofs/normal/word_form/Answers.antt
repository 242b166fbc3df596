use Rattle.bed_forms.proofs.FormLaws.{form_ok, value_ok}
use Rattle.bed_forms.proofs.normal.word_form.Goals as goal

pub returns-clause-form : goal.returns-clause-form
returns-clause-form c = form_ok c.args.w.now c.form_of.result c.form_of.ensures

pub returns-clause-value : goal.returns-clause-value
returns-clause-value c = value_ok c.args.w.now c.form_of.result c.form_of.ensures
