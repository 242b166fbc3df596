use Rattle.bed_forms.proofs.FormLaws.{forms_are_unique, coefficients_decide, values_decide}
use Rattle.bed_forms.proofs.SameForms.{same_form-decides}
use Rattle.bed_forms.proofs.DifferenceLaws.{constants_are_values}
use Rattle.bed_forms.proofs.laws.words.Goals as goal

pub returns : goal.returns
returns c = record {
  unique = forms_are_unique;
  equal = coefficients_decide;
  values = values_decide;
  test = same_form-decides;
  constant = constants_are_values;
}
