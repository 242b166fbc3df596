use Rattle.bed_forms.proofs.DifferenceLaws.{difference-form, same_difference_form-decides, same_up_to_sign}
use Rattle.bed_forms.proofs.laws.differences.Goals as goal

pub returns : goal.returns
returns c = record {
  form = difference-form;
  test = same_difference_form-decides;
  sign = same_up_to_sign;
}
