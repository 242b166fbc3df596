use Rattle.bed_forms.proofs.FormValues.{add-form_value, times-form_value}
use Rattle.bed_forms.proofs.laws.sums.Goals as goal

pub returns : goal.returns
returns c = record {
  sum = λ f g labels ν. add-form_value labels ν f g;
  multiple = λ n f labels ν. times-form_value labels ν n f;
}
