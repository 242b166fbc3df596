use Rattle.bed_forms.proofs.FormLaws.{one_pieces_one_value}
use Rattle.bed_forms.proofs.SameForms.{same_pieces-decides}
use Rattle.bed_forms.proofs.DifferenceLaws.{no_pieces_no_elements}
use Rattle.bed_forms.proofs.laws.sequences.Goals as goal

pub returns : goal.returns
returns c = record {
  value = one_pieces_one_value;
  test = same_pieces-decides;
  empty = no_pieces_no_elements;
}
