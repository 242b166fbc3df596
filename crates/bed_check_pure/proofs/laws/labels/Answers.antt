use Rattle.bed_check_pure.proofs.TableLaws.{label_is_sound}
use Rattle.bed_check_pure.proofs.laws.labels.Goals as goal

pub returns : goal.returns
returns c = label_is_sound
