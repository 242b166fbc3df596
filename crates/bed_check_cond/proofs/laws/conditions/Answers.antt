use Rattle.bed_check_cond.proofs.DerivedLaws.{derived_is_valid}
use Rattle.bed_check_cond.proofs.laws.conditions.Goals as goal

pub returns : goal.returns
returns c = derived_is_valid
