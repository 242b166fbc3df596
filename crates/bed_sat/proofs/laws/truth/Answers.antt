use Rattle.bed_sat.proofs.SatLaws.{sat_add}
use Rattle.bed_sat.proofs.SameLaws.{holds_same}
use Rattle.bed_sat.proofs.ScopeLaws.{holds_agree}
use Rattle.bed_sat.proofs.SignatureLaws.{enters_same, returned_same}
use Rattle.bed_sat.proofs.laws.truth.Goals as goal

pub returns-clause-deeper : goal.returns-clause-deeper
returns-clause-deeper c = λ w more depth. sat_add w more depth

pub returns-clause-scope : goal.returns-clause-scope
returns-clause-scope c = holds_agree

pub returns-clause-places : goal.returns-clause-places
returns-clause-places c = holds_same

pub returns-clause-signatures : goal.returns-clause-signatures
returns-clause-signatures c = λ w S T ν s t F is. (enters_same w S T is ν s F, returned_same w S T is ν s t F)
