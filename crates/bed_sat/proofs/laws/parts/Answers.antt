use Rattle.bed_sat.proofs.PartLaws.{joins_comm, joins_assoc, joins_cancel}
use Rattle.bed_sat.proofs.laws.parts.Goals as goal

pub returns-clause-commute : goal.returns-clause-commute
returns-clause-commute c = λ w l r j. joins_comm j

pub returns-clause-associate : goal.returns-clause-associate
returns-clause-associate c = λ w a bc b r j k. joins_assoc j k

pub returns-clause-cancel : goal.returns-clause-cancel
returns-clause-cancel c = λ w p a b j k. joins_cancel j k
