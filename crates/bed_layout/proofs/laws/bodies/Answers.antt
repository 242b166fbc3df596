use Rattle.bed_layout.proofs.EntryLaws.{bodies_keep}
use Rattle.bed_layout.proofs.laws.bodies.Goals as goal

pub returns : goal.returns
returns c = bodies_keep
