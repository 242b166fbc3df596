use Rattle.bed_layout.proofs.PieceLaws.{pieces}
use Rattle.bed_layout.proofs.laws.pieces.Goals as goal

pub returns : goal.returns
returns c = pieces
