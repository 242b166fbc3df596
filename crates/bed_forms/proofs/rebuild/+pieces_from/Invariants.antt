use Rattle.std.proofs.Common.{length}
use Rattle.bed_forms.proofs.rebuild.+pieces_from.Given as goal

abbrev pub decreases-pieces_from : goal.decreases-pieces_from
decreases-pieces_from l = length l.pieces.now
