use Rattle.std.proofs.Common.{◌≡◌, ◌++◌, drop}
use Rattle.bed_plain.specs.Solving.{piece_variables}
use Rattle.bed_solve.proofs.greatest.piece_variables.Given as goal

abbrev pub invariant-loop-piece : goal.invariant-loop-piece
invariant-loop-piece l = l.out ++ piece_variables (drop l.piece-index l.pieces) ≡ piece_variables l.pieces
