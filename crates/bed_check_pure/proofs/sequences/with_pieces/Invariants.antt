use Rattle.std.proofs.Common.{◌≡◌, ◌++◌, drop}
use Rattle.bed_deriv.specs.ListRules.{with_piece}
use Rattle.bed_check_pure.proofs.sequences.with_pieces.Given as goal

abbrev pub invariant-loop-piece : goal.invariant-loop-piece
invariant-loop-piece l = l.out ++ with_piece l.s l.goal l.e (drop l.piece-index l.pieces) ≡ with_piece l.s l.goal l.e l.pieces
