use Rattle.std.proofs.Common.{◌≡◌, ◌++◌, drop}
use Rattle.bed_deriv.specs.ListRules.{lacking}
use Rattle.bed_check_pure.proofs.sequences.lacking.Given as goal

abbrev pub invariant-loop-piece : goal.invariant-loop-piece
invariant-loop-piece l = l.out ++ lacking l.s l.e (drop l.piece-index l.pieces) ≡ lacking l.s l.e l.pieces
