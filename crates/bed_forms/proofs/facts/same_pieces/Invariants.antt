use Rattle.std.proofs.Common.{◌≡◌, length}
use Rattle.std.specs.Cmp.Lexicographic.{pointwise}
use Rattle.bed_lang.specs.Forms.{same_piece}
use Rattle.bed_forms.proofs.facts.same_pieces.Given as goal

abbrev pub invariant-loop-a : goal.invariant-loop-a
invariant-loop-a l = pointwise same_piece l.a l.b ≡ pointwise same_piece l.fn.a l.fn.b

abbrev pub decreases-loop-a : goal.decreases-loop-a
decreases-loop-a l = length l.a
