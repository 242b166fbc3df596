use Rattle.std.proofs.Common.{◌≡◌, length}
use Rattle.std.specs.Cmp.Lexicographic.{pointwise}
use Rattle.bed_lang.proofs.tree.ListTree.same_as.Given as goal

abbrev pub invariant-loop-a : goal.invariant-loop-a
invariant-loop-a g l = pointwise g.T.Tree.alike l.a l.b ≡ pointwise g.T.Tree.alike l.fn.self l.fn.other

abbrev pub decreases-loop-a : goal.decreases-loop-a
decreases-loop-a g l = length l.a
