use Rattle.std.proofs.Common.{◌≡◌, ◌++◌, ◌+◌, length}
use Rattle.bed_lang.specs.Forms.{add_parts}
use Rattle.bed_forms.proofs.sum.add_parts.Given as goal

abbrev pub invariant-merge : goal.invariant-merge
invariant-merge l = l.out ++ add_parts l.xs l.ys ≡ add_parts l.fn.xs l.fn.ys

abbrev pub decreases-merge : goal.decreases-merge
decreases-merge l = length l.xs + length l.ys
