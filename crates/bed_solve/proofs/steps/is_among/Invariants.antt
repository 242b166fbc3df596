use Rattle.std.proofs.Common.{◌≡◌, length}
use Rattle.bed_plain.specs.Solving.{is_among}
use Rattle.bed_solve.proofs.steps.is_among.Given as goal

abbrev pub invariant-loop-rest : goal.invariant-loop-rest
invariant-loop-rest l = is_among l.n l.rest ≡ is_among l.n l.fn.taken

abbrev pub decreases-loop-rest : goal.decreases-loop-rest
decreases-loop-rest l = length l.rest
