use Rattle.std.proofs.Common.{◌≡◌, [], ◌∷◌, take}
use Rattle.bed_solve.specs.Solutions.{read_all}
use Rattle.bed_solve.proofs.solution.read_all.Given as goal

abbrev pub invariant-loop-reading : goal.invariant-loop-reading
invariant-loop-reading l = l.goals ≡ read_all (take l.reading-index l.readings) l.fn.goal ∷ []
