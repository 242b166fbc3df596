use Rattle.std.proofs.Common.{◌≡◌, ◌+◌, ◌++◌, drop}
use Rattle.bed_deriv.specs.Matches.{atoms_left}
use Rattle.bed_deriv.proofs.choice.atoms_left.Given as goal

abbrev pub invariant-loop-at : goal.invariant-loop-at
invariant-loop-at l = l.out ++ atoms_left l.choices (l.at + 1) (drop l.at l.atoms) ≡ atoms_left l.choices 1 l.atoms
