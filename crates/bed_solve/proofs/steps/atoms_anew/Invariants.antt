use Rattle.std.proofs.Common.{◌≡◌, ◌++◌, drop, map}
use Rattle.bed_deriv.specs.Opening.{replaced_atom}
use Rattle.bed_deriv.specs.Readings.{instance_of}
use Rattle.bed_solve.proofs.steps.atoms_anew.Given as goal

abbrev pub invariant-loop-atom : goal.invariant-loop-atom
invariant-loop-atom l = l.out ++ map (replaced_atom (instance_of l.reading)) (drop l.atom-index l.atoms) ≡ map (replaced_atom (instance_of l.reading)) l.atoms
