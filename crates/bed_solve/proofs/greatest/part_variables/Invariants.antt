use Rattle.std.proofs.Common.{◌≡◌, ◌++◌, drop}
use Rattle.bed_plain.specs.Solving.{part_variables}
use Rattle.bed_solve.proofs.greatest.part_variables.Given as goal

abbrev pub invariant-loop-part : goal.invariant-loop-part
invariant-loop-part l = l.out ++ part_variables (drop l.part-index l.parts) ≡ part_variables l.parts
