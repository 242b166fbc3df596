use Rattle.std.proofs.Common.{◌≡◌, ◌+◌, ◌≤◌, drop}
use Rattle.bed_deriv.specs.Matches.{count_of_atoms}
use Rattle.bed_deriv.proofs.matching.count_of_atoms.Given as goal

abbrev pub invariant-loop-term : goal.invariant-loop-term
invariant-loop-term l =
    (l.count ≤ l.term-index) × (l.count + count_of_atoms (drop l.term-index l.terms) ≡ count_of_atoms l.terms)
