use Rattle.std.proofs.Common.{◌≡◌, drop, map}
use Rattle.bed_deriv.specs.Opening.{replaced_term, with_terms}
use Rattle.bed_deriv.specs.Readings.{instance_of}
use Rattle.bed_check_heap.proofs.opening.push_terms.Given as goal

abbrev pub invariant-loop-term : goal.invariant-loop-term
invariant-loop-term l =
    with_terms l.state (map (replaced_term (instance_of l.reading)) (drop l.term-index l.terms))
    ≡ with_terms l.initial.state (map (replaced_term (instance_of l.reading)) l.terms)
