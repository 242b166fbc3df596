use Rattle.std.proofs.Common.{◌≡◌, drop}
use Rattle.bed_lang.specs.Instances.{terms_with}
use Rattle.bed_deriv.specs.Opening.{with_terms}
use Rattle.bed_deriv.specs.Readings.{instance_of}
use Rattle.bed_check_cond.proofs.values.push_terms.Given as goal

abbrev pub invariant-loop-term : goal.invariant-loop-term
invariant-loop-term l =
    with_terms l.state (terms_with (instance_of l.reading) (drop l.term-index l.terms)) ≡ with_terms l.initial.state (terms_with (instance_of l.reading) l.terms)
