use Rattle.std.proofs.Common.{◌≡◌, drop}
use Rattle.bed_lang.specs.Instances.{terms_with}
use Rattle.bed_deriv.specs.Opening.{replacing, with_terms}
use Rattle.bed_deriv.proofs.beginning.push_terms.Given as goal

abbrev pub invariant-loop-term : goal.invariant-loop-term
invariant-loop-term l =
    with_terms l.state (terms_with (replacing l.values) (drop l.term-index l.terms)) ≡ with_terms l.initial.state (terms_with (replacing l.values) l.terms)
