use Rattle.std.proofs.Common.{◌≡◌, drop}
use Rattle.bed_names.specs.Faults.{noted}
use Rattle.bed_names.specs.Terms.{terms_faults}
use Rattle.bed_names.proofs.assertions.terms.Given as goal

abbrev pub invariant-loop-t : goal.invariant-loop-t
invariant-loop-t l = noted l.found (terms_faults l.scope (drop l.t-index l.terms)) ≡ noted l.fn.found (terms_faults l.scope l.terms)
