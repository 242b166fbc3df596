use Rattle.std.proofs.Common.{◌≡◌, ◌++◌, drop}
use Rattle.bed_lang.specs.Instances.{terms_with}
use Rattle.bed_deriv.specs.Readings.{instance_of}
use Rattle.bed_deriv.proofs.read.read_terms.Given as goal

abbrev pub invariant-loop-term : goal.invariant-loop-term
invariant-loop-term l = l.out ++ terms_with (instance_of l.reading) (drop l.term-index l.terms) ≡ terms_with (instance_of l.reading) l.terms
