use Rattle.std.proofs.Common.{◌≡◌, ◌++◌, drop, map}
use Rattle.bed_deriv.specs.Opening.{replaced_fact}
use Rattle.bed_deriv.specs.Readings.{instance_of}
use Rattle.bed_solve.proofs.steps.facts_anew.Given as goal

abbrev pub invariant-loop-fact : goal.invariant-loop-fact
invariant-loop-fact l = l.out ++ map (replaced_fact (instance_of l.reading)) (drop l.fact-index l.facts) ≡ map (replaced_fact (instance_of l.reading)) l.facts
