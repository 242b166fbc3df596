use Rattle.std.proofs.Common.{◌≡◌, drop}
use Rattle.bed_names.specs.Faults.{noted}
use Rattle.bed_names.specs.Terms.{hints_faults}
use Rattle.bed_names.proofs.assertions.hints.Given as goal

abbrev pub invariant-loop-h : goal.invariant-loop-h
invariant-loop-h l = noted l.found (hints_faults l.scope (drop l.h-index l.hints)) ≡ noted l.fn.found (hints_faults l.scope l.hints)
