use Rattle.std.proofs.Common.{◌≡◌, drop}
use Rattle.bed_names.specs.Faults.{noted}
use Rattle.bed_names.specs.Modules.{cases_faults}
use Rattle.bed_names.proofs.functions.cases.Given as goal

abbrev pub invariant-loop-a : goal.invariant-loop-a
invariant-loop-a l = noted l.found (cases_faults l.outer (drop l.a-index l.cases)) ≡ noted l.fn.found (cases_faults l.outer l.cases)
