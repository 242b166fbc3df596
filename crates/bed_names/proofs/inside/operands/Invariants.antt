use Rattle.std.proofs.Common.{◌≡◌, drop}
use Rattle.bed_names.specs.Faults.{noted}
use Rattle.bed_names.specs.Statements.{operands_faults}
use Rattle.bed_names.proofs.inside.operands.Given as goal

abbrev pub invariant-loop-a : goal.invariant-loop-a
invariant-loop-a l = noted l.found (operands_faults l.inside (drop l.a-index l.args)) ≡ noted l.fn.found (operands_faults l.inside l.args)
