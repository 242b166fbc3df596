use Rattle.std.proofs.Common.{◌≡◌, drop}
use Rattle.bed_names.specs.Faults.{noted}
use Rattle.bed_names.specs.Terms.{args_faults}
use Rattle.bed_names.proofs.assertions.arguments.Given as goal

abbrev pub invariant-loop-a : goal.invariant-loop-a
invariant-loop-a l =
    noted l.found (args_faults l.scope l.holes l.params (drop l.a-index l.args))
    ≡ noted l.fn.found (args_faults l.scope l.holes l.fn.params l.args)
