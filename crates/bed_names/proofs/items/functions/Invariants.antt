use Rattle.std.proofs.Common.{◌≡◌, drop}
use Rattle.bed_names.specs.Faults.{noted, all_faults}
use Rattle.bed_names.specs.Modules.{function_faults}
use Rattle.bed_names.proofs.items.functions.Given as goal

abbrev pub invariant-loop-f : goal.invariant-loop-f
invariant-loop-f l =
    noted l.found (all_faults (function_faults l.declared) (drop l.f-index l.items))
    ≡ noted l.fn.found (all_faults (function_faults l.declared) l.items)
