use Rattle.std.proofs.Common.{◌≡◌, drop}
use Rattle.bed_names.specs.Faults.{noted, all_faults}
use Rattle.bed_names.specs.Modules.{import_faults}
use Rattle.bed_names.proofs.items.imports.Given as goal

abbrev pub invariant-loop-i : goal.invariant-loop-i
invariant-loop-i l =
    noted l.found (all_faults (import_faults l.declared) (drop l.i-index l.items))
    ≡ noted l.fn.found (all_faults (import_faults l.declared) l.items)
