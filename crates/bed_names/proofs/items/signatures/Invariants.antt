use Rattle.std.proofs.Common.{◌≡◌, drop}
use Rattle.bed_names.specs.Faults.{noted, all_faults}
use Rattle.bed_names.specs.Modules.{signature_faults}
use Rattle.bed_names.proofs.items.signatures.Given as goal

abbrev pub invariant-loop-s : goal.invariant-loop-s
invariant-loop-s l =
    noted l.found (all_faults (signature_faults l.declared) (drop l.s-index l.items))
    ≡ noted l.fn.found (all_faults (signature_faults l.declared) l.items)
