use Rattle.std.proofs.Common.{◌≡◌, drop}
use Rattle.bed_names.specs.Faults.{noted, all_faults}
use Rattle.bed_names.specs.Modules.{predicate_faults}
use Rattle.bed_names.proofs.items.predicates.Given as goal

abbrev pub invariant-loop-p : goal.invariant-loop-p
invariant-loop-p l =
    noted l.found (all_faults (predicate_faults l.declared) (drop l.p-index l.items))
    ≡ noted l.fn.found (all_faults (predicate_faults l.declared) l.items)
