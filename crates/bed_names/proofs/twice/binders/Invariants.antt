use Rattle.std.proofs.Common.{◌≡◌, take, drop}
use Rattle.bed_names.specs.Faults.{noted}
use Rattle.bed_names.specs.Terms.{twice_after, twice_faults, bind_names}
use Rattle.bed_names.proofs.twice.binders.Given as goal

abbrev pub invariant-loop-i : goal.invariant-loop-i
invariant-loop-i l =
    noted l.found (twice_after l.scope.names (bind_names (take l.i l.binders)) (bind_names (drop l.i l.binders)))
    ≡ noted l.fn.found (twice_faults l.scope.names (bind_names l.binders))
