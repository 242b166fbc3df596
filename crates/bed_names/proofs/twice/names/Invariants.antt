use Rattle.std.proofs.Common.{◌≡◌, take, drop}
use Rattle.bed_names.specs.Faults.{noted}
use Rattle.bed_names.specs.Terms.{twice_after, twice_faults}
use Rattle.bed_names.proofs.twice.names.Given as goal

abbrev pub invariant-loop-i : goal.invariant-loop-i
invariant-loop-i l =
    noted l.found (twice_after l.scope.names (take l.i l.names) (drop l.i l.names)) ≡ noted l.fn.found (twice_faults l.scope.names l.names)
