use Rattle.std.proofs.Common.{◌≡◌, true, drop, map}
use Rattle.bed_names.specs.Faults.{noted}
use Rattle.bed_names.specs.Statements.{judged, falls_after, faults_after}
use Rattle.bed_names.proofs.statements.+judge.Given as goal

abbrev pub invariant-body-loop-s : goal.invariant-body-loop-s
invariant-body-loop-s l = record {
  falls : falls_after l.falls (map (judged l.inside) (drop l.s-index l.body)) ≡ falls_after true (map (judged l.inside) l.body);
  found : noted l.found (faults_after l.falls (map (judged l.inside) (drop l.s-index l.body)))
      ≡ noted l.fn.found (faults_after true (map (judged l.inside) l.body));
}
