use Rattle.std.proofs.Common.{◌≡◌, ◌++◌, drop, map}
use Rattle.bed_deriv.specs.Checks.{sequent}
use Rattle.bed_check_pure.proofs.goals.goals_of.Given as goal

abbrev pub invariant-loop-p : goal.invariant-loop-p
invariant-loop-p l = l.out ++ map (sequent l.s) (drop l.p-index l.facts) ≡ map (sequent l.s) l.facts
