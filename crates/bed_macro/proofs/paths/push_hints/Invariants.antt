use Rattle.std.proofs.Common.{◌≡◌, ◌++◌, drop, map}
use Rattle.bed_sat.specs.Conditions.{placed}
use Rattle.bed_macro.proofs.paths.push_hints.Given as goal

abbrev pub invariant-loop-hint : goal.invariant-loop-hint
invariant-loop-hint l = l.out ++ map (placed l.before) (drop l.hint-index l.hints) ≡ l.initial.out ++ map (placed l.before) l.hints
