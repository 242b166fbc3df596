use Rattle.std.proofs.Common.{◌≡◌, ◌++◌, drop}
use Rattle.bed_macro.proofs.conditions.push_names.Given as goal

abbrev pub invariant-loop-name : goal.invariant-loop-name
invariant-loop-name l = l.out ++ drop l.name-index l.names ≡ l.initial.out ++ l.names
