use Rattle.std.proofs.Common.{◌≡◌, ◌++◌, drop}
use Rattle.bed_deriv.specs.Steps.{names_with}
use Rattle.bed_check_cond.proofs.values.push_names.Given as goal

abbrev pub invariant-loop-x : goal.invariant-loop-x
invariant-loop-x l = l.out ++ names_with (drop l.x-index l.names) l.rest ≡ l.initial.out ++ names_with l.names l.words
