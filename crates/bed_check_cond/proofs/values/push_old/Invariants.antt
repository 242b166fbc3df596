use Rattle.std.proofs.Common.{◌≡◌, ◌++◌, drop, map}
use Rattle.bed_deriv.specs.Steps.{names_with, old_word}
use Rattle.bed_check_cond.proofs.values.push_old.Given as goal

abbrev pub invariant-loop-x : goal.invariant-loop-x
invariant-loop-x l =
    l.out ++ names_with (drop l.x-index l.params) (map old_word (drop l.x-index l.params)) ≡ l.initial.out ++ names_with l.params (map old_word l.params)
