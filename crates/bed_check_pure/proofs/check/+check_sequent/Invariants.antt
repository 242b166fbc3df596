use Rattle.std.proofs.Common.{◌≡◌, drop, map}
use Rattle.bed_deriv.specs.Walk.{walk, walk_all}
use Rattle.bed_check_pure.specs.Answers.{goal_table}
use Rattle.bed_check_pure.proofs.check.+check_sequent.Given as goal

abbrev pub invariant-loop-child : goal.invariant-loop-child
invariant-loop-child l =
    walk_all (map (walk (goal_table l.decls)) (drop l.child-index l.child-items)) l.rest l.at
    ≡ walk_all (map (walk (goal_table l.decls)) l.child-items) l.initial.rest l.initial.at
