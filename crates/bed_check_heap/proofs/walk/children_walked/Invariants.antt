use Rattle.std.proofs.Common.{◌≡◌, drop, map}
use Rattle.bed_deriv.specs.Walk.{walk, walk_all}
use Rattle.bed_deriv.specs.Nodes.{sequents}
use Rattle.bed_check_pure.specs.Answers.{goal_table}
use Rattle.bed_check_heap.proofs.walk.children_walked.Given as goal

abbrev pub invariant-loop-child : goal.invariant-loop-child
invariant-loop-child l =
    walk_all (map (walk (goal_table l.decls)) (drop l.child-index l.children)) (sequents l.s l.rest) l.at
    ≡ walk_all (map (walk (goal_table l.decls)) l.children) (sequents l.s l.fn.goals) l.node
