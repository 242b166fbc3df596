use Rattle.std.proofs.Common.{◌≡◌, drop}
use Rattle.bed_deriv.specs.Nodes.{children_walked}
use Rattle.bed_check_pure.specs.Answers.{goal_table}
use Rattle.bed_check_cond.proofs.facts.children_walked.Given as goal

abbrev pub invariant-loop-child : goal.invariant-loop-child
invariant-loop-child l =
    children_walked (goal_table l.decls) l.s (drop l.child-index l.children) l.rest l.at ≡ children_walked (goal_table l.decls) l.s l.children l.fn.goals l.fn.node
