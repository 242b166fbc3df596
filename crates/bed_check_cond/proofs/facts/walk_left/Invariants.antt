use Rattle.std.proofs.Common.{◌≡◌, Ok}
use Rattle.bed_check_cond.specs.Stack.{left_walk}
use Rattle.bed_check_cond.specs.Facts.{goals_walk, goals_left_size}
use Rattle.bed_check_cond.proofs.facts.walk_left.Given as goal

abbrev pub invariant-turns : goal.invariant-turns
invariant-turns l = left_walk (goals_walk l.decls) l.nodes (Ok l.node) ≡ goals_walk l.decls l.fn.root l.fn.first

abbrev pub decreases-turns : goal.decreases-turns
decreases-turns l = goals_left_size l.nodes
