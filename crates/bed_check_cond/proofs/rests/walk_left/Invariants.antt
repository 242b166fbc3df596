use Rattle.std.proofs.Common.{◌≡◌, Ok}
use Rattle.bed_check_cond.specs.Stack.{left_walk, rests_walk, left_size}
use Rattle.bed_check_cond.proofs.rests.walk_left.Given as goal

abbrev pub invariant-turns : goal.invariant-turns
invariant-turns l = left_walk (rests_walk l.decls l.function) l.nodes (Ok l.node) ≡ rests_walk l.decls l.function l.fn.root l.fn.first

abbrev pub decreases-turns : goal.decreases-turns
decreases-turns l = left_size l.nodes
