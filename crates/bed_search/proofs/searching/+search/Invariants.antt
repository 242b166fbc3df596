use Rattle.std.proofs.Common.{◌≡◌, ℕ, ◌+◌, ◌*◌, ◌≤◌, true, List, length}
use Rattle.bed_deriv.specs.Checks.{have_room}
use Rattle.bed_deriv.specs.Steps.{rest_states}
use Rattle.bed_search.specs.Procedure.{ClosesBy}
use Rattle.bed_search.specs.Layers.{Done}
use Rattle.bed_search.proofs.SearchLemmas.{GoesOn}
use Rattle.bed_search.proofs.searching.+search.Given as goal

abbrev pub decreases-search : goal.decreases-search
decreases-search g l = 5 * length l.todo.now + 1

abbrev pub decreases-live : goal.decreases-live
decreases-live g l = 5 * length l.todo.now

abbrev pub decreases-stepped : goal.decreases-stepped
decreases-stepped g l = 5 * length l.more.now + 4

abbrev pub decreases-finished : goal.decreases-finished
decreases-finished g l = 5 * length l.more.now + 3

abbrev pub decreases-children : goal.decreases-children
decreases-children g l = 5 * length l.todo.now + 2

abbrev pub invariant-children-loop-left : goal.invariant-children-loop-left
invariant-children-loop-left g l =
    (have_room (rest_states l.left) ≡ true)
    × Done (ClosesBy (g.L.Layers.ways l.layers) l.todo l.gives) l.initial.rests l.left l.initial.trees l.trees l.nodes l.nesting l.sum l.deepest

abbrev pub decreases-children-loop-left : goal.decreases-children-loop-left
decreases-children-loop-left g l = length l.left

abbrev pub invariant-live-loop-left : goal.invariant-live-loop-left
invariant-live-loop-left g l =
    (length l.left ≤ length l.initial.todo) × GoesOn (g.L.Layers.ways l.layers) l.initial.todo l.gives l.left l.all l.rest l.nodes l.nesting

abbrev pub decreases-live-loop-left : goal.decreases-live-loop-left
decreases-live-loop-left g l = length l.left
