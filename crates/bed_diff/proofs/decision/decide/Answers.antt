use Rattle.std.proofs.Common.{pos, ◌-ℤ◌, refl}
use Rattle.std.proofs.lemmas.List.Elements.{All-push, All-weaker}
use Rattle.bed_diff.specs.Edges.{IsWithin}
use Rattle.bed_diff.proofs.ClosingLemmas.{point_without, reversed_weight, reversed_within, within_more}
use Rattle.bed_diff.proofs.decision.decide.Goals as goal

pub solve-requires-clause-edges : goal.solve-requires-clause-edges
solve-requires-clause-edges c =
    let g = c.args.goal.now in
    rw (c.deref.ensures.value, c.in_ok-push.ensures.items, c.in_ok-all.ensures.items, reversed_weight g.weight c.requires.goal.low c.requires.goal.high)
    (All-push (IsWithin c.args.nodes 8589934593) c.args.edges.now (record { from = g.to; to = g.from; weight = pos 0 -ℤ pos 1 -ℤ g.weight })
    (All-weaker (IsWithin c.args.nodes 8589934592) (IsWithin c.args.nodes 8589934593) (within_more c.args.nodes) c.args.edges.now c.requires.edges)
    (reversed_within c.args.nodes g c.requires.goal))

pub returns-in-Values-clause-point : goal.returns-in-Values-clause-point
returns-in-Values-clause-point c =
    let g = c.args.goal.now in
    let s = rw c.in-Values.is at c.in_ok-found.ensures in
    let t = rw (c.deref.ensures.value, c.in_ok-push.ensures.items, c.in_ok-all.ensures.items, reversed_weight g.weight c.requires.goal.low c.requires.goal.high) at s.1 in
    rw c.from_vec.ensures
    (point_without c.args.nodes c.args.edges.now g (record { from = g.to; to = g.from; weight = pos 0 -ℤ pos 1 -ℤ g.weight }) c.in-Values.found.items refl refl refl s.0 t)

pub returns-clause-point : goal.returns-clause-point
returns-clause-point c = c.cut_circuit.ensures.point c.args.nodes
