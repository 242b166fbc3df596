use Rattle.std.proofs.Common.{◌<◌, arith}
use Rattle.std.proofs.lemmas.List.{get_or_read}
use Rattle.bed_diff.specs.Edges.{edge_at, IsWithin}
use Rattle.bed_diff.proofs.FrontLemmas.{listed_more}
use Rattle.bed_diff.proofs.rounds.incoming_edges.Goals as goal

pub loop-i-preserved : goal.loop-i-preserved
loop-i-preserved c =
    let l = c.loop-i.invariant in
    let w : IsWithin c.args.nodes 8589934593 (edge_at c.args.edges.now c.loop-i.i) = c.requires.edges c.loop-i.i _ c.loop-i-test.true in
    let to_in : (edge_at c.args.edges.now c.loop-i.i).to < c.args.nodes = w.to_in in
    let next = get_or_read c.loop-i.last.items (edge_at c.args.edges.now c.loop-i.i).to c.index.result.now (omega arith) c.index.ensures 0 in
    rw (c.in_ok-push.ensures.items, next)
    (listed_more c.args.edges.now c.args.nodes c.loop-i.i c.loop-i.last.items c.loop-i.before.items l to_in)
