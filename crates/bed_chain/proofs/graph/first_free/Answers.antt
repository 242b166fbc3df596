use Rattle.std.proofs.Common.{sym, arith}
use Rattle.bed_chain.proofs.FreeLemmas.{tied_next}
use Rattle.bed_chain.proofs.graph.first_free.Goals as goal

pub loop-at-preserved : goal.loop-at-preserved
loop-at-preserved c = (let lt = c.loop-at-test.true in omega arith, tied_next c.args.labels.now c.args.places.now c.loop-at.at c.loop-at-test.true c.loop-at.invariant.1 (sym c.if-is_free.ensures))
