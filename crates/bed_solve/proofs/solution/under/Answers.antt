use Rattle.std.proofs.Common.{arith}
use Rattle.bed_solve.specs.Solutions.{under}
use Rattle.bed_solve.proofs.SolvingLemmas.{under_more}
use Rattle.bed_solve.proofs.solution.under.Goals as goal

pub loop-left-preserved : goal.loop-left-preserved
loop-left-preserved c = (
  omega arith,
  under_more c.args.nodes.now c.loop-left.left c.index-nodes-left.result c.loop-left.whole c.in_ok-whole.whole (under c.args.nodes.now c.args.tree) (omega arith) (omega arith)
      c.index-nodes-left.is c.loop-left.invariant.1 c.in_ok-whole.ensures,
)
