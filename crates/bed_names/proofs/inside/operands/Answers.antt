use Rattle.bed_names.specs.Statements.{operand_faults}
use Rattle.bed_names.proofs.NotedLemmas.{all_step}
use Rattle.bed_names.proofs.inside.operands.Goals as goal

pub loop-a-preserved : goal.loop-a-preserved
loop-a-preserved c =
    all_step (operand_faults c.args.inside.now) c.loop-a.found c.operand-found.result _ c.args.args.now c.loop-a.a-index c.a-item.result
    c.loop-a-test.true c.a-item.is c.operand-found.ensures c.loop-a.invariant
