use Rattle.bed_names.specs.Terms.{assertion_faults}
use Rattle.bed_names.proofs.NotedLemmas.{all_step}
use Rattle.bed_names.proofs.functions.cases.Goals as goal

pub loop-a-preserved : goal.loop-a-preserved
loop-a-preserved c =
    all_step (assertion_faults c.args.outer.now) c.loop-a.found c.assertion-found.result _ c.args.cases.now c.loop-a.a-index
    c.a-item.result c.loop-a-test.true c.a-item.is c.assertion-found.ensures c.loop-a.invariant
