use Rattle.bed_names.specs.Modules.{predicate_faults}
use Rattle.bed_names.proofs.NotedLemmas.{all_step}
use Rattle.bed_names.proofs.items.predicates.Goals as goal

pub loop-p-preserved : goal.loop-p-preserved
loop-p-preserved c =
    all_step (predicate_faults c.args.declared.now) c.loop-p.found c.predicate-found.result _ c.args.items.now c.loop-p.p-index
    c.p-item.result c.loop-p-test.true c.p-item.is c.predicate-found.ensures c.loop-p.invariant
