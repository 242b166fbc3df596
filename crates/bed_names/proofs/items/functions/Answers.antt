use Rattle.bed_names.specs.Modules.{function_faults}
use Rattle.bed_names.proofs.NotedLemmas.{all_step}
use Rattle.bed_names.proofs.items.functions.Goals as goal

pub loop-f-preserved : goal.loop-f-preserved
loop-f-preserved c =
    all_step (function_faults c.args.declared.now) c.loop-f.found c.function-found.result _ c.args.items.now c.loop-f.f-index
    c.f-item.result c.loop-f-test.true c.f-item.is c.function-found.ensures c.loop-f.invariant
