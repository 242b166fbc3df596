use Rattle.bed_names.specs.Modules.{import_faults}
use Rattle.bed_names.proofs.NotedLemmas.{all_step}
use Rattle.bed_names.proofs.items.imports.Goals as goal

pub loop-i-preserved : goal.loop-i-preserved
loop-i-preserved c =
    all_step (import_faults c.args.declared.now) c.loop-i.found c.import-found.result _ c.args.items.now c.loop-i.i-index
    c.i-item.result c.loop-i-test.true c.i-item.is c.import-found.ensures c.loop-i.invariant
