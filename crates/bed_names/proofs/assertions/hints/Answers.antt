use Rattle.bed_names.specs.Terms.{hint_faults}
use Rattle.bed_names.proofs.NotedLemmas.{all_step}
use Rattle.bed_names.proofs.assertions.hints.Goals as goal

pub loop-h-preserved : goal.loop-h-preserved
loop-h-preserved c =
    all_step (hint_faults c.args.scope.now) c.loop-h.found c.hint-found.result _ c.args.hints.now c.loop-h.h-index c.h-item.result
    c.loop-h-test.true c.h-item.is c.hint-found.ensures c.loop-h.invariant
