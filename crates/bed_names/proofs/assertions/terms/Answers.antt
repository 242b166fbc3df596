use Rattle.bed_names.specs.Terms.{term_faults}
use Rattle.bed_names.proofs.NotedLemmas.{all_step}
use Rattle.bed_names.proofs.assertions.terms.Goals as goal

pub loop-t-preserved : goal.loop-t-preserved
loop-t-preserved c =
    all_step (term_faults c.args.scope.now) c.loop-t.found c.term-found.result _ c.args.terms.now c.loop-t.t-index c.t-item.result
    c.loop-t-test.true c.t-item.is c.term-found.ensures c.loop-t.invariant
