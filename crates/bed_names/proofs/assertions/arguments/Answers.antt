use Rattle.bed_names.proofs.TermLemmas.{args_step}
use Rattle.bed_names.proofs.assertions.arguments.Goals as goal

pub loop-a-preserved : goal.loop-a-preserved
loop-a-preserved c =
    args_step c.args.scope.now c.args.holes c.loop-a.found c.argument-found.result _ c.loop-a.params.now c.behind_first-params.result.now
    c.first_sort.result c.args.args.now c.loop-a.a-index c.a-item.result c.loop-a-test.true c.a-item.is c.first_sort.ensures
    c.behind_first-params.ensures c.argument-found.ensures c.loop-a.invariant
