use Rattle.bed_names.specs.Resolved.{resolved_function}
use Rattle.bed_names.proofs.ResolvedLemmas.{map_step}
use Rattle.bed_names.proofs.resolving.items.functions.Goals as goal

pub loop-f-preserved : goal.loop-f-preserved
loop-f-preserved c =
    map_step (resolved_function c.args.declared.now) c.args.items.now c.loop-f.out c.push.new.self c.loop-f.f-index c.f-item.result
    c.in_ok-function.field-0 c.loop-f-test.true c.f-item.is c.in_ok-function.ensures c.loop-f.invariant c.in_ok-push.ensures.ok
