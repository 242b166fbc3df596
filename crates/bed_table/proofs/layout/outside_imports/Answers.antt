use Rattle.std.proofs.Common.{map}
use Rattle.bed_table.specs.Seen.{defined_of}
use Rattle.bed_table.proofs.LayoutLemmas.{outside_step}
use Rattle.bed_table.proofs.layout.outside_imports.Goals as goal

pub loop-module-preserved : goal.loop-module-preserved
loop-module-preserved c =
    outside_step (map defined_of c.args.functions.now) c.args.modules.now c.loop-module.module-index c.module-item.result c.as_slice.result.now
    (map (λ n. n.now) c.loop-module.seen.items) (map (λ n. n.now) c.push_outside.new.seen.items) _
    c.loop-module-test.true c.module-item.is c.as_slice.ensures c.loop-module.invariant c.in_ok-push_outside.ensures
