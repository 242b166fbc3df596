use Rattle.bed_table.specs.Layout.{code_length}
use Rattle.bed_table.proofs.LayoutLemmas.{length_step}
use Rattle.bed_table.proofs.layout.code_length.Goals as goal

pub loop-module-preserved : goal.loop-module-preserved
loop-module-preserved c =
    length_step c.args.modules.now c.loop-module.module-index c.module-item.result c.as_slice.result.now c.loop-module.size c.module_size-size.result
    (code_length c.args.modules.now) c.loop-module-test.true c.module-item.is c.as_slice.ensures c.loop-module.invariant c.module_size-size.ensures
