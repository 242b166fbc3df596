use Rattle.std.proofs.Common.{◌∙◌}
use Rattle.bed_layout.proofs.LabelLemmas.{place_step}
use Rattle.bed_layout.proofs.labels.Labels.place_by_sizes.Goals as goal

pub loop-block-preserved : goal.loop-block-preserved
loop-block-preserved c =
    let s = c.loop-block in
    place_step c.args.self.now.blocks.now s.block-index c.block-item.result s.next c.block_size-next.result c.args.label c.loop-block-test.true c.block-item.is c.if-block-label.false c.block_size-next.ensures
    ∙ s.invariant
