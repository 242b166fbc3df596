use Rattle.bed_condition_text.proofs.ListLemmas.{each_more, each_done}
use Rattle.bed_condition_text.proofs.list.push_each_after.Goals as goal

pub loop-item-preserved : goal.loop-item-preserved
loop-item-preserved g c =
    each_more c.args.mark.now g.T.Written.text c.args.items.now c.loop-item.item-index c.item-item.result _ _ _ _
    c.loop-item-test.true c.item-item.is c.in_ok-extend_from_slice.ensures.items c.in_ok-write.ensures c.loop-item.invariant

pub returns : goal.returns
returns g c = each_done c.args.mark.now g.T.Written.text c.args.items.now c.loop-item.item-index _ _ c.loop-item-test.false c.loop-item.invariant
