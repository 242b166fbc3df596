use Rattle.bed_print.proofs.ListLemmas.{all_more, all_done}
use Rattle.bed_print.proofs.list.push_all.Goals as goal

pub loop-item-preserved : goal.loop-item-preserved
loop-item-preserved g c =
    all_more g.T.Printed.kinds c.args.items.now c.loop-item.item-index c.item-item.result c.loop-item.out c.print.new.out _ c.loop-item-test.true c.item-item.is
    c.in_ok-print.ensures c.loop-item.invariant

pub returns : goal.returns
returns g c = all_done g.T.Printed.kinds c.args.items.now c.loop-item.item-index c.loop-item.out _ c.loop-item-test.false c.loop-item.invariant
