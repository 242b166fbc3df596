use Rattle.bed_print.proofs.ListLemmas.{each_more, each_done}
use Rattle.bed_print.proofs.list.push_each_after.Goals as goal

pub loop-item-preserved : goal.loop-item-preserved
loop-item-preserved g c =
    each_more c.args.class g.T.Printed.kinds c.args.items.now c.loop-item.item-index c.item-item.result c.loop-item.out c.push_fixed.new.out c.print.new.out _
    c.loop-item-test.true c.item-item.is c.in_ok-push_fixed.ensures c.in_ok-print.ensures c.loop-item.invariant

pub returns : goal.returns
returns g c = each_done c.args.class g.T.Printed.kinds c.args.items.now c.loop-item.item-index c.loop-item.out _ c.loop-item-test.false c.loop-item.invariant
