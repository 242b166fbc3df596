use Rattle.bed_names.proofs.TableLaws.{item_index}
use Rattle.bed_link.proofs.unresolved.names.Goals as goal

pub loop-number-preserved : goal.loop-number-preserved
loop-number-preserved g c =
    let name = c.name.result.now in
    let item = c.index-items-number in
    item_index g.T.Named.name_of c.args.items.now c.loop-number.number item.result name c.loop-number-test.true item.is
    c.name.ensures c.loop-number.table c.add.new.self c.as_slice.result.now _ c.loop-number.invariant
    c.as_slice.ensures c.in_ok-add.ensures.is_new c.in_ok-add.ensures.new c.in_ok-add.ensures.old
