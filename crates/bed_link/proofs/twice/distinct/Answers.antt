use Rattle.bed_names.proofs.TableLaws.{item_index}
use Rattle.bed_link.proofs.DistinctLemmas.{distinct_step, distinct_refused}
use Rattle.bed_link.proofs.twice.distinct.Goals as goal

pub loop-number-preserved : goal.loop-number-preserved
loop-number-preserved g c =
    let name = c.name-name.result.now in
    let item = c.index-items-number in
    record {
      table = item_index g.T.Named.name_of c.args.items.now c.loop-number.number item.result name c.loop-number-test.true item.is
          c.name-name.ensures c.loop-number.table c.add.new.self c.as_slice.result.now c.in_ok-is_new.is_new c.loop-number.invariant.table
          c.as_slice.ensures c.in_ok-is_new.ensures.is_new c.in_ok-is_new.ensures.new c.in_ok-is_new.ensures.old;
      faults = distinct_step g.T.Named.name_of c.args.items.now c.loop-number.number item.result name c.loop-number-test.true item.is
          c.name-name.ensures c.loop-number.table c.as_slice.result.now c.in_ok-is_new.is_new _ c.loop-number.invariant.table
          c.as_slice.ensures c.in_ok-is_new.ensures.is_new c.if-not-is_new.false c.loop-number.invariant.faults;
    }

pub returns-then-not-is_new-clause-refused : goal.returns-then-not-is_new-clause-refused
returns-then-not-is_new-clause-refused g c =
    let name = c.name-name.result.now in
    let item = c.index-items-number in
    λ no.
    distinct_refused g.T.Named.name_of c.args.items.now c.loop-number.number item.result name c.loop-number-test.true item.is c.name-name.ensures
    c.loop-number.table c.as_slice.result.now c.in_ok-is_new.is_new _ _ c.loop-number.invariant.table c.as_slice.ensures
    c.in_ok-is_new.ensures.is_new c.if-not-is_new.true (c.twice.ensures no) c.loop-number.invariant.faults
