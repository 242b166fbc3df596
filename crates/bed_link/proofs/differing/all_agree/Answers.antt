use Rattle.std.proofs.lemmas.Result.{err_from_is_err_and}
use Rattle.bed_names.proofs.TableLaws.{item_index}
use Rattle.bed_link.proofs.DistinctLemmas.{agree_step, agree_refused}
use Rattle.bed_link.proofs.differing.all_agree.Goals as goal

pub loop-number-preserved : goal.loop-number-preserved
loop-number-preserved g c =
    let name = c.name-name.result.now in
    let item = c.index-items-number in
    record {
      table = item_index g.T.Declared.name_of c.args.items.now c.loop-number.number item.result name c.loop-number-test.true item.is
          c.name-name.ensures c.loop-number.table c.add.new.self c.as_slice-bytes.result.now _ c.loop-number.invariant.table
          c.as_slice-bytes.ensures c.in_ok-add.ensures.is_new c.in_ok-add.ensures.new c.in_ok-add.ensures.old;
      faults = agree_step g.T.Declared.name_of c.args.items.now c.loop-number.number item.result name c.loop-number-test.true item.is
          c.name-name.ensures g.T.Declared.number_of g.T.Declared.same c.loop-number.table c.as_slice-bytes.result.now c.get-first.result _ c.loop-number.invariant.table
          c.as_slice-bytes.ensures c.get-first.ensures c.in_ok-agrees.ensures.accepted c.loop-number.invariant.faults;
    }

pub returns-in_err-agrees-clause-refused : goal.returns-in_err-agrees-clause-refused
returns-in_err-agrees-clause-refused g c =
    let name = c.name-name.result.now in
    let item = c.index-items-number in
    let p = err_from_is_err_and c.from_residual.result c.from_residual.ensures.1 in
    rw (p.1, p.2) (λ no.
    agree_refused g.T.Declared.name_of c.args.items.now c.loop-number.number item.result name c.loop-number-test.true item.is c.name-name.ensures
    g.T.Declared.number_of g.T.Declared.same c.loop-number.table c.as_slice-bytes.result.now c.get-first.result _ _ c.loop-number.invariant.table
    c.as_slice-bytes.ensures c.get-first.ensures (c.in_err-agrees.ensures.refused no) c.loop-number.invariant.faults)
