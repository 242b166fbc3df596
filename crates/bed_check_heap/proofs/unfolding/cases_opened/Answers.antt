use Rattle.bed_check_heap.proofs.RoomLaws.{list_is, case_refused, case_more}
use Rattle.bed_check_heap.proofs.unfolding.cases_opened.Goals as goal

pub returns-in-Err : goal.returns-in-Err
returns-in-Err c =
    case_refused _ _ _ _ c.args.values.now _ _ _ c.args.s.now c.in-Err.ensures (list_is _ _ c.case-item.is c.in-len1-up.len_at_least) c.loop-rest.invariant

pub loop-rest-preserved : goal.loop-rest-preserved
loop-rest-preserved c =
    case_more _ _ _ c.args.values.now _ _ _ c.args.s.now c.in-Ok.ensures (list_is _ _ c.case-item.is c.in-len1-up.len_at_least) c.loop-rest.invariant
