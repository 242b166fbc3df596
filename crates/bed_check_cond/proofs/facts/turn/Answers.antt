use Rattle.std.proofs.Common.{◌≡◌, Some, slice_get}
use Rattle.bed_check_cond.proofs.FactsLemmas.{list_is, child_refused, child_opened}
use Rattle.bed_check_cond.proofs.facts.turn.Goals as goal

pub returns-in-Err : goal.returns-in-Err
returns-in-Err c =
    let is = c.in-Some.is in
    let got = c.in-Some.ensures.value in
    let found : slice_get c.args.left.goals c.args.left.at ≡ Some c.in-Some.q.now = cc in
    child_refused c.args.decls.now c.args.left c.args.node c.child-item.result _ c.in-Some.q.now c.in-Err.verdict
    (list_is _ _ c.child-item.is c.in-len1-up.len_at_least) found c.in-Err.ensures.walk

pub returns : goal.returns
returns c =
    let is = c.in-Some.is in
    let got = c.in-Some.ensures.value in
    let found : slice_get c.args.left.goals c.args.left.at ≡ Some c.in-Some.q.now = cc in
    child_opened c.args.decls.now c.args.left c.in-Ok.below c.args.node c.child-item.result _ c.in-Some.q.now
    (list_is _ _ c.child-item.is c.in-len1-up.len_at_least) found c.in-Ok.ensures.walk c.in-Ok.ensures.smaller
