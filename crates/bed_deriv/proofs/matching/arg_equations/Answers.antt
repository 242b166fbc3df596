use Rattle.std.proofs.Common.{◌∙◌, sym}
use Rattle.bed_deriv.proofs.PrefixLemmas.{list_is, prefixed_nil, equations_more, equations_none, equations_short, equations_all, equations_over}
use Rattle.bed_deriv.proofs.matching.arg_equations.Goals as goal

pub loop-left-init : goal.loop-left-init
loop-left-init c = rw c.new-out.ensures (prefixed_nil _)

pub returns-in-empty : goal.returns-in-empty
returns-in-empty c = equations_short _ _ _ _ _ _ (list_is _ _ c.a-item.is c.in-len1-up.len_at_least) c.in-empty.len_below c.loop-left.invariant

pub returns-in-None : goal.returns-in-None
returns-in-None c =
    equations_none _ _ _ _ _ _ _ _ (list_is _ _ c.a-item.is c.in-len1-up.len_at_least) (list_is _ _ c.b-item.is c.in-len1-up-right.len_at_least)
    (sym c.in-None.is ∙ c.in_ok-arg_goal-in-len1-up-right.ensures) c.loop-left.invariant

pub loop-left-preserved : goal.loop-left-preserved
loop-left-preserved c =
    equations_more _ _ _ _ _ _ _ _ _ _ c.in_ok-push-in-Some.ensures.ok
    (list_is _ _ c.a-item.is c.in-len1-up.len_at_least) (list_is _ _ c.b-item.is c.in-len1-up-right.len_at_least)
    (sym c.in-Some.is ∙ c.in_ok-arg_goal-in-len1-up-right.ensures) c.loop-left.invariant

pub returns-in-empty-right : goal.returns-in-empty-right
returns-in-empty-right c = equations_all _ _ _ _ c.in_default.len_below c.in-empty-right.len_below c.loop-left.invariant

pub returns-in_default-right : goal.returns-in_default-right
returns-in_default-right c = equations_over _ _ _ _ c.in_default.len_below c.in_default-right.len_at_least c.loop-left.invariant
