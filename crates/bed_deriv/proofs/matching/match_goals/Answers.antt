use Rattle.std.proofs.Common.{ap}
use Rattle.std.specs.Option.{option_copied}
use Rattle.bed_deriv.proofs.PrefixLemmas.{list_is, prefixed_nil, goals_more, goals_none, goals_all, goals_over}
use Rattle.bed_deriv.proofs.matching.match_goals.Goals as goal

pub loop-rest-init : goal.loop-rest-init
loop-rest-init c = rw c.new-out.ensures (prefixed_nil _)

pub returns-in-None : goal.returns-in-None
returns-in-None c =
    goals_none _ _ _ (option_copied c.in_ok-push_term.field-0) _ _ c.term-item.result _ (list_is _ _ c.term-item.is c.in-len1-up.len_at_least)
    c.in_ok-push_term.ensures (ap option_copied c.in-None.is) c.loop-rest.invariant

pub loop-rest-preserved : goal.loop-rest-preserved
loop-rest-preserved c =
    goals_more _ _ _ (option_copied c.in_ok-push_term.field-0) c.in-Some.others.now _ _ c.term-item.result _ (list_is _ _ c.term-item.is c.in-len1-up.len_at_least)
    c.in_ok-push_term.ensures (ap option_copied c.in-Some.is) c.loop-rest.invariant

pub returns-in-empty : goal.returns-in-empty
returns-in-empty c = goals_all _ _ _ _ c.in_default.len_below c.in-empty.len_below c.loop-rest.invariant

pub returns-in_default-left : goal.returns-in_default-left
returns-in_default-left c = goals_over _ _ _ _ c.in_default.len_below c.in_default-left.len_at_least c.loop-rest.invariant
