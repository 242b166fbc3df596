use Rattle.std.proofs.Common.{◌∙◌, sym}
use Rattle.bed_deriv.proofs.PrefixLemmas.{list_is, prefixed_nil, chosen_more, chosen_none, chosen_all}
use Rattle.bed_deriv.proofs.choice.chosen.Goals as goal

pub loop-rest-init : goal.loop-rest-init
loop-rest-init c = rw c.new-out.ensures (prefixed_nil _)

pub returns-in-None : goal.returns-in-None
returns-in-None c =
    chosen_none _ _ _ _ _ _ (list_is _ _ c.arg-item.is c.in-len1-up.len_at_least) (sym c.in-None.is ∙ c.in_ok-atom_chosen.ensures) c.loop-rest.invariant

pub loop-rest-preserved : goal.loop-rest-preserved
loop-rest-preserved c =
    chosen_more _ _ _ _ _ _ _ _ c.in_ok-push-in-Some.ensures.ok (list_is _ _ c.arg-item.is c.in-len1-up.len_at_least)
    (sym c.in-Some.is ∙ c.in_ok-atom_chosen.ensures) c.loop-rest.invariant

pub returns : goal.returns
returns c = chosen_all _ _ _ _ c.in_default.len_below c.loop-rest.invariant
