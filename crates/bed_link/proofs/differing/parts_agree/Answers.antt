use Rattle.std.proofs.Common.{◌≡◌, ◌≢◌, ◌∙◌, sym, ap, subst, [], Some, OnOk, IfErr}
use Rattle.bed_link.specs.declared.error.LinkError.TheVariants.{Memory}
use Rattle.bed_link.specs.Faults.{refusal, differing}
use Rattle.bed_link.specs.Seen.{pair_of}
use Rattle.bed_link.proofs.FaultLemmas.{differing_mapped}
use Rattle.bed_link.proofs.differing.parts_agree.Goals as goal

pub returns-clause-accepted : goal.returns-clause-accepted
returns-clause-accepted g c =
    subst (λ l. OnOk c.all_agree.result (l ≡ []))
    (ap (λ l. differing (λ p. g.T.Item.name_of (pair_of p).0) (λ p. (pair_of p).1) (λ p q. g.T.Tree.alike (pair_of p).0 (pair_of q).0) l) c.as_slice.ensures.value
    ∙ sym (differing_mapped pair_of (λ p. g.T.Item.name_of p.0) (λ p. p.1) (λ p q. g.T.Tree.alike p.0 q.0) c.in_ok-items.items.items)
    ∙ ap (λ l. differing (λ p. g.T.Item.name_of p.0) (λ p. p.1) (λ p q. g.T.Tree.alike p.0 q.0) l) c.in_ok-items.ensures)
    c.all_agree.ensures.accepted

pub returns-clause-refused : goal.returns-clause-refused
returns-clause-refused g c =
    subst (λ l. IfErr c.all_agree.result (λ e. e ≢ Memory → refusal l ≡ Some e))
    (ap (λ l. differing (λ p. g.T.Item.name_of (pair_of p).0) (λ p. (pair_of p).1) (λ p q. g.T.Tree.alike (pair_of p).0 (pair_of q).0) l) c.as_slice.ensures.value
    ∙ sym (differing_mapped pair_of (λ p. g.T.Item.name_of p.0) (λ p. p.1) (λ p q. g.T.Tree.alike p.0 q.0) c.in_ok-items.items.items)
    ∙ ap (λ l. differing (λ p. g.T.Item.name_of p.0) (λ p. p.1) (λ p q. g.T.Tree.alike p.0 q.0) l) c.in_ok-items.ensures)
    c.all_agree.ensures.refused
