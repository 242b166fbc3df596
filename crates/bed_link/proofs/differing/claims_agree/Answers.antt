use Rattle.std.proofs.Common.{List, ◌≡◌, ◌≢◌, ◌∙◌, sym, ap, subst, [], Some, OnOk, IfErr}
use Rattle.bed_link.specs.declared.error.LinkError.TheVariants.{Memory}
use Rattle.bed_link.specs.Faults.{refusal, differing}
use Rattle.bed_link.specs.Linkable.{claim_faults, same_claim}
use Rattle.bed_link.specs.declared.differing.Claim.{Claim}
use Rattle.bed_link.specs.Seen.{claim_of}
use Rattle.bed_link.proofs.FaultLemmas.{differing_mapped}
use Rattle.bed_link.proofs.differing.claims_agree.Goals as goal

pub returns-clause-accepted : goal.returns-clause-accepted
returns-clause-accepted c =
    subst (λ l. OnOk c.all_agree.result (l ≡ []))
    (ap (λ (l : List Claim). differing (λ d. (claim_of d).name) (λ d. (claim_of d).«module») (λ d e. same_claim (claim_of d) (claim_of e)) l) c.as_slice.ensures.value
    ∙ sym (differing_mapped claim_of (λ c. c.name) (λ c. c.«module») same_claim c.in_ok-claims.claims.items) ∙ ap claim_faults c.in_ok-claims.ensures)
    c.all_agree.ensures.accepted

pub returns-clause-refused : goal.returns-clause-refused
returns-clause-refused c =
    subst (λ l. IfErr c.all_agree.result (λ e. e ≢ Memory → refusal l ≡ Some e))
    (ap (λ (l : List Claim). differing (λ d. (claim_of d).name) (λ d. (claim_of d).«module») (λ d e. same_claim (claim_of d) (claim_of e)) l) c.as_slice.ensures.value
    ∙ sym (differing_mapped claim_of (λ c. c.name) (λ c. c.«module») same_claim c.in_ok-claims.claims.items) ∙ ap claim_faults c.in_ok-claims.ensures)
    c.all_agree.ensures.refused
