use Rattle.std.proofs.Common.{[], map}
use Rattle.std.proofs.lemmas.Result.{err_from_is_err_and}
use Rattle.bed_link.proofs.FaultLemmas.{accepted_map, refused_map}
use Rattle.bed_link.proofs.ResolvingLemmas.{second_refused, given_refused, given_accepted}
use Rattle.bed_link.proofs.twice.no_name_twice.Goals as goal

pub returns-in_err-distinct-2-clause-refused : goal.returns-in_err-distinct-2-clause-refused
returns-in_err-distinct-2-clause-refused c =
    let p = err_from_is_err_and c.from_residual-in_err-distinct-2.result c.from_residual-in_err-distinct-2.ensures.1 in
    rw (p.1, p.2) (λ no. second_refused (map (λ s. s.«module».name) c.args.modules.now) (map (λ p. p.item.now.name) c.args.functions.now) (map (λ g. g.0) c.args.given.now) [] c.in_ok-distinct.ensures.accepted _ (c.in_err-distinct-2.ensures.refused no))

pub returns-clause-accepted : goal.returns-clause-accepted
returns-clause-accepted c =
    accepted_map c.apart.result _ _
    (λ h.
    given_accepted (map (λ s. s.«module».name) c.args.modules.now) (map (λ p. p.item.now.name) c.args.functions.now) (map (λ g. g.0) c.args.given.now) c.in_ok-given.given c.in_ok-distinct.ensures.accepted c.in_ok-distinct-2.ensures.accepted c.in_ok-given.ensures.accepted
    c.in_ok-given.ensures.table h)
    c.apart.ensures.accepted

pub returns-clause-refused : goal.returns-clause-refused
returns-clause-refused c =
    refused_map c.apart.result _ _
    (λ e h.
    given_refused (map (λ s. s.«module».name) c.args.modules.now) (map (λ p. p.item.now.name) c.args.functions.now) (map (λ g. g.0) c.args.given.now) c.in_ok-given.given c.in_ok-distinct.ensures.accepted c.in_ok-distinct-2.ensures.accepted c.in_ok-given.ensures.accepted
    c.in_ok-given.ensures.table e h)
    c.apart.ensures.refused
