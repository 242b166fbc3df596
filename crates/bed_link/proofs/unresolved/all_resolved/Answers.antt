use Rattle.std.proofs.lemmas.Result.{err_from_is_err_and}
use Rattle.bed_link.proofs.FaultLemmas.{accepted_map, refused_map}
use Rattle.bed_link.proofs.ResolvingLemmas.{found_refused, used_refused, used_accepted}
use Rattle.bed_link.proofs.unresolved.all_resolved.Goals as goal

pub returns-in_err-all_found-clause-refused : goal.returns-in_err-all_found-clause-refused
returns-in_err-all_found-clause-refused c =
    let p = err_from_is_err_and c.from_residual-in_err-all_found.result c.from_residual-in_err-all_found.ensures.1 in
    rw (p.1, p.2) (λ no.
    found_refused c.args.functions.now c.args.imports.now c.args.given.now c.in_ok-exported.exported c.in_ok-words.words c.in_ok-exported.ensures
    c.in_ok-words.ensures _ (c.in_err-all_found.ensures.refused no))

pub returns-clause-accepted : goal.returns-clause-accepted
returns-clause-accepted c =
    accepted_map c.all_used.result _ _
    (λ h.
    used_accepted c.args.functions.now c.args.imports.now c.args.given.now c.in_ok-exported.exported c.in_ok-words.words c.in_ok-exported.ensures
    c.in_ok-words.ensures c.in_ok-imported.imported c.in_ok-imported.ensures c.in_ok-all_found.ensures.accepted h)
    c.all_used.ensures.accepted

pub returns-clause-refused : goal.returns-clause-refused
returns-clause-refused c =
    refused_map c.all_used.result _ _
    (λ e h.
    used_refused c.args.functions.now c.args.imports.now c.args.given.now c.in_ok-exported.exported c.in_ok-words.words c.in_ok-exported.ensures
    c.in_ok-words.ensures c.in_ok-imported.imported c.in_ok-imported.ensures c.in_ok-all_found.ensures.accepted e h)
    c.all_used.ensures.refused
