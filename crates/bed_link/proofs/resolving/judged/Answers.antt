use Rattle.std.proofs.Common.{◌≡◌, subst, IfOk}
use Rattle.std.proofs.lemmas.Result.{err_from_is_err_and}
use Rattle.bed_link.proofs.FaultLemmas.{accepted_map, told_map}
use Rattle.bed_link.proofs.ResolvingLemmas.{judged_twice, judged_unresolved, judged_differs, judged_long, judged_none, length_seen}
use Rattle.bed_link.proofs.resolving.judged.Goals as goal

pub returns-in_err-no_name_twice-clause-refused : goal.returns-in_err-no_name_twice-clause-refused
returns-in_err-no_name_twice-clause-refused c =
    let p = err_from_is_err_and c.from_residual.result c.from_residual.ensures.1 in
    rw (p.1, p.2) (λ no.
    judged_twice c.args.modules.now c.args.functions.now c.args.imports.now c.args.given.now c.args.base c.requires.functions c.requires.imports _
    (c.in_err-no_name_twice.ensures.refused no))

pub returns-in_err-all_resolved-clause-refused : goal.returns-in_err-all_resolved-clause-refused
returns-in_err-all_resolved-clause-refused c =
    let p = err_from_is_err_and c.from_residual-in_err-all_resolved.result c.from_residual-in_err-all_resolved.ensures.1 in
    rw (p.1, p.2) (λ no.
    judged_unresolved c.args.modules.now c.args.functions.now c.args.imports.now c.args.given.now c.args.base c.requires.functions c.requires.imports
    c.in_ok-no_name_twice.ensures.accepted _ (c.in_err-all_resolved.ensures.refused no))

pub returns-in_err-none_differs-clause-refused : goal.returns-in_err-none_differs-clause-refused
returns-in_err-none_differs-clause-refused c =
    let p = err_from_is_err_and c.from_residual-in_err-none_differs.result c.from_residual-in_err-none_differs.ensures.1 in
    rw (p.1, p.2) (λ no.
    judged_differs c.args.modules.now c.args.functions.now c.args.imports.now c.args.given.now c.args.base c.requires.functions c.requires.imports
    c.in_ok-no_name_twice.ensures.accepted c.in_ok-all_resolved.ensures.accepted _ (c.in_err-none_differs.ensures.refused no))

pub returns-clause-accepted : goal.returns-clause-accepted
returns-clause-accepted c =
    accepted_map c.checked_length.result _ _
    (λ h.
    judged_none c.args.modules.now c.args.functions.now c.args.imports.now c.args.given.now c.args.base c.requires.functions c.requires.imports
    c.in_ok-no_name_twice.ensures.accepted c.in_ok-all_resolved.ensures.accepted c.in_ok-none_differs.ensures.accepted h)
    c.checked_length.ensures.accepted

pub returns-clause-length : goal.returns-clause-length
returns-clause-length c =
    subst (λ k. IfOk c.checked_length.result (λ n. n ≡ k))
    (length_seen c.args.modules.now c.args.functions.now c.args.imports.now c.args.given.now c.args.base c.requires.functions c.requires.imports)
    c.checked_length.ensures.length

pub returns-clause-refused : goal.returns-clause-refused
returns-clause-refused c =
    told_map c.checked_length.result _ _
    (λ e h.
    judged_long c.args.modules.now c.args.functions.now c.args.imports.now c.args.given.now c.args.base c.requires.functions c.requires.imports
    c.in_ok-no_name_twice.ensures.accepted c.in_ok-all_resolved.ensures.accepted e c.in_ok-none_differs.ensures.accepted h)
    c.checked_length.ensures.refused
