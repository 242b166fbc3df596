use Rattle.std.proofs.Common.{◌≡◌, ◌∙◌, ◌+◌, ◌++◌, length, map, IfOk, ap, subst}
use Rattle.bed_deriv.specs.Opening.{fresh_values, alone, replaced_term, with_terms}
use Rattle.bed_check_heap.proofs.opening.opened.Goals as goal

pub returns : goal.returns
returns c =
    let s = c.args.s.now in
    let A = c.args.assertion.now in
    subst (λ t. IfOk c.with_values.result (λ r. r ≡ t))
    (ap (λ vs. with_terms (record s { next = s.next + length A.binders }) (map (replaced_term (alone vs)) A.terms))
    (c.as_slice-2.ensures ∙ (c.in_ok-values.ensures ∙ ap (λ bs. c.args.values.now ++ fresh_values bs s.next) c.as_slice.ensures)))
    c.with_values.ensures
