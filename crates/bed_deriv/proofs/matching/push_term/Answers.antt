use Rattle.bed_deriv.proofs.PrefixLemmas.{list_is, term_emp, term_pure, term_alone, term_atom, term_refused}
use Rattle.bed_deriv.proofs.matching.push_term.Goals as goal

pub returns-in-Emp : goal.returns-in-Emp
returns-in-Emp c ts = term_emp _ _ _ ts c.in-Emp.is

pub returns-in_ok-push-in-Pure : goal.returns-in_ok-push-in-Pure
returns-in_ok-push-in-Pure c ts = term_pure _ _ _ _ _ _ ts c.in-Pure.is c.in_ok-copy-in-Pure.ensures c.in_ok-push-in-Pure.ensures.ok

pub returns-in-empty : goal.returns-in-empty
returns-in-empty c ts = term_alone _ _ _ _ ts c.in-Atom.is c.in-empty.len_below

pub returns-then-branch : goal.returns-then-branch
returns-then-branch c ts =
    term_atom _ _ _ _ _ _ _ c.choice-item.result ts c.in-Atom.is (list_is _ _ c.choice-item.is c.in-len1-up.len_at_least)
    c.in_ok-push_equations-in-len1-up.ensures c.if-branch.true

pub returns-else-branch : goal.returns-else-branch
returns-else-branch c ts =
    term_refused _ _ _ _ _ _ _ c.choice-item.result ts c.in-Atom.is (list_is _ _ c.choice-item.is c.in-len1-up.len_at_least)
    c.in_ok-push_equations-in-len1-up.ensures c.if-branch.false
