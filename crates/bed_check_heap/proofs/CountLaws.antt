-- A node of fold that has as many arguments as it takes has those of the parameters and the binders.
use Rattle.std.proofs.Common.{◌≡◌, ◌≤◌, ℕ, ◌+◌, true, ◌==◌, List, length, arith}
use Rattle.std.proofs.lemmas.Bool.{and_parts}
use Rattle.bed_lang.specs.declared.logic.Assertion.{Assertion}
use Rattle.bed_lang.specs.declared.module.Predicate.{Predicate}
use Rattle.bed_deriv.specs.declared.derivation.DArg.{DArg}
use Rattle.bed_deriv.specs.Matches.{count_of_goals, count_of_atoms}
use Rattle.bed_check_pure.specs.Refusals.{fold_counts}
use Rattle.bed_check_pure.proofs.RuleLaws.{same_number}

pub counts_fit : (args : List DArg) (n : ℕ) (p : Predicate) (A : Assertion) → fold_counts args n p A ≡ true
    → 2 + length p.params + length A.binders ≤ length args
counts_fit args n p A e =
    let size = 2 + length p.params + length A.binders + count_of_atoms A.terms in
    let k = and_parts (length args == size) (n == count_of_goals A.terms + 1) e in
    let same : length args ≡ size = same_number (length args) size k.0 in
    omega (arith, same)
