-- The sum of a comb is that of its pairs, and is made from the last one on.
use Rattle.std.proofs.Common.{◌≡◌, ◌<◌, ◌≤◌, ℕ, suc, zero, ◌+◌, ◌-◌, ◌*◌, Bool, true, false, ◌&&◌, List, [], ◌∷◌, length, drop, is_some, Option, Some, None, refl, sym, ap, ◌∙◌, subst, arith}
use Rattle.std.proofs.lemmas.List.{length-drop, drop-drop}
use Rattle.bed_machine.proofs.WordLaws.{some_same}
use Rattle.bed_lang.specs.declared.form.Form.{Form}
use Rattle.bed_lang.specs.declared.logic.Pure.{Pure}
use Rattle.bed_lang.specs.declared.logic.Pure.TheVariants.{Equal}
use Rattle.bed_deriv.specs.declared.derivation.DArg.{DArg}
use Rattle.bed_deriv.specs.declared.state.SymState.{SymState}
use Rattle.bed_deriv.specs.Arguments.{at_number, to_number, fact_at, number_at}
use Rattle.bed_deriv.specs.PureRules.{pair_before, pairs_at, added_times, combination}
use Rattle.bed_deriv.specs.Checks.{Given, first_failure, when}
use Rattle.bed_check_pure.specs.Combinations.{pairs_known, pair_sum, sum_at, says_sum, comb_goal, comb_pairs, pairs_given}

-- ---- the pairs

module _ (s : SymState) where
  known_is : (args : List DArg) → is_some (pairs_at s args) ≡ pairs_known s args
  known_is [] = refl
  known_is (a ∷ []) = refl
  known_is (a ∷ c ∷ more) = by (at_number s.facts (to_number (Some a))) (to_number (Some c)) (pairs_at s more) ∙ ap (λ z. (is_some (at_number s.facts (to_number (Some a))) && is_some (to_number (Some c))) && z) (known_is more)
    where
      by : (p : Option Pure) (k : Option ℕ) (m : Option (List (Pure × ℕ))) → is_some (pair_before p k m) ≡ ((is_some p && is_some k) && is_some m)
      by None k m = refl
      by (Some p) None m = refl
      by (Some p) (Some k) None = refl
      by (Some p) (Some k) (Some m) = refl

  sum_is : (args : List DArg) (ps : List (Pure × ℕ)) → pairs_at s args ≡ Some ps → sum_at s args ≡ combination ps
  sum_is [] ps e = ap combination (some_same e)
  sum_is (a ∷ []) ps e = absurd (cc)
  sum_is (a ∷ c ∷ more) ps e = by (at_number s.facts (to_number (Some a))) (to_number (Some c)) (pairs_at s more) (λ m f. sum_is more m f) e
    where
      by : (p : Option Pure) (k : Option ℕ) (m : Option (List (Pure × ℕ))) → ((qs : List (Pure × ℕ)) → m ≡ Some qs → sum_at s more ≡ combination qs)
          → pair_before p k m ≡ Some ps → pair_sum p k (sum_at s more) ≡ combination ps
      by None k m ih e = absurd (cc)
      by (Some p) None m ih e = absurd (cc)
      by (Some p) (Some k) None ih e = absurd (cc)
      by (Some p) (Some k) (Some m) ih e = ap (added_times p k) (ih m refl) ∙ ap combination (some_same e)

  pub comb_is : (goal : Option Pure) (args : List DArg) → first_failure (pairs_given s goal args) ≡ first_failure (comb_pairs s goal args)
  comb_is goal args = by (pairs_at s args) (pairs_known s args) (known_is args) (λ ps e. sum_is args ps e) goal
    where
      by : (o : Option (List (Pure × ℕ))) (t : Bool) → is_some o ≡ t → ((ps : List (Pure × ℕ)) → o ≡ Some ps → sum_at s args ≡ combination ps)
          → (goal : Option Pure)
          → first_failure (Given 2 o (λ ps. Given 3 goal (λ g. Given 3 (combination ps) (says_sum g)))) ≡ when t 2 (first_failure (Given 3 goal (comb_goal s args)))
      by None true k f goal = absurd (cc)
      by None false k f goal = refl
      by (Some ps) false k f goal = absurd (cc)
      by (Some ps) true k f None = refl
      by (Some ps) true k f (Some g) = ap (λ z. first_failure (Given 3 z (says_sum g))) (sym (f ps refl))

  -- ---- from the last pair on

  pub few : (args : List DArg) → length args < 2 → sum_at s args ≡ Some (record { constant = 0; parts = [] })
  few [] l = refl
  few (a ∷ []) l = refl
  few (a ∷ c ∷ more) l = absurd (omega arith)

  two : (args : List DArg) → 2 ≤ length args → sum_at s args ≡ pair_sum (fact_at s args 0) (number_at args 1) (sum_at s (drop 2 args))
  two [] l = absurd (omega arith)
  two (a ∷ []) l = absurd (omega arith)
  two (a ∷ c ∷ more) l = refl

  -- a sum without its last pairs is none where it is none with them
  sum_none : (p : Option Pure) (c : Option ℕ) → pair_sum p c None ≡ None
  sum_none None c = refl
  sum_none (Some p) None = refl
  sum_none (Some p) (Some c) = by p
    where
      by : (p : Pure) → added_times p c None ≡ None
      by (Equal a b) = refl
      by _ = refl

  -- from the last pair on: the sum behind some pairs is that behind one more, with the pair between them before it
  one_more : (args : List DArg) (k : ℕ) → 2 * suc k ≤ length args
      → sum_at s (drop (2 * k) args) ≡ pair_sum (fact_at s (drop (2 * k) args) 0) (number_at (drop (2 * k) args) 1) (sum_at s (drop (2 * suc k) args))
  one_more args k l =
      two (drop (2 * k) args) (let d = length-drop (2 * k) args in omega (arith, d, l))
      ∙ ap (λ z. pair_sum (fact_at s (drop (2 * k) args) 0) (number_at (drop (2 * k) args) 1) (sum_at s z)) (drop-drop 2 (2 * k) args ∙ ap (λ n. drop n args) (omega arith))

  pub pair_before_sum : (args : List DArg) (n : ℕ) (total : Form) → 0 < n → 2 * n ≤ length args → sum_at s (drop (2 * n) args) ≡ Some total
      → sum_at s (drop (2 * (n - 1)) args) ≡ pair_sum (fact_at s (drop (2 * (n - 1)) args) 0) (number_at (drop (2 * (n - 1)) args) 1) (Some total)
  pair_before_sum args zero total h l e = absurd (omega (arith, h))
  pair_before_sum args (suc k) total h l e =
      let same : k ≡ suc k - 1 = omega arith in
      subst (λ m. sum_at s (drop (2 * m) args) ≡ pair_sum (fact_at s (drop (2 * m) args) 0) (number_at (drop (2 * m) args) 1) (Some total)) same
      (one_more args k l ∙ ap (pair_sum (fact_at s (drop (2 * k) args) 0) (number_at (drop (2 * k) args) 1)) e)

  pub none_before : (args : List DArg) (k : ℕ) → 2 * k ≤ length args → sum_at s (drop (2 * k) args) ≡ None → sum_at s args ≡ None
  none_before args zero l e = e
  none_before args (suc k) l e =
      none_before args k (omega (arith, l))
      (one_more args k l ∙ ap (pair_sum (fact_at s (drop (2 * k) args) 0) (number_at (drop (2 * k) args) 1)) e ∙ sum_none (fact_at s (drop (2 * k) args) 0) (number_at (drop (2 * k) args) 1))

  pub last_pairs : (args : List DArg) (h : ℕ) → 2 * h ≤ length args → length args < 2 * h + 2
      → sum_at s (drop (2 * h) args) ≡ Some (record { constant = 0; parts = [] })
  last_pairs args h l m = few (drop (2 * h) args) (let d = length-drop (2 * h) args in omega (arith, d, l, m))
