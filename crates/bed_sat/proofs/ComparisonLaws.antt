-- What `eval_pure` computes is the truth of a comparison.
use Rattle.std.proofs.Common.{◌≡◌, ◌≢◌, ℕ, ◌+◌, ◌-◌, ◌*◌, ◌<◌, ◌≤◌, ◌↔◌, Bool, not, ◌&&◌, nat_eq, nat_lt, nat_le, IsTrue, Option, Some, None, IsSome, is_some, IfSome, List, refl, sym, ◌∙◌, ap, ap₂, subst, arith}
use Rattle.std.proofs.lemmas.Bool.Decides.{nat_tests}
use Rattle.bed_lang.specs.Numbers.{wrap}
use Rattle.bed_machine.proofs.WordLaws.{some_same}
use Rattle.bed_lang.specs.declared.word.Name.{Name}
use Rattle.bed_lang.specs.declared.word.Var.{Var}
use Rattle.bed_lang.specs.declared.word.Var.TheVariants as var
use Rattle.bed_lang.specs.declared.word.Word.{Word, roll-Word, map-Word, ind-Word, fold-roll-Word}
use Rattle.bed_lang.specs.declared.word.Word.TheOpen.{Word-F}
use Rattle.bed_lang.specs.declared.logic.Pure.{Pure}
use Rattle.bed_lang.specs.declared.logic.Pure.TheVariants as pure
use Rattle.bed_lang.specs.Values.{Values, variable, value}
use Rattle.bed_lang.proofs.RollLaws.{value_roll}
use Rattle.bed_sat.specs.Facts.{IsTrueFact}
use Rattle.bed_sat.specs.Comparisons.{named_value, GivesNamed, is_given, word_over, word_over_step, compares, on_both, on_one, variable_result, word_result, word_result_step, pure_result}

both_some : (o q : Option ℕ) {A : Type 0} (f : ℕ → ℕ → A) → is_some (on_both o q f) ≡ (is_some o && is_some q)
both_some None q f = refl
both_some (Some m) None f = refl
both_some (Some m) (Some n) f = refl

one_some : (o : Option ℕ) (f : ℕ → ℕ) → is_some (on_one o f) ≡ is_some o
one_some None f = refl
one_some (Some m) f = refl

both_is : (o q : Option ℕ) (f : ℕ → ℕ → ℕ) (v : ℕ) → on_both o q f ≡ Some v → (m : ℕ) × (n : ℕ) × (o ≡ Some m) × (q ≡ Some n) × (v ≡ f m n)
both_is None q f v e = absurd cc
both_is (Some m) None f v e = absurd cc
both_is (Some m) (Some n) f v e = (m, n, refl, refl, sym (some_same e))

one_is : (o : Option ℕ) (f : ℕ → ℕ) (v : ℕ) → on_one o f ≡ Some v → (m : ℕ) × (o ≡ Some m) × (v ≡ f m)
one_is None f v e = absurd cc
one_is (Some m) f v e = (m, refl, sym (some_same e))

none_not : {A : Type 0} (v : ℕ) → ◌≡◌ {A = Option ℕ} None (Some v) → A
none_not v e = absurd cc

module _ (values : List (Name × ℕ)) where
  result_of : (x : Word-F Word) → word_result values (roll-Word x) ≡ word_result_step values (map-Word Word (Option ℕ) (word_result values) x)
  result_of = fold-roll-Word (Option ℕ) (word_result_step values)

  over_of : (x : Word-F Word) → word_over values (roll-Word x) ≡ word_over_step values (map-Word Word Bool (word_over values) x)
  over_of = fold-roll-Word Bool (word_over_step values)

  abbrev IsKnown : Word → Type 0
  IsKnown a = is_some (word_result values a) ≡ word_over values a

  variable_known : (x : Var) → is_some (variable_result values x) ≡ is_given values x
  variable_known (var.Named x) = one_some (named_value values x.bytes) wrap
  variable_known (var.Old x) = refl
  variable_known (var.Answer at) = refl
  variable_known (var.Fresh n) = refl
  variable_known var.Hole = refl

  known_layer : (y : Word-F ((a : Word) × IsKnown a)) → IsKnown (roll-Word (map-Word _ _ (λ p. p.0) y))
  known_layer (Word-F.Number n) = ap is_some (result_of (Word-F.Number n)) ∙ sym (over_of (Word-F.Number n))
  known_layer (Word-F.Label f) = ap is_some (result_of (Word-F.Label f)) ∙ sym (over_of (Word-F.Label f))
  known_layer (Word-F.Var x) = ap is_some (result_of (Word-F.Var x)) ∙ variable_known x ∙ sym (over_of (Word-F.Var x))
  known_layer (Word-F.Add a b) =
      ap is_some (result_of (Word-F.Add a.0 b.0)) ∙ both_some (word_result values a.0) (word_result values b.0) (λ m n. wrap (m + n))
      ∙ ap₂ (λ p q. p && q) a.1 b.1 ∙ sym (over_of (Word-F.Add a.0 b.0))
  known_layer (Word-F.Sub a b) =
      ap is_some (result_of (Word-F.Sub a.0 b.0)) ∙ both_some (word_result values a.0) (word_result values b.0) (λ m n. wrap (m + (4294967296 - n)))
      ∙ ap₂ (λ p q. p && q) a.1 b.1 ∙ sym (over_of (Word-F.Sub a.0 b.0))
  known_layer (Word-F.Times n a) =
      ap is_some (result_of (Word-F.Times n a.0)) ∙ one_some (word_result values a.0) (λ m. wrap (n * m)) ∙ a.1 ∙ sym (over_of (Word-F.Times n a.0))

  known : (a : Word) → IsKnown a
  known = ind-Word IsKnown (λ x y is. subst (λ (z : Word-F Word). IsKnown (roll-Word z)) is (known_layer y))

  pure_known : (p : Pure) → is_some (pure_result values p) ≡ compares values p
  pure_known (pure.Equal a b) = both_some (word_result values a) (word_result values b) nat_eq ∙ ap₂ (λ p q. p && q) (known a) (known b)
  pure_known (pure.Unequal a b) = both_some (word_result values a) (word_result values b) (λ m n. not (nat_eq m n)) ∙ ap₂ (λ p q. p && q) (known a) (known b)
  pure_known (pure.Less a b) = both_some (word_result values a) (word_result values b) nat_lt ∙ ap₂ (λ p q. p && q) (known a) (known b)
  pure_known (pure.AtMost a b) = both_some (word_result values a) (word_result values b) nat_le ∙ ap₂ (λ p q. p && q) (known a) (known b)
  pure_known (pure.Same s t) = refl
  pure_known (pure.Member a s) = refl
  pure_known (pure.NonMember a s) = refl
  pure_known (pure.Code a x) = refl

  -- there is a result exactly where the fact compares words over numbers and the names
  pub result_compares : (p : Pure) → IsSome (pure_result values p) ↔ IsTrue (compares values p)
  result_compares p = (λ e. sym (pure_known p) ∙ e, λ e. pure_known p ∙ e)

  module _ (codes : ℕ → Option (List ℕ)) (labels : List ℕ → ℕ) (ν : Values) (g : GivesNamed values ν) where
    abbrev IsValue : Word → Type 0
    IsValue a = (v : ℕ) → word_result values a ≡ Some v → v ≡ value labels ν a

    variable_value : (x : Var) (v : ℕ) → variable_result values x ≡ Some v → v ≡ wrap (ν.words (variable x))
    variable_value (var.Named x) v e = let p = one_is (named_value values x.bytes) wrap v e in p.2 ∙ ap wrap (sym (g.gives x.bytes p.0 p.1))
    variable_value (var.Old x) v e = none_not v e
    variable_value (var.Answer at) v e = none_not v e
    variable_value (var.Fresh n) v e = none_not v e
    variable_value var.Hole v e = none_not v e

    value_layer : (y : Word-F ((a : Word) × IsValue a)) → IsValue (roll-Word (map-Word _ _ (λ p. p.0) y))
    value_layer (Word-F.Number n) v e = some_same (sym e ∙ result_of (Word-F.Number n)) ∙ sym (value_roll labels ν (Word-F.Number n))
    value_layer (Word-F.Label f) v e = none_not v (sym (result_of (Word-F.Label f)) ∙ e)
    value_layer (Word-F.Var x) v e = variable_value x v (sym (result_of (Word-F.Var x)) ∙ e) ∙ sym (value_roll labels ν (Word-F.Var x))
    value_layer (Word-F.Add a b) v e =
        let p = both_is (word_result values a.0) (word_result values b.0) (λ m n. wrap (m + n)) v (sym (result_of (Word-F.Add a.0 b.0)) ∙ e) in
        p.4 ∙ ap₂ (λ m n. wrap (m + n)) (a.1 p.0 p.2) (b.1 p.1 p.3) ∙ sym (value_roll labels ν (Word-F.Add a.0 b.0))
    value_layer (Word-F.Sub a b) v e =
        let p = both_is (word_result values a.0) (word_result values b.0) (λ m n. wrap (m + (4294967296 - n))) v (sym (result_of (Word-F.Sub a.0 b.0)) ∙ e) in
        p.4 ∙ ap₂ (λ m n. wrap (m + (4294967296 - n))) (a.1 p.0 p.2) (b.1 p.1 p.3) ∙ sym (value_roll labels ν (Word-F.Sub a.0 b.0))
    value_layer (Word-F.Times n a) v e =
        let p = one_is (word_result values a.0) (λ m. wrap (n * m)) v (sym (result_of (Word-F.Times n a.0)) ∙ e) in
        p.2 ∙ ap (λ m. wrap (n * m)) (a.1 p.0 p.1) ∙ sym (value_roll labels ν (Word-F.Times n a.0))

    is_value : (a : Word) → IsValue a
    is_value = ind-Word IsValue (λ x y is. subst (λ (z : Word-F Word). IsValue (roll-Word z)) is (value_layer y))

    eq_test : (m n : ℕ) → IsTrue (nat_eq m n) ↔ (m ≡ n)
    eq_test m n = (λ e. grind (arith, nat_tests), λ e. grind (arith, nat_tests))

    ne_test : (m n : ℕ) → IsTrue (not (nat_eq m n)) ↔ (m ≢ n)
    ne_test m n = (λ e same. grind (arith, nat_tests), λ e. grind (arith, nat_tests))

    lt_test : (m n : ℕ) → IsTrue (nat_lt m n) ↔ (m < n)
    lt_test m n = (λ e. grind (arith, nat_tests), λ e. grind (arith, nat_tests))

    le_test : (m n : ℕ) → IsTrue (nat_le m n) ↔ (m ≤ n)
    le_test m n = (λ e. grind (arith, nat_tests), λ e. grind (arith, nat_tests))

    if_both : (o q : Option ℕ) (f : ℕ → ℕ → Bool) (P : Bool → Type 0) → ((m n : ℕ) → o ≡ Some m → q ≡ Some n → P (f m n)) → IfSome (on_both o q f) P
    if_both None q f P k = tt
    if_both (Some m) None f P k = tt
    if_both (Some m) (Some n) f P k = k m n refl refl

    -- and it is the fact's truth
    compared : (a b : Word) (f : ℕ → ℕ → Bool) (R : ℕ → ℕ → Type 0) → ((m n : ℕ) → IsTrue (f m n) ↔ R m n)
        → IfSome (on_both (word_result values a) (word_result values b) f) (λ t. IsTrue t ↔ R (value labels ν a) (value labels ν b))
    compared a b f R test = if_both (word_result values a) (word_result values b) f (λ t. IsTrue t ↔ R (value labels ν a) (value labels ν b))
        (λ m n p q. subst (λ x. IsTrue (f m n) ↔ R x (value labels ν b)) (is_value a m p) (subst (λ y. IsTrue (f m n) ↔ R m y) (is_value b n q) (test m n)))

    pub result_truth : (p : Pure) → IfSome (pure_result values p) (λ t. IsTrue t ↔ IsTrueFact codes labels ν p)
    result_truth (pure.Equal a b) = compared a b nat_eq (λ m n. m ≡ n) eq_test
    result_truth (pure.Unequal a b) = compared a b (λ m n. not (nat_eq m n)) (λ m n. m ≢ n) ne_test
    result_truth (pure.Less a b) = compared a b nat_lt (λ m n. m < n) lt_test
    result_truth (pure.AtMost a b) = compared a b nat_le (λ m n. m ≤ n) le_test
    result_truth (pure.Same s t) = tt
    result_truth (pure.Member a s) = tt
    result_truth (pure.NonMember a s) = tt
    result_truth (pure.Code a x) = tt
