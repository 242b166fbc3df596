-- The rules uncons and void are sound.
use Rattle.std.proofs.Common.{◌≡◌, ℕ, true, ◌&&◌, List, [], ◌∷◌, ◌++◌, map, Option, Some, None, sym, ◌∙◌, ap, subst, inl, inr}
use Rattle.std.proofs.lemmas.Bool.{and_parts, or_cases}
use Rattle.bed_machine.specs.Memory.{Memory}
use Rattle.bed_lang.specs.declared.word.Seq.{Seq}
use Rattle.bed_lang.specs.declared.form.Piece.{Piece}
use Rattle.bed_lang.specs.declared.form.Piece.TheVariants.{Element, Sequence}
use Rattle.bed_lang.specs.declared.logic.Pure.{Pure}
use Rattle.bed_lang.specs.declared.logic.Pure.TheVariants.{Same}
use Rattle.bed_lang.specs.Numbers.{wrap}
use Rattle.bed_lang.specs.Values.{Values, variable}
use Rattle.bed_lang.specs.Forms.{seq_form}
use Rattle.bed_lang.specs.Coefficients.{pieces_value}
use Rattle.bed_forms.proofs.FormLaws.{pieces-value}
use Rattle.bed_sat.specs.Facts.{IsTrueFact}
use Rattle.bed_sat.specs.Assertions.{World}
use Rattle.bed_deriv.specs.declared.derivation.DArg.{DArg}
use Rattle.bed_deriv.specs.declared.state.Sequent.{Sequent}
use Rattle.bed_lang.specs.SameFacts.{is_none}
use Rattle.bed_deriv.specs.Checks.{Goals, with_fact}
use Rattle.bed_deriv.specs.ListRules.{sides, heads_and_tails, uncons, has_element, is_void, void}
use Rattle.bed_check_pure.proofs.SameLaws.{empty_if_none}
use Rattle.bed_check_pure.proofs.CheckLaws.{IsSoundCheck}
use Rattle.bed_check_pure.proofs.RuleLaws.{counted, fact_true, holds_with, goal_true}
use Rattle.bed_check_pure.proofs.RebuiltLaws.{form_word-value, pieces_seq-value}

no_first : {A : Type 0} (x : A) (xs : List A) → x ∷ xs ≡ [] → ⊥
no_first x xs e = cc

no_last : {A : Type 0} (xs ys : List A) → xs ++ ys ≡ [] → ys ≡ []
no_last [] ys e = e
no_last (x ∷ xs) ys e = absurd (no_first x (xs ++ ys) e)

first_same : {A : Type 0} {x y : A} {xs ys : List A} → x ∷ xs ≡ y ∷ ys → x ≡ y
first_same e = cc

rest_same : {A : Type 0} {x y : A} {xs ys : List A} → x ∷ xs ≡ y ∷ ys → xs ≡ ys
rest_same e = cc

module _ (w : World) (ν : Values) (h : Memory) where
  abbrev Is : Pure → Type 0
  Is = IsTrueFact w.codes w.labels ν

  abbrev IsSound : Sequent → ℕ → Goals → Type 0
  IsSound = IsSoundCheck w ν h

  abbrev words : List Piece → List ℕ
  words = pieces_value w.labels ν

  -- the sides of an equation of sequences have one value
  abbrev AreSame : Option (Seq × Seq) → Type 0
  AreSame None = Unit {0}
  AreSame (Some e) = words (seq_form e.0) ≡ words (seq_form e.1)

  sides_say : (p : Pure) → Is p → AreSame (sides p)
  sides_say (Same s t) same = pieces-value w.labels ν s ∙ same ∙ sym (pieces-value w.labels ν t)
  sides_say _ same = tt

  sides_same : (p : Pure) (e : Seq × Seq) → sides p ≡ Some e → Is p → words (seq_form e.0) ≡ words (seq_form e.1)
  sides_same p e is t = subst AreSame is (sides_say p t)

  -- where both begin with an element these are equal, and so are the rests
  abbrev AreTrue : Option (Pure × Pure) → Type 0
  AreTrue None = Unit {0}
  AreTrue (Some both) = Is both.0 × Is both.1

  heads_say : (ps qs : List Piece) → words ps ≡ words qs → AreTrue (heads_and_tails ps qs)
  heads_say (Element f ∷ ps) (Element g ∷ qs) e = (
    form_word-value w.labels ν f ∙ first_same e ∙ sym (form_word-value w.labels ν g),
    pieces_seq-value w.labels ν ps ∙ rest_same e ∙ sym (pieces_seq-value w.labels ν qs),
  )
  heads_say _ _ e = tt

  heads_true : (ps qs : List Piece) (both : Pure × Pure) → heads_and_tails ps qs ≡ Some both → words ps ≡ words qs → Is both.0 × Is both.1
  heads_true ps qs both is e = subst AreTrue is (heads_say ps qs e)

  pub uncons_sound : (q : Sequent) (args : List DArg) (n : ℕ) → IsSound q n (uncons q.state (Some q.goal) args n)
  uncons_sound q args n count p at g goal e is both heads = (
    counted args 1 n 1 count,
    λ above holds.
        let t = heads_true (seq_form e.0) (seq_form e.1) both heads (sides_same p e is (fact_true w ν h q.state args 0 p at holds)) in
        goal_true w ν h q g goal
        (above.0 (holds_with w ν h (with_fact q.state both.0) both.1 (holds_with w ν h q.state both.0 holds t.0) t.1)),
  )

  some_element : (ps : List Piece) → has_element ps ≡ true → words ps ≡ [] → ⊥
  some_element [] is e = absurd (cc)
  some_element (Element f ∷ ps) is e = no_first _ _ e
  some_element (Sequence x ∷ ps) is e = some_element ps is (no_last (map wrap (ν.lists (variable x))) (words ps) e)

  none_and_some : (ps qs : List Piece) → (is_none ps && has_element qs) ≡ true → words ps ≡ words qs → ⊥
  none_and_some ps qs is e =
      let (none, some) = and_parts (is_none ps) (has_element qs) is in
      some_element qs some (sym e ∙ ap words (empty_if_none ps none))

  void_apart : (ps qs : List Piece) → is_void ps qs ≡ true → words ps ≡ words qs → ⊥
  void_apart ps qs is e = elim (or_cases (is_none ps && has_element qs) (is_none qs && has_element ps) is) [
    | inl one ↦ none_and_some ps qs one e
    | inr other ↦ none_and_some qs ps other (sym e)
  ]

  pub void_sound : (q : Sequent) (args : List DArg) (n : ℕ) → IsSound q n (void q.state (Some q.goal) args n)
  void_sound q args n count p at g goal e is apart = (
    counted args 1 n 0 count,
    λ above holds. absurd (void_apart (seq_form e.0) (seq_form e.1) apart (sides_same p e is (fact_true w ν h q.state args 0 p at holds))),
  )
