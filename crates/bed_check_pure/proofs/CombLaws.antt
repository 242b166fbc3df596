-- The rule comb is sound: a sum of multiples of differences that are 0 is 0.
use Rattle.std.proofs.Common.{◌≡◌, ℕ, ◌*◌, true, ◌==◌, List, [], ◌∷◌, Option, Some, None, refl, ap, ap₂, sym, ◌∙◌, subst, arith}
use Rattle.std.proofs.lemmas.Bool.{and_parts}
use Rattle.bed_machine.specs.Memory.{Memory}
use Rattle.bed_lang.specs.declared.form.Form.{Form}
use Rattle.bed_lang.specs.declared.word.Word.{Word, Number, Add, Sub, Times, fold-roll-Word}
use Rattle.bed_lang.specs.declared.word.Word.TheOpen.{Word-F}
use Rattle.bed_lang.specs.declared.word.Word.TheVariants.{rolls-Number, rolls-Add, rolls-Times}
use Rattle.bed_lang.specs.declared.logic.Pure.{Pure}
use Rattle.bed_lang.specs.declared.logic.Pure.TheVariants.{Equal}
use Rattle.bed_lang.specs.Numbers.{wrap}
use Rattle.bed_lang.specs.Values.{Values, value}
use Rattle.bed_lang.specs.Forms.{add_forms, times_form, form_step, word_form}
use Rattle.bed_lang.specs.Coefficients.{form_value}
use Rattle.bed_lang.proofs.ValueLaws.{value-Number, value-Add, value-Sub, value-Times, value-small}
use Rattle.bed_lang.specs.Differences.{difference}
use Rattle.bed_forms.proofs.FormValues.{form-value}
use Rattle.bed_forms.proofs.FormOrder.{IsNormal, form-normal}
use Rattle.bed_forms.proofs.SameForms.{normal-decides}
use Rattle.bed_forms.proofs.DifferenceLaws.{difference-form, difference-value}
use Rattle.bed_sat.specs.Facts.{IsTrueFact}
use Rattle.bed_sat.specs.Assertions.{World}
use Rattle.bed_deriv.specs.declared.derivation.DArg.{DArg}
use Rattle.bed_deriv.specs.declared.state.SymState.{SymState}
use Rattle.bed_deriv.specs.declared.state.Sequent.{Sequent}
use Rattle.bed_deriv.specs.Arguments.{to_number, at_number}
use Rattle.bed_deriv.specs.PureRules.{pair_before, pairs_at, added_times, combination, is_difference, is_even, comb}
use Rattle.bed_check_pure.specs.States.{StateHolds}
use Rattle.bed_check_pure.proofs.CheckLaws.{IsSoundCheck}
use Rattle.bed_check_pure.proofs.RuleLaws.{same_number, numbered_at, listed_fact, goal_true}

form-Number : (n : ℕ) → word_form (Number n) ≡ form_step (Word-F.Number n)
form-Number n = ap word_form (sym (rolls-Number n)) ∙ fold-roll-Word Form form_step (Word-F.Number n)

form-Add : (a b : Word) → word_form (Add a b) ≡ add_forms (word_form a) (word_form b)
form-Add a b = ap word_form (sym (rolls-Add a b)) ∙ fold-roll-Word Form form_step (Word-F.Add a b)

form-Times : (n : ℕ) (a : Word) → word_form (Times n a) ≡ times_form n (word_form a)
form-Times n a = ap word_form (sym (rolls-Times n a)) ∙ fold-roll-Word Form form_step (Word-F.Times n a)

module _ (w : World) (ν : Values) (h : Memory) where
  abbrev Is : Pure → Type 0
  Is = IsTrueFact w.codes w.labels ν

  abbrev V : Word → ℕ
  V = value w.labels ν

  abbrev AreTrue : List (Pure × ℕ) → Type 0
  AreTrue [] = Unit {0}
  AreTrue (p ∷ ps) = Is p.0 × AreTrue ps

  abbrev AreTrueIf : Option (List (Pure × ℕ)) → Type 0
  AreTrueIf None = Unit {0}
  AreTrueIf (Some ps) = AreTrue ps

  pair_true : (p : Option Pure) (c : Option ℕ) (ps : Option (List (Pure × ℕ))) → ((q : Pure) → p ≡ Some q → Is q) → AreTrueIf ps → AreTrueIf (pair_before p c ps)
  pair_true (Some p) (Some c) (Some ps) one more = (one p refl, more)
  pair_true None c ps one more = tt
  pair_true (Some p) None ps one more = tt
  pair_true (Some p) (Some c) None one more = tt

  -- the facts that the arguments number are true
  pairs_true : (s : SymState) (args : List DArg) → StateHolds w ν h s → AreTrueIf (pairs_at s args)
  pairs_true s [] holds = tt
  pairs_true s (a ∷ []) holds = tt
  pairs_true s (a ∷ c ∷ more) holds =
      pair_true (at_number s.facts (to_number (Some a))) (to_number (Some c)) (pairs_at s more)
      (λ p at. (let (k, is) = numbered_at s.facts (to_number (Some a)) p at in listed_fact w ν h s.facts k p holds.facts is))
      (pairs_true s more holds)

  -- a form is that of a word with the value 0
  record IsNothing (f : Form) : Type 0 where
    word : Word
    form : word_form word ≡ f
    none : V word ≡ 0

  abbrev IsNothingIf : Option Form → Type 0
  IsNothingIf None = Unit {0}
  IsNothingIf (Some f) = IsNothing f

  no_sum : (a b : Word) (c : ℕ) (e : Word) → V a ≡ V b → V e ≡ 0 → V (Add (Times c (Sub a b)) e) ≡ 0
  no_sum a b c e same none =
      let d = value-Sub w.labels ν a b in
      let l = value-small w.labels ν b in
      let z : V (Sub a b) ≡ 0 = omega arith in
      let t : V (Times c (Sub a b)) ≡ wrap (c * 0) = value-Times w.labels ν c (Sub a b) ∙ ap (λ n. wrap (c * n)) z in
      let s = value-Add w.labels ν (Times c (Sub a b)) e in omega arith

  added_nothing : (p : Pure) (c : ℕ) (f : Option Form) → Is p → IsNothingIf f → IsNothingIf (added_times p c f)
  added_nothing (Equal a b) c (Some f) same rest = record {
    word = Add (Times c (Sub a b)) rest.word;
    form =
        form-Add (Times c (Sub a b)) rest.word
        ∙ ap₂ add_forms (form-Times c (Sub a b) ∙ ap (times_form c) (sym (difference-form a b))) rest.form;
    none = no_sum a b c rest.word same rest.none;
  }
  added_nothing (Equal a b) c None same rest = tt
  added_nothing _ c f same rest = tt

  combination_nothing : (ps : List (Pure × ℕ)) → AreTrue ps → IsNothingIf (combination ps)
  combination_nothing [] true' = record { word = Number 0; form = form-Number 0; none = value-Number w.labels ν 0 }
  combination_nothing (p ∷ ps) true' = added_nothing p.0 p.1 (combination ps) true'.0 (combination_nothing ps true'.1)

  -- a difference with such a form is one of equal words
  difference_nothing : (p : Pure) (f : Form) → IsNothing f → is_difference p f ≡ true → Is p
  difference_nothing (Equal a b) f nothing same =
      let s = subst IsNormal (sym (difference-form a b)) (form-normal (Sub a b)) in
      let t = subst IsNormal nothing.form (form-normal nothing.word) in
      let e = (normal-decides (difference a b) f s t).0 same in
      let d = sym (difference-value w.labels ν a b) ∙ ap (form_value w.labels ν) (e ∙ sym nothing.form) ∙ form-value w.labels ν nothing.word ∙ nothing.none in
      let l = value-small w.labels ν a in let m = value-small w.labels ν b in omega arith
  difference_nothing _ f nothing same = absurd (cc)

  pub comb_sound : (q : Sequent) (args : List DArg) (n : ℕ) → IsSoundCheck w ν h q n (comb q.state (Some q.goal) args n)
  comb_sound q args n count ps at g goal f is same = (
    sym (same_number n 0 (and_parts (is_even args) (n == 0) count).1),
    λ above holds.
        let true' = subst AreTrueIf at (pairs_true q.state args holds) in
        goal_true w ν h q g goal (difference_nothing g f (subst IsNothingIf is (combination_nothing ps true')) same),
  )
