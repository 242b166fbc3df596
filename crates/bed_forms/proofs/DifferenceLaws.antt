-- What constant forms, differences and sequences with no pieces tell of values, whatever labels and variables are.
use Rattle.std.proofs.Common.{◌≡◌, ◌≢◌, ◌↔◌, ℕ, ◌+◌, ◌-◌, ◌<◌, true, List, [], ap, sym, ◌∙◌, subst, arith, inl, inr, Result, Ok, Err, IfOk}
use Rattle.std.specs.Bool.{Decides}
use Rattle.std.specs.declared.alloc.AllocError.{AllocError}
use Rattle.std.proofs.lemmas.Bool.{or_cases}
use Rattle.bed_lang.specs.declared.word.Word.{Word, Sub, fold-roll-Word}
use Rattle.bed_lang.specs.declared.word.Word.TheOpen.{Word-F}
use Rattle.bed_lang.specs.declared.word.Word.TheVariants.{rolls-Sub}
use Rattle.bed_lang.specs.declared.word.Seq.{Seq}
use Rattle.bed_lang.specs.Numbers.{wrap}
use Rattle.bed_lang.specs.Values.{Values, value, list_value}
use Rattle.bed_lang.specs.declared.form.Form.{Form}
use Rattle.bed_lang.specs.Forms.{word_form, form_step, seq_form, same_form}
use Rattle.bed_lang.specs.Coefficients.{parts_value, key_value, form_value, pieces_value}
use Rattle.bed_lang.proofs.ValueLaws.{value-Sub, value-small}
use Rattle.bed_lang.specs.Differences.{difference, same_difference}
use Rattle.bed_forms.specs.Laws.{HasDifferenceOf, ConstantsAreValues, SameUpToSign, NoPiecesNoElements}
use Rattle.bed_forms.proofs.FormValues.{form-value}
use Rattle.bed_forms.proofs.FormOrder.{IsNormal, form-normal}
use Rattle.bed_forms.proofs.FormLaws.{pieces-value}
use Rattle.bed_forms.proofs.SameForms.{normal-decides}

-- a difference has the form of the word `a - b`
pub difference-form : (a b : Word) → difference a b ≡ word_form (Sub a b)
difference-form a b = sym (ap word_form (sym (rolls-Sub a b)) ∙ fold-roll-Word Form form_step (Word-F.Sub a b))

pub difference-normal : (a b : Word) → IsNormal (difference a b)
difference-normal a b = subst IsNormal (sym (difference-form a b)) (form-normal (Sub a b))

-- the constant of a word's form, and that of a difference, is a word
pub constant-small : (w : Word) → (word_form w).constant < 4294967296
constant-small w = (form-normal w).0

pub difference_constant-small : (a b : Word) → (difference a b).constant < 4294967296
difference_constant-small a b = (difference-normal a b).0

-- the forms of two differences are the same exactly where they are equal
pub same_difference_form-decides : (a b c d : Word) → Decides (same_form (difference a b) (difference c d)) (difference a b ≡ difference c d)
same_difference_form-decides a b c d = normal-decides (difference a b) (difference c d) (difference-normal a b) (difference-normal c d)

module _ (labels : List ℕ → ℕ) (ν : Values) where
  -- a sequence with no pieces is empty
  pub no_pieces-value : (s : Seq) → seq_form s ≡ [] → list_value labels ν s ≡ []
  no_pieces-value s e = sym (pieces-value labels ν s) ∙ ap (pieces_value labels ν) e

  -- the difference of two words has the value of `a - b`
  pub difference-value : (a b : Word) → form_value labels ν (difference a b) ≡ wrap (value labels ν a + (4294967296 - value labels ν b))
  difference-value a b = ap (form_value labels ν) (difference-form a b) ∙ form-value labels ν (Sub a b) ∙ value-Sub labels ν a b

  -- a form with no parts has its constant's value
  pub constant_form-value : (f : Form) → f.constant < 4294967296 → f.parts ≡ [] → form_value labels ν f ≡ f.constant
  constant_form-value f l e = ap (λ ps. wrap (f.constant + parts_value (key_value labels ν) ps)) e ∙ small f.constant l
    where
      small : (n : ℕ) → n < 4294967296 → wrap (n + 0) ≡ n
      small n h = omega arith

  pub constant-value : (w : Word) → (word_form w).parts ≡ [] → value labels ν w ≡ (word_form w).constant
  constant-value w e = sym (form-value labels ν w) ∙ constant_form-value (word_form w) (constant-small w) e

  -- words with a constant difference are so far apart, modulo 2^32
  pub constant_difference-value : (a b : Word) → (difference a b).parts ≡ [] → value labels ν a ≡ wrap (value labels ν b + (difference a b).constant)
  constant_difference-value a b e =
      away (value labels ν a) (value labels ν b) (difference a b).constant (value-small labels ν a) (value-small labels ν b)
      (sym (difference-value a b) ∙ constant_form-value (difference a b) (difference_constant-small a b) e)
    where
      away : (x y c : ℕ) → x < 4294967296 → y < 4294967296 → wrap (x + (4294967296 - y)) ≡ c → x ≡ wrap (y + c)
      away x y c h k d = omega arith

  -- and are different where it isn't 0
  pub constant_difference-unequal : (a b : Word) → (difference a b).parts ≡ [] → (difference a b).constant ≢ 0 → value labels ν a ≢ value labels ν b
  constant_difference-unequal a b e n h =
      n (none (value labels ν a) (value labels ν b) (difference a b).constant (value-small labels ν b) (difference_constant-small a b) (constant_difference-value a b e) h)
    where
      none : (x y c : ℕ) → y < 4294967296 → c < 4294967296 → x ≡ wrap (y + c) → x ≡ y → c ≡ 0
      none x y c k l d h = omega arith

  -- equal differences: where the second equation is true, so is the first
  difference-equal : (a b c d : Word) → difference a b ≡ difference c d → value labels ν c ≡ value labels ν d → value labels ν a ≡ value labels ν b
  difference-equal a b c d e h =
      both (value labels ν a) (value labels ν b) (value labels ν c) (value labels ν d)
      (value-small labels ν a) (value-small labels ν b) (value-small labels ν c) (value-small labels ν d)
      (sym (difference-value a b) ∙ ap (form_value labels ν) e ∙ difference-value c d) h
    where
      both : (x y u v : ℕ) → x < 4294967296 → y < 4294967296 → u < 4294967296 → v < 4294967296
          → wrap (x + (4294967296 - y)) ≡ wrap (u + (4294967296 - v)) → u ≡ v → x ≡ y
      both x y u v h k l m e f = omega arith

  -- where two differences are the same up to sign, both equations are true or neither is
  pub same_difference-equal : (a b c d : Word) → same_difference a b c d ≡ true → (value labels ν a ≡ value labels ν b) ↔ (value labels ν c ≡ value labels ν d)
  same_difference-equal a b c d h = elim (or_cases (same_form (difference a b) (difference c d)) (same_form (difference a b) (difference d c)) h) [
    | inl s ↦ (let e = (same_difference_form-decides a b c d).0 s in (difference-equal c d a b (sym e), difference-equal a b c d e))
    | inr s ↦ (let e = (same_difference_form-decides a b d c).0 s in (λ k. sym (difference-equal d c a b (sym e) k), λ k. difference-equal a b d c e (sym k)))
  ]

pub constants_are_values : ConstantsAreValues
constants_are_values w e labels ν = constant-value labels ν w e

pub same_up_to_sign : SameUpToSign
same_up_to_sign a b c d h labels ν = same_difference-equal labels ν a b c d h

pub no_pieces_no_elements : NoPiecesNoElements
no_pieces_no_elements s e labels ν = no_pieces-value labels ν s e

-- ---- clauses of the calls

pub difference_ok : (a b : Word) (r : Result Form AllocError) → IfOk r (λ f. f ≡ difference a b) → IfOk r (λ f. HasDifferenceOf a b f)
difference_ok a b (Ok f) e = λ labels ν. ap (form_value labels ν) e ∙ difference-value labels ν a b
difference_ok a b (Err x) e = e
