-- What an operation of the text gives is the value of the word that a step computes.
use Rattle.std.proofs.Common.{◌≡◌, ℕ, ◌+◌, ◌-◌, ◌*◌, Bool, true, false, ◌&&◌, if◌then◌else◌, List, Some, None, refl, sym, ◌∙◌, ap, ap₂, arith}
use Rattle.std.specs.Prelude.{bit_and, bit_or, bit_xor}
use Rattle.std.proofs.Math.Nat.{mul_comm}
use Rattle.std.proofs.lemmas.Bool.{and_parts}
use Rattle.bed_machine.proofs.WordLaws.{some_same}
use Rattle.bed_lang.specs.declared.word.Word.{Word, Number, Add, Sub}
use Rattle.bed_lang.specs.declared.module.Op.{Op}
use Rattle.bed_lang.specs.declared.module.Op.TheVariants as op
use Rattle.bed_lang.specs.Numbers.{wrap}
use Rattle.bed_lang.specs.Values.{Values, value}
use Rattle.bed_lang.specs.Forms.{word_form, times_form}
use Rattle.bed_lang.proofs.ValueLaws.{value-Number, value-Add, value-Sub}
use Rattle.bed_forms.proofs.FormValues.{times-form_value, form-value}
use Rattle.bed_sat.specs.Valid.{op_result}
use Rattle.bed_lang.specs.SameFacts.{is_constant}
use Rattle.bed_forms.specs.Rebuilt.{form_word, rebuilt_word}
use Rattle.bed_deriv.specs.Steps.{product_of, bits_of, computed}
use Rattle.bed_check_pure.proofs.SameLaws.{constant_word-value}
use Rattle.bed_check_pure.proofs.RebuiltLaws.{form_word-value}

module _ (labels : List ℕ → ℕ) (ν : Values) where
  abbrev V : Word → ℕ
  V = value labels ν

  rebuilt-value : (t : Word) → V (rebuilt_word t) ≡ V t
  rebuilt-value t = form_word-value labels ν (word_form t) ∙ form-value labels ν t

  times-value : (c : ℕ) (b : Word) → V (form_word (times_form c (word_form b))) ≡ wrap (c * V b)
  times-value c b = form_word-value labels ν (times_form c (word_form b)) ∙ times-form_value labels ν c (word_form b) ∙ ap (λ z. wrap (c * z)) (form-value labels ν b)

  wrap_twice : (n : ℕ) → wrap (wrap n) ≡ wrap n
  wrap_twice n = omega arith

  product-value : (a b t : Word) → product_of (word_form a) (word_form b) ≡ Some t → wrap (V a * V b) ≡ V t
  product-value a b t e = by (is_constant (word_form a)) refl e
    where
      second : (c : Bool) → is_constant (word_form b) ≡ c → (if c then Some (form_word (times_form (word_form b).constant (word_form a))) else None) ≡ Some t → wrap (V a * V b) ≡ V t
      second true is e =
          ap wrap (mul_comm (V a) (V b)) ∙ ap (λ z. wrap (z * V a)) (constant_word-value labels ν b is) ∙ sym (times-value (word_form b).constant a) ∙ ap V (some_same e)
      second false is e = absurd cc

      by : (c : Bool) → is_constant (word_form a) ≡ c
          → (if c then Some (form_word (times_form (word_form a).constant (word_form b))) else (if is_constant (word_form b) then Some (form_word (times_form (word_form b).constant (word_form a))) else None)) ≡ Some t
          → wrap (V a * V b) ≡ V t
      by true is e = ap (λ z. wrap (z * V b)) (constant_word-value labels ν a is) ∙ sym (times-value (word_form a).constant b) ∙ ap V (some_same e)
      by false is e = second (is_constant (word_form b)) refl e

  bits-value : (f : ℕ → ℕ → ℕ) (a b t : Word) → bits_of f (word_form a) (word_form b) ≡ Some t → wrap (f (V a) (V b)) ≡ V t
  bits-value f a b t e = by (is_constant (word_form a) && is_constant (word_form b)) refl e
    where
      by : (c : Bool) → (is_constant (word_form a) && is_constant (word_form b)) ≡ c → (if c then Some (Number (f (word_form a).constant (word_form b).constant)) else None) ≡ Some t
          → wrap (f (V a) (V b)) ≡ V t
      by true is e =
          let k = and_parts (is_constant (word_form a)) (is_constant (word_form b)) is in
          ap₂ (λ m n. wrap (f m n)) (constant_word-value labels ν a k.0) (constant_word-value labels ν b k.1) ∙ sym (value-Number labels ν (f (word_form a).constant (word_form b).constant)) ∙ ap V (some_same e)
      by false is e = absurd cc

  -- modulo 2^32, the result is the word's value
  pub computed-value : (o : Op) (a b t : Word) → computed o a b ≡ Some t → wrap (op_result o (V a) (V b)) ≡ V t
  computed-value op.Add a b t e = wrap_twice (V a + V b) ∙ sym (value-Add labels ν a b) ∙ sym (rebuilt-value (Add a b)) ∙ ap V (some_same e)
  computed-value op.Sub a b t e = wrap_twice (V a + (4294967296 - V b)) ∙ sym (value-Sub labels ν a b) ∙ sym (rebuilt-value (Sub a b)) ∙ ap V (some_same e)
  computed-value op.Mul a b t e = wrap_twice (V a * V b) ∙ product-value a b t e
  computed-value op.And a b t e = bits-value bit_and a b t e
  computed-value op.Or a b t e = bits-value bit_or a b t e
  computed-value op.Xor a b t e = bits-value bit_xor a b t e
