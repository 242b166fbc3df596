-- Operations bit by bit.
use Rattle.std.proofs.Common.{◌≡◌, ℕ, ◌&&◌, Bool, true, false, if◌then◌else◌, Some, None, bit_and, bit_or, bit_xor, refl, ap}
use Rattle.bed_lang.specs.declared.word.Word.{Word, Number}
use Rattle.bed_lang.specs.declared.module.Op.{Op}
use Rattle.bed_lang.specs.declared.module.Op.TheVariants as op
use Rattle.bed_lang.specs.declared.form.Form.{Form}
use Rattle.bed_lang.specs.SameFacts.{is_constant}
use Rattle.bed_lang.specs.Forms.{word_form}
use Rattle.bed_deriv.specs.Steps.{bits_of, computed}
use Rattle.bed_check_cond.specs.Parts.{bits, both_constant, bits_word}

bits_same : (h : ℕ → ℕ → ℕ) (o : Op) (f g : Form) → bits o f.constant g.constant ≡ h f.constant g.constant → bits_word o (both_constant f g) ≡ bits_of h f g
bits_same h o f g e = by (is_constant f && is_constant g)
  where
    by : (b : Bool) → bits_word o (if b then Some (f.constant, g.constant) else None) ≡ (if b then Some (Number (h f.constant g.constant)) else None)
    by true = ap (λ n. Some (Number n)) e
    by false = refl

pub and_is : (a b : Word) → bits_word op.And (both_constant (word_form a) (word_form b)) ≡ computed op.And a b
and_is a b = bits_same bit_and op.And (word_form a) (word_form b) refl

pub or_is : (a b : Word) → bits_word op.Or (both_constant (word_form a) (word_form b)) ≡ computed op.Or a b
or_is a b = bits_same bit_or op.Or (word_form a) (word_form b) refl

pub xor_is : (a b : Word) → bits_word op.Xor (both_constant (word_form a) (word_form b)) ≡ computed op.Xor a b
xor_is a b = bits_same bit_xor op.Xor (word_form a) (word_form b) refl
