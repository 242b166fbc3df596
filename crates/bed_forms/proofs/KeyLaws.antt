-- The order of keys: a total one, which doesn't tell keys apart by their places and nothing else.
use Rattle.std.proofs.Common.{◌≡◌, ℕ, zero, suc, true, false, List, ◌∷◌, refl, ap, sym, ◌∙◌}
use Rattle.std.specs.declared.cmp.Ordering.{Ordering}
use Rattle.std.specs.declared.cmp.Ordering.TheVariants.{Less, Equal, Greater}
use Rattle.std.specs.Ordering.{is_eq, nat_cmp, ordering_reverse}
use Rattle.std.specs.Cmp.{IsTotalOrder}
use Rattle.std.specs.Cmp.Lexicographic.{slice_cmp, same_text, texts_ties, on_texts}
use Rattle.std.specs.Str.{bytes_eq}
use Rattle.std.proofs.lemmas.Map.Text.{is_eq-slice_cmp}
use Rattle.bed_lang.specs.declared.word.Var.{Var}
use Rattle.bed_lang.specs.declared.word.Var.TheVariants as var
use Rattle.bed_lang.specs.Values.{Values, variable}
use Rattle.bed_lang.specs.declared.form.Key.{Key}
use Rattle.bed_lang.specs.declared.form.Key.TheVariants as key
use Rattle.bed_lang.specs.Keys.{bare_key, bare_var, key_text, key_order}
use Rattle.bed_lang.specs.Coefficients.{key_value}

texts-equal : (xs ys : List ℕ) → slice_cmp nat_cmp xs ys ≡ Equal → xs ≡ ys
texts-equal xs ys e = same_text xs ys (sym (texts_ties xs ys ∙ ap is_eq e))

-- the key that has a text
abbrev key_from : List ℕ → Key
key_from (zero ∷ x) = key.Var (var.Named (record { bytes = x; at = 0 }))
key_from (suc zero ∷ x) = key.Var (var.Old (record { bytes = x; at = 0 }))
key_from (suc (suc zero) ∷ x) = key.Var (var.Answer 0)
key_from (suc (suc (suc zero)) ∷ x) = key.Var var.Hole
key_from (suc (suc (suc (suc zero))) ∷ n ∷ x) = key.Var (var.Fresh n)
key_from (suc (suc (suc (suc (suc n)))) ∷ x) = key.Label (record { bytes = x; at = 0 })
key_from _ = key.Var var.Hole

from-text : (k : Key) → key_from (key_text k) ≡ bare_key k
from-text (key.Var (var.Named x)) = refl
from-text (key.Var (var.Old x)) = refl
from-text (key.Var (var.Answer at)) = refl
from-text (key.Var (var.Fresh n)) = refl
from-text (key.Var var.Hole) = refl
from-text (key.Label x) = refl

pub text-bare : (a b : Key) → key_text a ≡ key_text b → bare_key a ≡ bare_key b
text-bare a b e = sym (from-text a) ∙ ap key_from e ∙ from-text b

pub order-text : (a b : Key) → key_order a b ≡ Equal → key_text a ≡ key_text b
order-text a b e = texts-equal (key_text a) (key_text b) e

-- two keys with the place 0 that the order doesn't tell apart are equal
pub order-equal : (a b : Key) → bare_key a ≡ a → bare_key b ≡ b → key_order a b ≡ Equal → a ≡ b
order-equal a b p q e = sym p ∙ text-bare a b (order-text a b e) ∙ q

module _ (labels : List ℕ → ℕ) (ν : Values) where
  pub bare-value : (k : Key) → key_value labels ν (bare_key k) ≡ key_value labels ν k
  bare-value (key.Var (var.Named x)) = refl
  bare-value (key.Var (var.Old x)) = refl
  bare-value (key.Var (var.Answer at)) = refl
  bare-value (key.Var (var.Fresh n)) = refl
  bare-value (key.Var var.Hole) = refl
  bare-value (key.Label x) = refl

  -- keys that the order doesn't tell apart have one value
  pub order-value : (a b : Key) → key_order a b ≡ Equal → key_value labels ν a ≡ key_value labels ν b
  order-value a b e = sym (bare-value a) ∙ ap (key_value labels ν) (text-bare a b (order-text a b e)) ∙ bare-value b

pub key_total : IsTotalOrder key_order
key_total = on_texts key_text

pub order-flip : (a b : Key) → key_order a b ≡ Greater → key_order b a ≡ Less
order-flip a b e = key_total.antisymm b a ∙ ap ordering_reverse e

pub same-order : (a b : Key) → bytes_eq (key_text a) (key_text b) ≡ is_eq (key_order a b)
same-order a b = sym (is_eq-slice_cmp (key_text a) (key_text b))

pub order-self : (a : Key) → key_order a a ≡ Equal
order-self a = by (key_order a a) (key_total.antisymm a a)
  where
    by : (o : Ordering) → o ≡ ordering_reverse o → o ≡ Equal
    by Less e = absurd (cc)
    by Equal e = refl
    by Greater e = absurd (cc)

pub same-self : (a : Key) → bytes_eq (key_text a) (key_text a) ≡ true
same-self a = same-order a a ∙ ap is_eq (order-self a)

pub same-less : (a b : Key) → key_order a b ≡ Less → bytes_eq (key_text a) (key_text b) ≡ false
same-less a b e = same-order a b ∙ ap is_eq e

pub same-text : (a b : Key) → bytes_eq (key_text a) (key_text b) ≡ true → key_text a ≡ key_text b
same-text a b e = by (key_order a b) refl (sym (same-order a b) ∙ e)
  where
    by : (o : Ordering) → key_order a b ≡ o → is_eq o ≡ true → key_text a ≡ key_text b
    by Less f t = absurd (cc)
    by Equal f t = order-text a b f
    by Greater f t = absurd (cc)

pub bare-variable : (x : Var) → variable (bare_var x) ≡ variable x
bare-variable (var.Named x) = refl
bare-variable (var.Old x) = refl
bare-variable (var.Answer at) = refl
bare-variable (var.Fresh n) = refl
bare-variable var.Hole = refl

pub bare-twice : (k : Key) → bare_key (bare_key k) ≡ bare_key k
bare-twice (key.Var (var.Named x)) = refl
bare-twice (key.Var (var.Old x)) = refl
bare-twice (key.Var (var.Answer at)) = refl
bare-twice (key.Var (var.Fresh n)) = refl
bare-twice (key.Var var.Hole) = refl
bare-twice (key.Label x) = refl
