-- A form has its word's value, whatever labels and variables are.
use Rattle.std.proofs.Common.{◌≡◌, ℕ, zero, suc, ◌+◌, ◌-◌, ◌*◌, ◌<◌, List, [], ◌∷◌, refl, ap, ◌∙◌, subst, arith}
use Rattle.std.specs.declared.cmp.Ordering.{Ordering}
use Rattle.std.specs.declared.cmp.Ordering.TheVariants.{Less, Equal, Greater}
use Rattle.std.proofs.lemmas.Nat.{mul-mod_first, mul-mod_second}
use Rattle.bed_lang.specs.declared.word.Word.{Word, roll-Word, map-Word, ind-Word, fold-roll-Word}
use Rattle.bed_lang.specs.declared.word.Word.TheOpen.{Word-F}
use Rattle.bed_lang.specs.Numbers.{wrap}
use Rattle.bed_lang.specs.Values.{Values, value, value_step}
use Rattle.bed_lang.specs.declared.form.Key.{Key}
use Rattle.bed_lang.specs.declared.form.Key.TheVariants as key
use Rattle.bed_lang.specs.declared.form.Form.{Form}
use Rattle.bed_lang.specs.Keys.{bare_name, bare_var, key_order}
use Rattle.bed_lang.specs.Forms.{Part, part_before, by_order, with_part, add_parts, times_parts, add_forms, times_form, only, form_step, word_form}
use Rattle.bed_lang.specs.Coefficients.{parts_value, key_value, form_value}
use Rattle.bed_forms.proofs.KeyLaws.{order-value, bare-variable}

spread : (a b w c : ℕ) → wrap (wrap (a + b) * w + c) ≡ wrap (a * w + b * w + c)
spread a b w c = let e = mul-mod_first (a + b) w 4294967296 in let d : (a + b) * w ≡ a * w + b * w = omega arith in omega arith

scale : (n t w c : ℕ) → wrap (wrap (n * t) * w + wrap (n * c)) ≡ wrap (n * wrap (t * w + c))
scale n t w c =
    let e = mul-mod_first (n * t) w 4294967296 in
    let f = mul-mod_second n (t * w + c) 4294967296 in
    let g : n * (t * w + c) ≡ n * t * w + n * c = omega arith in omega arith

minus : (a b : ℕ) → b < 4294967296 → wrap (a + wrap (4294967295 * b)) ≡ wrap (a + (4294967296 - b))
minus a b h = omega arith

pub parts-lt : (v : Key → ℕ) (ps : List Part) → parts_value v ps < 4294967296
parts-lt v [] = omega arith
parts-lt v (p ∷ ps) = omega arith

-- where keys that the order doesn't tell apart have one value
module _ (v : Key → ℕ) (respects : (a b : Key) → key_order a b ≡ Equal → v a ≡ v b) where
  before-value : (k : Key) (c : ℕ) (ps : List Part) → parts_value v (part_before k c ps) ≡ wrap (c * v k + parts_value v ps)
  before-value k zero ps = let l = parts-lt v ps in omega arith
  before-value k (suc n) ps = refl

  module _ (x : Part) (rest : List Part → List Part) (P : ℕ) (law : (ys : List Part) → parts_value v (rest ys) ≡ wrap (P + parts_value v ys)) where
    with-value : (ys : List Part) → parts_value v (with_part x rest ys) ≡ wrap (wrap (x.1 * v x.0 + P) + parts_value v ys)
    with-value [] = rw (law []) (omega arith)
    with-value (y ∷ ys) = by (key_order x.0 y.0) refl (with-value ys)
      where
        by : (o : Ordering) → key_order x.0 y.0 ≡ o → parts_value v (with_part x rest ys) ≡ wrap (wrap (x.1 * v x.0 + P) + parts_value v ys)
            → parts_value v (by_order o (x ∷ rest (y ∷ ys)) (part_before x.0 (wrap (x.1 + y.1)) (rest ys)) (y ∷ with_part x rest ys)) ≡ wrap (wrap (x.1 * v x.0 + P) + parts_value v (y ∷ ys))
        by Less e l = rw (law (y ∷ ys)) (omega arith)
        by Equal e l =
            let k : v x.0 ≡ v y.0 = respects x.0 y.0 e in
            let s = spread x.1 y.1 (v x.0) (wrap (P + parts_value v ys)) in
            rw (before-value x.0 (wrap (x.1 + y.1)) (rest ys), law ys, s, k) (omega arith)
        by Greater e l = rw l (omega arith)

  add-value : (xs ys : List Part) → parts_value v (add_parts xs ys) ≡ wrap (parts_value v xs + parts_value v ys)
  add-value [] ys = let l = parts-lt v ys in omega arith
  add-value (x ∷ xs) ys = with-value x (add_parts xs) (parts_value v xs) (add-value xs) ys

  times-value : (n : ℕ) (xs : List Part) → parts_value v (times_parts n xs) ≡ wrap (n * parts_value v xs)
  times-value n [] = omega arith
  times-value n (x ∷ xs) = rw (before-value x.0 (wrap (n * x.1)) (times_parts n xs), times-value n xs) (scale n x.1 (v x.0) (parts_value v xs))

module _ (labels : List ℕ → ℕ) (ν : Values) where
  abbrev v : Key → ℕ
  v = key_value labels ν

  form-lt : (f : Form) → form_value labels ν f < 4294967296
  form-lt f = omega arith

  pub add-form_value : (f g : Form) → form_value labels ν (add_forms f g) ≡ wrap (form_value labels ν f + form_value labels ν g)
  add-form_value f g = rw (add-value v (order-value labels ν) f.parts g.parts) (omega arith)

  pub times-form_value : (n : ℕ) (f : Form) → form_value labels ν (times_form n f) ≡ wrap (n * form_value labels ν f)
  times-form_value n f =
      let e = mul-mod_second n (f.constant + parts_value v f.parts) 4294967296 in
      let d : n * (f.constant + parts_value v f.parts) ≡ n * f.constant + n * parts_value v f.parts = omega arith in
      rw (times-value v (order-value labels ν) n f.parts) (omega arith)

  abbrev Keeps : Word → Type 0
  Keeps w = form_value labels ν (word_form w) ≡ value labels ν w

  only-value : (k : Key) → form_value labels ν (only k) ≡ wrap (v k)
  only-value k = omega arith

  layer : (y : Word-F ((w : Word) × Keeps w)) → form_value labels ν (form_step (map-Word Word Form word_form (map-Word _ _ (λ p. p.0) y))) ≡ value_step labels ν (map-Word Word ℕ (value labels ν) (map-Word _ _ (λ p. p.0) y))
  layer (Word-F.Number n) = omega arith
  layer (Word-F.Var x) = only-value (key.Var (bare_var x)) ∙ ap (λ z. wrap (ν.words z)) (bare-variable x)
  layer (Word-F.Label f) = only-value (key.Label (bare_name f))
  layer (Word-F.Add a b) = rw (add-form_value (word_form a.0) (word_form b.0), a.1, b.1) refl
  layer (Word-F.Sub a b) =
      rw (add-form_value (word_form a.0) (times_form 4294967295 (word_form b.0)), times-form_value 4294967295 (word_form b.0), a.1)
      (minus (value labels ν a.0) (form_value labels ν (word_form b.0)) (form-lt (word_form b.0)) ∙ ap (λ z. wrap (value labels ν a.0 + (4294967296 - z))) b.1)
  layer (Word-F.Times n a) = rw (times-form_value n (word_form a.0), a.1) refl

  -- the normal form has the word's value
  pub form-value : (w : Word) → Keeps w
  form-value = ind-Word Keeps (λ x y is. subst (λ (z : Word-F Word). Keeps (roll-Word z)) is (rw (fold-roll-Word Form form_step (map-Word _ _ (λ p. p.0) y), fold-roll-Word ℕ (value_step labels ν) (map-Word _ _ (λ p. p.0) y)) (layer y)))
