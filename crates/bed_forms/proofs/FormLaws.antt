-- The laws of normal forms.
use Rattle.std.proofs.Common.{◌≡◌, ℕ, ◌+◌, ◌-◌, ◌*◌, ◌<◌, Bool, true, false, if◌then◌else◌, List, [], ◌∷◌, ◌++◌, map, refl, ap, sym, ◌∙◌, subst, arith, append_assoc, Result, Ok, Err, IfOk}
use Rattle.std.specs.declared.alloc.AllocError.{AllocError}
use Rattle.std.specs.Str.{bytes_eq}
use Rattle.bed_lang.specs.declared.word.Word.{Word}
use Rattle.bed_lang.specs.declared.word.Seq.{Seq, roll-Seq, map-Seq, ind-Seq, fold-roll-Seq}
use Rattle.bed_lang.specs.declared.word.Seq.TheOpen.{Seq-F}
use Rattle.bed_lang.specs.Numbers.{wrap}
use Rattle.bed_lang.specs.Values.{Values, variable, value, list_value, list_value_step}
use Rattle.bed_lang.specs.declared.form.Key.{Key}
use Rattle.bed_lang.specs.declared.form.Key.TheVariants as key
use Rattle.bed_lang.specs.declared.form.Form.{Form}
use Rattle.bed_lang.specs.declared.form.Piece.{Piece}
use Rattle.bed_lang.specs.declared.form.Piece.TheVariants.{Element, Sequence}
use Rattle.bed_lang.specs.Keys.{bare_var, key_text}
use Rattle.bed_lang.specs.Forms.{Part, word_form, piece_step, seq_form}
use Rattle.bed_lang.specs.Coefficients.{parts_value, key_value, form_value, pieces_value, no_labels, no_values, constant, label_at, values_at, coefficient, number_at, coefficient_in, IsOrdered, IsFormOf}
use Rattle.bed_forms.specs.Laws.{HasValueOf, HasValuesOf, FormsAreUnique, CoefficientsDecide, ValuesDecide, OnePiecesOneValue}
use Rattle.bed_forms.proofs.KeyLaws.{bare-variable, same-text}
use Rattle.bed_forms.proofs.FormValues.{form-value}
use Rattle.bed_forms.proofs.FormOrder.{form-normal, before-none, same-parts}

key-nothing : (k : Key) → key_value no_labels no_values k ≡ 0
key-nothing (key.Var x) = refl
key-nothing (key.Label f) = refl

parts-nothing : (ps : List Part) → parts_value (key_value no_labels no_values) ps ≡ 0
parts-nothing [] = refl
parts-nothing (p ∷ ps) = rw (key-nothing p.0, parts-nothing ps) (omega arith)

form-constant : (w : Word) → (word_form w).constant ≡ constant w
form-constant w =
    let l = (form-normal w).0 in
    let z = parts-nothing (word_form w).parts in
    let c : (word_form w).constant ≡ form_value no_labels no_values (word_form w) = rw z (omega (arith, l)) in
    c ∙ form-value no_labels no_values w

key-one : (k j : Key) → key_value (label_at k) (values_at k) j ≡ (if bytes_eq (key_text k) (key_text j) then 1 else 0)
key-one k (key.Var x) = refl
key-one k (key.Label f) = refl

number-lt : (k : List ℕ) (ps : List Part) → IsOrdered ps → number_at k ps < 4294967296
number-lt k [] s = omega arith
number-lt k (p ∷ ps) s = by (bytes_eq k (key_text p.0)) (number-lt k ps s.4)
  where
    by : (b : Bool) → number_at k ps < 4294967296 → (if b then p.1 else number_at k ps) < 4294967296
    by true l = s.1
    by false l = l

parts-one : (k : Key) (ps : List Part) → IsOrdered ps → parts_value (key_value (label_at k) (values_at k)) ps ≡ coefficient_in k ps
parts-one k [] s = refl
parts-one k (p ∷ ps) s = rw (key-one k p.0, parts-one k ps s.4) (by (bytes_eq (key_text k) (key_text p.0)) refl)
  where
    by : (b : Bool) → bytes_eq (key_text k) (key_text p.0) ≡ b → wrap (p.1 * (if b then 1 else 0) + coefficient_in k ps) ≡ (if b then p.1 else coefficient_in k ps)
    by true e =
        let none : coefficient_in k ps ≡ 0 = ap (λ (z : List ℕ). number_at z ps) (same-text k p.0 e) ∙ before-none p.0 ps s.3 in
        let l = s.1 in rw none (omega (arith, l))
    by false e = let l = number-lt (key_text k) ps s.4 in omega (arith, l)

gained : (c n : ℕ) → c < 4294967296 → n < 4294967296 → n ≡ wrap (wrap (c + n) + (4294967296 - c))
gained c n h l = omega arith

form-coefficient : (w : Word) (k : Key) → coefficient_in k (word_form w).parts ≡ coefficient k w
form-coefficient w k =
    let f = word_form w in
    let normal = form-normal w in
    let v : wrap (f.constant + coefficient_in k f.parts) ≡ value (label_at k) (values_at k) w
    = ap (λ (z : ℕ). wrap (f.constant + z)) (sym (parts-one k f.parts normal.1)) ∙ form-value (label_at k) (values_at k) w in
    gained f.constant (coefficient_in k f.parts) normal.0 (number-lt (key_text k) f.parts normal.1)
    ∙ ap (λ (z : ℕ). wrap (z + (4294967296 - f.constant))) v
    ∙ ap (λ (z : ℕ). wrap (value (label_at k) (values_at k) w + (4294967296 - z))) (form-constant w)

pub form-is_form : (w : Word) → IsFormOf w (word_form w)
form-is_form w = record { constant_is = form-constant w; coefficients_are = form-coefficient w; is_ordered = (form-normal w).1 }

pub form-equal : (f g : Form) → f.constant ≡ g.constant → f.parts ≡ g.parts → f ≡ g
form-equal f g c p = λ i. record { constant = c i; parts = p i }

pub forms_are_unique : FormsAreUnique
forms_are_unique w f g a b =
    form-equal f g (a.constant_is ∙ sym b.constant_is)
    (same-parts f.parts g.parts a.is_ordered b.is_ordered (λ k. a.coefficients_are k ∙ sym (b.coefficients_are k)))

pub coefficients_decide : CoefficientsDecide
coefficients_decide a b = (λ e. (there-constant e, there-coefficient e), back)
  where
    there-constant : word_form a ≡ word_form b → constant a ≡ constant b
    there-constant e = sym (form-constant a) ∙ ap (λ (f : Form). f.constant) e ∙ form-constant b

    there-coefficient : word_form a ≡ word_form b → (k : Key) → coefficient k a ≡ coefficient k b
    there-coefficient e k = sym (form-coefficient a k) ∙ ap (λ (f : Form). coefficient_in k f.parts) e ∙ form-coefficient b k

    back : (constant a ≡ constant b) × ((k : Key) → coefficient k a ≡ coefficient k b) → word_form a ≡ word_form b
    back h =
        form-equal (word_form a) (word_form b) (form-constant a ∙ h.0 ∙ sym (form-constant b))
        (same-parts (word_form a).parts (word_form b).parts (form-normal a).1 (form-normal b).1
        (λ k. form-coefficient a k ∙ h.1 k ∙ sym (form-coefficient b k)))

pub values_decide : ValuesDecide
values_decide a b = (there, back)
  where
    there : word_form a ≡ word_form b → (labels : List ℕ → ℕ) (ν : Values) → value labels ν a ≡ value labels ν b
    there e labels ν = sym (form-value labels ν a) ∙ ap (form_value labels ν) e ∙ form-value labels ν b

    back : ((labels : List ℕ → ℕ) (ν : Values) → value labels ν a ≡ value labels ν b) → word_form a ≡ word_form b
    back h =
        let c : constant a ≡ constant b = h no_labels no_values in
        let k : (k : Key) → coefficient k a ≡ coefficient k b
        = λ k. ap (λ (z : ℕ). wrap (z + (4294967296 - constant a))) (h (label_at k) (values_at k)) ∙ ap (λ (z : ℕ). wrap (value (label_at k) (values_at k) b + (4294967296 - z))) c in
        (coefficients_decide a b).1 (c, k)

-- ---- sequences

module _ (labels : List ℕ → ℕ) (ν : Values) where
  -- pieces one after another
  pub pieces-append : (ps qs : List Piece) → pieces_value labels ν (ps ++ qs) ≡ pieces_value labels ν ps ++ pieces_value labels ν qs
  pieces-append [] qs = refl
  pieces-append (Element f ∷ ps) qs = ap (λ (s : List ℕ). form_value labels ν f ∷ s) (pieces-append ps qs)
  pieces-append (Sequence x ∷ ps) qs =
      ap (λ (s : List ℕ). map wrap (ν.lists (variable x)) ++ s) (pieces-append ps qs)
      ∙ sym (append_assoc (map wrap (ν.lists (variable x))) (pieces_value labels ν ps) (pieces_value labels ν qs))

  append-nil : (s : List ℕ) → s ++ [] ≡ s
  append-nil [] = refl
  append-nil (x ∷ s) = ap (λ (t : List ℕ). x ∷ t) (append-nil s)

  abbrev Keeps : Seq → Type 0
  Keeps s = pieces_value labels ν (seq_form s) ≡ list_value labels ν s

  layer : (y : Seq-F ((s : Seq) × Keeps s)) → pieces_value labels ν (piece_step (map-Seq _ _ seq_form (map-Seq _ _ (λ p. p.0) y))) ≡ list_value_step labels ν (map-Seq _ _ (list_value labels ν) (map-Seq _ _ (λ p. p.0) y))
  layer (Seq-F.Var x) = append-nil (map wrap (ν.lists (variable (bare_var x)))) ∙ ap (λ z. map wrap (ν.lists z)) (bare-variable x)
  layer Seq-F.Nil = refl
  layer (Seq-F.Cons a s) = rw (form-value labels ν a, s.1) refl
  layer (Seq-F.App s t) = rw (pieces-append (seq_form s.0) (seq_form t.0), s.1, t.1) refl

  -- the pieces have the sequence's value
  pub pieces-value : (s : Seq) → Keeps s
  pieces-value = ind-Seq Keeps (λ x y is. subst (λ (z : Seq-F Seq). Keeps (roll-Seq z)) is (rw (fold-roll-Seq _ piece_step (map-Seq _ _ (λ p. p.0) y), fold-roll-Seq _ (list_value_step labels ν) (map-Seq _ _ (λ p. p.0) y)) (layer y)))

pub one_pieces_one_value : OnePiecesOneValue
one_pieces_one_value s t e labels ν = sym (pieces-value labels ν s) ∙ ap (pieces_value labels ν) e ∙ pieces-value labels ν t

-- ---- clauses of the calls

pub form_ok : (w : Word) (r : Result Form AllocError) → IfOk r (λ f. f ≡ word_form w) → IfOk r (λ f. IsFormOf w f)
form_ok w (Ok f) e = subst (IsFormOf w) (sym e) (form-is_form w)
form_ok w (Err x) e = e

pub value_ok : (w : Word) (r : Result Form AllocError) → IfOk r (λ f. f ≡ word_form w) → IfOk r (λ f. HasValueOf w f)
value_ok w (Ok f) e = λ labels ν. ap (form_value labels ν) e ∙ form-value labels ν w
value_ok w (Err x) e = e

pub values_ok : (s : Seq) (r : Result (List Piece) AllocError) → IfOk r (λ ps. ps ≡ seq_form s) → IfOk r (λ ps. HasValuesOf s ps)
values_ok s (Ok ps) e = λ labels ν. ap (pieces_value labels ν) e ∙ pieces-value labels ν s
values_ok s (Err x) e = e
