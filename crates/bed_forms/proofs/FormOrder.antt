-- The parts of a form stand in order, and parts in order with the same coefficients are the same.
use Rattle.std.proofs.Common.{◌≡◌, ◌≢◌, ℕ, zero, suc, ◌+◌, ◌*◌, ◌<◌, Bool, true, false, if◌then◌else◌, List, [], ◌∷◌, refl, ap, sym, ◌∙◌, subst, arith}
use Rattle.std.specs.declared.cmp.Ordering.{Ordering}
use Rattle.std.specs.declared.cmp.Ordering.TheVariants.{Less, Equal, Greater}
use Rattle.std.specs.Str.{bytes_eq}
use Rattle.bed_lang.specs.declared.word.Word.{Word, roll-Word, map-Word, ind-Word, fold-roll-Word}
use Rattle.bed_lang.specs.declared.word.Word.TheOpen.{Word-F}
use Rattle.bed_lang.specs.Numbers.{wrap}
use Rattle.bed_lang.specs.declared.form.Key.{Key}
use Rattle.bed_lang.specs.declared.form.Key.TheVariants as key
use Rattle.bed_lang.specs.declared.form.Form.{Form}
use Rattle.bed_lang.specs.Keys.{bare_name, bare_var, bare_key, key_text, key_order}
use Rattle.bed_lang.specs.Forms.{Part, part_before, by_order, with_part, add_parts, times_parts, only, form_step, word_form}
use Rattle.bed_lang.specs.Coefficients.{number_at, coefficient_in, ComesBefore, IsOrdered}
use Rattle.bed_forms.proofs.KeyLaws.{order-equal, key_total, order-flip, same-self, same-less, same-text, bare-twice}

before-trans : (j k : Key) (ps : List Part) → key_order j k ≡ Less → ComesBefore k ps → ComesBefore j ps
before-trans j k [] e a = tt
before-trans j k (p ∷ ps) e a = (key_total.trans j k p.0 e a.0, before-trans j k ps e a.1)

part-before : (j k : Key) (c : ℕ) (ps : List Part) → key_order j k ≡ Less → ComesBefore j ps → ComesBefore j (part_before k c ps)
part-before j k zero ps e a = a
part-before j k (suc n) ps e a = (e, a)

part-ordered : (k : Key) (c : ℕ) (ps : List Part) → c < 4294967296 → bare_key k ≡ k → ComesBefore k ps → IsOrdered ps → IsOrdered (part_before k c ps)
part-ordered k zero ps h b a s = s
part-ordered k (suc n) ps h b a s = let z : suc n ≢ 0 = omega arith in (z, h, b, a, s)

module _ (j : Key) where
  with-before : (x : Part) (rest : List Part → List Part) → key_order j x.0 ≡ Less → ((ys : List Part) → ComesBefore j ys → ComesBefore j (rest ys))
      → (ys : List Part) → ComesBefore j ys → ComesBefore j (with_part x rest ys)
  with-before x rest e law [] a = (e, law [] tt)
  with-before x rest e law (y ∷ ys) a = by (key_order x.0 y.0) (with-before x rest e law ys a.1)
    where
      by : (o : Ordering) → ComesBefore j (with_part x rest ys) → ComesBefore j (by_order o (x ∷ rest (y ∷ ys)) (part_before x.0 (wrap (x.1 + y.1)) (rest ys)) (y ∷ with_part x rest ys))
      by Less l = (e, law (y ∷ ys) a)
      by Equal l = part-before j x.0 (wrap (x.1 + y.1)) (rest ys) e (law ys a.1)
      by Greater l = (a.0, l)

  add-before : (xs ys : List Part) → ComesBefore j xs → ComesBefore j ys → ComesBefore j (add_parts xs ys)
  add-before [] ys a b = b
  add-before (x ∷ xs) ys a b = with-before x (add_parts xs) a.0 (λ zs c. add-before xs zs a.1 c) ys b

  times-before : (n : ℕ) (xs : List Part) → ComesBefore j xs → ComesBefore j (times_parts n xs)
  times-before n [] a = tt
  times-before n (x ∷ xs) a = part-before j x.0 (wrap (n * x.1)) (times_parts n xs) a.0 (times-before n xs a.1)

with-ordered : (x : Part) (xs : List Part) → x.1 ≢ 0 → x.1 < 4294967296 → bare_key x.0 ≡ x.0 → ComesBefore x.0 xs
    → ((ys : List Part) → IsOrdered ys → IsOrdered (add_parts xs ys)) → (ys : List Part) → IsOrdered ys → IsOrdered (with_part x (add_parts xs) ys)
with-ordered x xs nz lt b ab law [] s = (nz, lt, b, add-before x.0 xs [] ab tt, law [] tt)
with-ordered x xs nz lt b ab law (y ∷ ys) s = by (key_order x.0 y.0) refl (with-ordered x xs nz lt b ab law ys s.4)
  where
    by : (o : Ordering) → key_order x.0 y.0 ≡ o → IsOrdered (with_part x (add_parts xs) ys)
        → IsOrdered (by_order o (x ∷ add_parts xs (y ∷ ys)) (part_before x.0 (wrap (x.1 + y.1)) (add_parts xs ys)) (y ∷ with_part x (add_parts xs) ys))
    by Less e l = (nz, lt, b, add-before x.0 xs (y ∷ ys) ab (e, before-trans x.0 y.0 ys e s.3), law (y ∷ ys) s)
    by Equal e l =
        let a = subst (λ (k : Key). ComesBefore k ys) (sym (order-equal x.0 y.0 b s.2 e)) s.3 in
        part-ordered x.0 (wrap (x.1 + y.1)) (add_parts xs ys) (omega arith) b (add-before x.0 xs ys ab a) (law ys s.4)
    by Greater e l =
        let f = order-flip x.0 y.0 e in
        (s.0, s.1, s.2, with-before y.0 x (add_parts xs) f (λ zs c. add-before y.0 xs zs (before-trans y.0 x.0 xs f ab) c) ys s.3, l)

add-ordered : (xs ys : List Part) → IsOrdered xs → IsOrdered ys → IsOrdered (add_parts xs ys)
add-ordered [] ys s t = t
add-ordered (x ∷ xs) ys s t = with-ordered x xs s.0 s.1 s.2 s.3 (λ zs u. add-ordered xs zs s.4 u) ys t

times-ordered : (n : ℕ) (xs : List Part) → IsOrdered xs → IsOrdered (times_parts n xs)
times-ordered n [] s = tt
times-ordered n (x ∷ xs) s = part-ordered x.0 (wrap (n * x.1)) (times_parts n xs) (omega arith) s.2 (times-before x.0 n xs s.3) (times-ordered n xs s.4)

-- the constant is below 2^32, and the parts stand in order
abbrev pub IsNormal : Form → Type 0
IsNormal f = (f.constant < 4294967296) × IsOrdered f.parts

one-ordered : (k : Key) → bare_key k ≡ k → IsNormal (only k)
one-ordered k b = (zero-small, (one-some, one-small, b, tt, tt))
  where
    zero-small : 0 < 4294967296
    zero-small = omega arith

    one-small : 1 < 4294967296
    one-small = omega arith

    one-some : ◌≢◌ {A = ℕ} 1 0
    one-some = omega arith

wrap-lt : (n : ℕ) → wrap n < 4294967296
wrap-lt n = omega arith

normal-layer : (y : Word-F ((w : Word) × IsNormal (word_form w))) → IsNormal (form_step (map-Word Word Form word_form (map-Word _ _ (λ p. p.0) y)))
normal-layer (Word-F.Number n) = (wrap-lt n, tt)
normal-layer (Word-F.Var x) = one-ordered (key.Var (bare_var x)) (bare-twice (key.Var x))
normal-layer (Word-F.Label f) = one-ordered (key.Label (bare_name f)) (bare-twice (key.Label f))
normal-layer (Word-F.Add a b) = (wrap-lt _, add-ordered _ _ a.1.1 b.1.1)
normal-layer (Word-F.Sub a b) = (wrap-lt _, add-ordered _ _ a.1.1 (times-ordered _ _ b.1.1))
normal-layer (Word-F.Times n a) = (wrap-lt _, times-ordered _ _ a.1.1)

pub form-normal : (w : Word) → IsNormal (word_form w)
form-normal = ind-Word (λ w. IsNormal (word_form w)) (λ x y is. subst (λ (z : Word-F Word). IsNormal (word_form (roll-Word z))) is (rw (fold-roll-Word Form form_step (map-Word _ _ (λ p. p.0) y)) (normal-layer y)))

-- ---- the same coefficients, the same parts

pub before-none : (k : Key) (ps : List Part) → ComesBefore k ps → coefficient_in k ps ≡ 0
before-none k [] a = refl
before-none k (p ∷ ps) a = rw (same-less k p.0 a.0) (before-none k ps a.1)

first-coefficient : (x : Part) (xs : List Part) → coefficient_in x.0 (x ∷ xs) ≡ x.1
first-coefficient x xs = rw (same-self x.0) refl

same-first : (x y : Part) → x.0 ≡ y.0 → x.1 ≡ y.1 → x ≡ y
same-first x y k n = λ i. (k i, n i)

pub same-parts : (xs ys : List Part) → IsOrdered xs → IsOrdered ys → ((k : Key) → coefficient_in k xs ≡ coefficient_in k ys) → xs ≡ ys
same-parts [] [] s t e = refl
same-parts [] (y ∷ ys) s t e = absurd (t.0 (sym (first-coefficient y ys) ∙ sym (e y.0)))
same-parts (x ∷ xs) [] s t e = absurd (s.0 (sym (first-coefficient x xs) ∙ e x.0))
same-parts (x ∷ xs) (y ∷ ys) s t e = by (key_order x.0 y.0) refl (same-parts xs ys s.4 t.4)
  where
    by : (o : Ordering) → key_order x.0 y.0 ≡ o → (((k : Key) → coefficient_in k xs ≡ coefficient_in k ys) → xs ≡ ys) → x ∷ xs ≡ y ∷ ys
    by Less o more = absurd (s.0 (sym (first-coefficient x xs) ∙ e x.0 ∙ before-none x.0 (y ∷ ys) (o, before-trans x.0 y.0 ys o t.3)))
    by Greater o more =
        let f = order-flip x.0 y.0 o in
        absurd (t.0 (sym (first-coefficient y ys) ∙ sym (e y.0) ∙ before-none y.0 (x ∷ xs) (f, before-trans y.0 x.0 xs f s.3)))
    by Equal o more =
        let k : x.0 ≡ y.0 = order-equal x.0 y.0 s.2 t.2 o in
        let n : x.1 ≡ y.1 = sym (first-coefficient x xs) ∙ e x.0 ∙ ap (λ (j : Key). coefficient_in j (y ∷ ys)) k ∙ first-coefficient y ys in
        let head : x ≡ y = same-first x y k n in
        let tail : xs ≡ ys = more (λ j. rest j (bytes_eq (key_text j) (key_text x.0)) refl k) in
        λ i. head i ∷ tail i
      where
        rest : (j : Key) (b : Bool) → bytes_eq (key_text j) (key_text x.0) ≡ b → x.0 ≡ y.0 → coefficient_in j xs ≡ coefficient_in j ys
        rest j true h k =
            let g : key_text j ≡ key_text x.0 = same-text j x.0 h in
            ap (λ (z : List ℕ). number_at z xs) g ∙ before-none x.0 xs s.3 ∙ sym (ap (λ (z : List ℕ). number_at z ys) (g ∙ ap key_text k) ∙ before-none y.0 ys t.3)
        rest j false h k =
            let g : bytes_eq (key_text j) (key_text y.0) ≡ false = ap (λ (z : Key). bytes_eq (key_text j) (key_text z)) (sym k) ∙ h in
            let left : coefficient_in j (x ∷ xs) ≡ coefficient_in j xs = ap (λ (z : Bool). if z then x.1 else coefficient_in j xs) h in
            let right : coefficient_in j (y ∷ ys) ≡ coefficient_in j ys = ap (λ (z : Bool). if z then y.1 else coefficient_in j ys) g in
            sym left ∙ e j ∙ right
