-- A word that is written anew from its form has the same form, and no other fresh variables.
use Rattle.std.proofs.Common.{◌≡◌, ℕ, zero, suc, ◌+◌, ◌*◌, Bool, true, false, ◌==◌, IsTrue, if◌then◌else◌, List, [], ◌∷◌, refl, sym, ap, ◌∙◌, subst, arith}
use Rattle.std.specs.Cmp.{unsigned_Decides}
use Rattle.std.proofs.lemmas.Nat.{mul-mod_second}
use Rattle.std.proofs.lemmas.Bool.{and_parts, and_from}
use Rattle.std.specs.declared.cmp.Ordering.{Ordering}
use Rattle.std.specs.declared.cmp.Ordering.TheVariants.{Less, Equal, Greater}
use Rattle.bed_lang.specs.declared.word.Var.{Var}
use Rattle.bed_lang.specs.declared.word.Var.TheVariants as var
use Rattle.bed_lang.specs.declared.word.Word.{Word, Number, Times, Add, roll-Word, map-Word, ind-Word, fold-roll-Word}
use Rattle.bed_lang.specs.declared.word.Word.TheOpen.{Word-F}
use Rattle.bed_lang.specs.declared.form.Key.{Key}
use Rattle.bed_lang.specs.declared.form.Key.TheVariants as key
use Rattle.bed_lang.specs.declared.form.Form.{Form}
use Rattle.bed_lang.specs.Keys.{bare_var, key_order}
use Rattle.bed_lang.specs.Numbers.{wrap}
use Rattle.bed_lang.specs.Values.{Values, value}
use Rattle.bed_lang.specs.Coefficients.{key_value, parts_value, form_value}
use Rattle.bed_lang.specs.Forms.{Part, part_before, by_order, with_part, add_parts, times_parts, form_step, word_form}
use Rattle.bed_lang.proofs.ValueLaws.{value-Number, value-Var, value-Label, value-Add, value-Times, value-small}
use Rattle.bed_deriv.specs.Fresh.{every, known_var, known_word_step, known_word}
use Rattle.bed_forms.specs.Rebuilt.{key_word, part_word, sum_from, parts_word, form_word, rebuilt_word}
use Rattle.bed_forms.proofs.FormValues.{form-value}
use Rattle.bed_forms.proofs.FormLaws.{values_decide}
use Rattle.bed_deriv.proofs.KnownLaws.{known-Number, known-Var, known-Label, known-Add, known-Times}
use Rattle.bed_chain.specs.Graph.{named_word}

-- ---- values

module _ (labels : List ℕ → ℕ) (ν : Values) where
  abbrev V : Word → ℕ
  V = value labels ν

  abbrev K : Key → ℕ
  K = key_value labels ν

  abbrev S : List Part → ℕ
  S = parts_value K

  key_word-value : (k : Key) → V (key_word k) ≡ wrap (K k)
  key_word-value (key.Var x) = value-Var labels ν x
  key_word-value (key.Label f) = value-Label labels ν f

  part_word-value : (p : Part) → V (part_word p) ≡ wrap (p.1 * K p.0)
  part_word-value p = by (p.1 == 1) (unsigned_Decides p.1 1).0
    where
      by : (b : Bool) → (b ≡ true → p.1 ≡ 1) → V (if b then key_word p.0 else Times p.1 (key_word p.0)) ≡ wrap (p.1 * K p.0)
      by true one = let k = key_word-value p.0 in rw (one refl) (omega arith)
      by false one =
          let k = key_word-value p.0 in
          let t = value-Times labels ν p.1 (key_word p.0) in
          let m = mul-mod_second p.1 (K p.0) 4294967296 in
          t ∙ ap (λ z. wrap (p.1 * z)) k ∙ m

  sum_from-value : (ps : List Part) (x : Word) → V (sum_from x ps) ≡ wrap (V x + S ps)
  sum_from-value [] x = let l = value-small labels ν x in omega arith
  sum_from-value (p ∷ ps) x =
      let a = value-Add labels ν x (part_word p) in
      let b = part_word-value p in
      sum_from-value ps (Add x (part_word p)) ∙ (omega arith)

  parts_word-value : (ps : List Part) → V (parts_word ps) ≡ S ps
  parts_word-value [] = value-Number labels ν 0
  parts_word-value (p ∷ ps) = let b = part_word-value p in sum_from-value ps (part_word p) ∙ (omega arith)

  -- the word of a form
  pub form_word-value : (f : Form) → V (form_word f) ≡ form_value labels ν f
  form_word-value f = by (f.constant == 0) (unsigned_Decides f.constant 0).0
    where
      by : (b : Bool) → (b ≡ true → f.constant ≡ 0) → V (if b then parts_word f.parts else sum_from (Number f.constant) f.parts) ≡ wrap (f.constant + S f.parts)
      by true none =
          let z = none refl in
          let p = parts_word-value f.parts in
          let l = value-small labels ν (parts_word f.parts) in omega arith
      by false none = let n = value-Number labels ν f.constant in sum_from-value f.parts (Number f.constant) ∙ (omega arith)

-- ---- fresh variables

module _ (next : ℕ) where
  abbrev known_key : Key → Bool
  known_key (key.Var x) = known_var next x
  known_key (key.Label f) = true

  abbrev known_part : Part → Bool
  known_part p = known_key p.0

  abbrev Known : List Part → Type 0
  Known ps = IsTrue (every known_part ps)

  before_known : (k : Key) (n : ℕ) (ps : List Part) → IsTrue (known_key k) → Known ps → Known (part_before k n ps)
  before_known k zero ps h q = q
  before_known k (suc n) ps h q = and_from (known_key k) (every known_part ps) h q

  order_either : (P : List Part → Type 0) (o : Ordering) (a b c : List Part) → P a → P b → P c → P (by_order o a b c)
  order_either P Less a b c x y z = x
  order_either P Equal a b c x y z = y
  order_either P Greater a b c x y z = z

  with_known : (x : Part) (rest : List Part → List Part) (ys : List Part) → IsTrue (known_part x) → ((zs : List Part) → Known zs → Known (rest zs)) → Known ys → Known (with_part x rest ys)
  with_known x rest [] h more k = and_from (known_part x) (every known_part (rest [])) h (more [] refl)
  with_known x rest (y ∷ ys) h more k =
      let q = and_parts (known_part y) (every known_part ys) k in
      order_either Known (key_order x.0 y.0) (x ∷ rest (y ∷ ys)) (part_before x.0 (wrap (x.1 + y.1)) (rest ys)) (y ∷ with_part x rest ys)
      (and_from (known_part x) (every known_part (rest (y ∷ ys))) h (more (y ∷ ys) k))
      (before_known x.0 (wrap (x.1 + y.1)) (rest ys) h (more ys q.1))
      (and_from (known_part y) (every known_part (with_part x rest ys)) q.0 (with_known x rest ys h more q.1))

  add_known : (xs ys : List Part) → Known xs → Known ys → Known (add_parts xs ys)
  add_known [] ys k q = q
  add_known (x ∷ xs) ys k q =
      let h = and_parts (known_part x) (every known_part xs) k in
      with_known x (add_parts xs) ys h.0 (λ zs z. add_known xs zs h.1 z) q

  times_known : (n : ℕ) (xs : List Part) → Known xs → Known (times_parts n xs)
  times_known n [] k = refl
  times_known n (x ∷ xs) k =
      let h = and_parts (known_part x) (every known_part xs) k in
      before_known x.0 (wrap (n * x.1)) (times_parts n xs) h.0 (times_known n xs h.1)

  bare_known : (x : Var) → IsTrue (known_var next x) → IsTrue (known_var next (bare_var x))
  bare_known (var.Named x) k = refl
  bare_known (var.Old x) k = refl
  bare_known (var.Answer at) k = refl
  bare_known (var.Fresh n) k = k
  bare_known var.Hole k = refl

  abbrev FormKnown : Word → Type 0
  FormKnown w = IsTrue (known_word next w) → Known (word_form w).parts

  of_word : (x : Word-F Word) → IsTrue (known_word next (roll-Word x)) → IsTrue (known_word_step next (map-Word Word Bool (known_word next) x))
  of_word x k = sym (fold-roll-Word Bool (known_word_step next) x) ∙ k

  layer : (y : Word-F ((w : Word) × FormKnown w)) → IsTrue (known_word_step next (map-Word _ _ (known_word next) (map-Word _ _ (λ p. p.0) y))) → Known (form_step (map-Word _ _ word_form (map-Word _ _ (λ p. p.0) y))).parts
  layer (Word-F.Number n) k = refl
  layer (Word-F.Var x) k = and_from (known_var next (bare_var x)) true (bare_known x k) refl
  layer (Word-F.Label f) k = refl
  layer (Word-F.Add a b) k =
      let q = and_parts (known_word next a.0) (known_word next b.0) k in add_known (word_form a.0).parts (word_form b.0).parts (a.1 q.0) (b.1 q.1)
  layer (Word-F.Sub a b) k =
      let q = and_parts (known_word next a.0) (known_word next b.0) k in
      add_known (word_form a.0).parts (times_parts 4294967295 (word_form b.0).parts) (a.1 q.0) (times_known 4294967295 (word_form b.0).parts (b.1 q.1))
  layer (Word-F.Times n a) k = times_known n (word_form a.0).parts (a.1 k)

  form_known : (w : Word) → FormKnown w
  form_known = ind-Word FormKnown (λ x y is. subst (λ (z : Word-F Word). FormKnown (roll-Word z)) is
      (λ k. subst (λ (f : Form). Known f.parts) (sym (fold-roll-Word Form form_step (map-Word _ _ (λ p. p.0) y))) (layer y (of_word (map-Word _ _ (λ p. p.0) y) k))))

  -- ---- and back

  key_known : (k : Key) → IsTrue (known_key k) → IsTrue (known_word next (key_word k))
  key_known (key.Var x) h = known-Var next x ∙ h
  key_known (key.Label f) h = known-Label next f

  part_known : (p : Part) → IsTrue (known_part p) → IsTrue (known_word next (part_word p))
  part_known p h = by (p.1 == 1)
    where
      by : (b : Bool) → IsTrue (known_word next (if b then key_word p.0 else Times p.1 (key_word p.0)))
      by true = key_known p.0 h
      by false = known-Times next p.1 (key_word p.0) ∙ key_known p.0 h

  sum_known : (w : Word) (ps : List Part) → IsTrue (known_word next w) → Known ps → IsTrue (known_word next (sum_from w ps))
  sum_known w [] k q = k
  sum_known w (p ∷ ps) k q =
      let h = and_parts (known_part p) (every known_part ps) q in
      sum_known (Add w (part_word p)) ps (known-Add next w (part_word p) ∙ and_from (known_word next w) (known_word next (part_word p)) k (part_known p h.0)) h.1

  parts_known : (ps : List Part) → Known ps → IsTrue (known_word next (parts_word ps))
  parts_known [] k = known-Number next 0
  parts_known (p ∷ ps) k = let h = and_parts (known_part p) (every known_part ps) k in sum_known (part_word p) ps (part_known p h.0) h.1

  form_word_known : (f : Form) → Known f.parts → IsTrue (known_word next (form_word f))
  form_word_known f k = by (f.constant == 0)
    where
      by : (b : Bool) → IsTrue (known_word next (if b then parts_word f.parts else sum_from (Number f.constant) f.parts))
      by true = parts_known f.parts k
      by false = sum_known (Number f.constant) f.parts (known-Number next f.constant) k

  pub rebuilt_known : (w : Word) → IsTrue (known_word next w) → IsTrue (known_word next (rebuilt_word w))
  rebuilt_known w k = form_word_known (word_form w) (form_known w k)

pub rebuilt_form : (w : Word) → word_form (rebuilt_word w) ≡ word_form w
rebuilt_form w = (values_decide (rebuilt_word w) w).1 (λ labels ν. form_word-value labels ν (word_form w) ∙ form-value labels ν w)

pub named_form : (next : ℕ) (w : Word) → word_form (named_word next w) ≡ word_form w
named_form next w = by (known_word next w) where
  by : (b : Bool) → word_form (if b then w else rebuilt_word w) ≡ word_form w
  by true = refl
  by false = rebuilt_form w

-- where any known word has a node's form, the node names a known one
pub named_known : (next : ℕ) (known w : Word) → known_word next known ≡ true → word_form known ≡ word_form w → known_word next (named_word next w) ≡ true
named_known next e w known same = by (known_word next w) refl where
  by : (b : Bool) → known_word next w ≡ b → known_word next (if b then w else rebuilt_word w) ≡ true
  by true is = is
  by false is = subst (λ f. known_word next (form_word f) ≡ true) same (rebuilt_known next e known)
