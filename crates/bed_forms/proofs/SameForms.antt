-- The tests of forms and of pieces decide whether those of words and sequences are equal, and what is the same by them has one value.
use Rattle.std.proofs.Common.{◌≡◌, ℕ, ◌+◌, ◌*◌, true, ◌==◌, List, [], ◌∷◌, ◌++◌, map, refl, ap, sym, ◌∙◌, subst}
use Rattle.std.specs.Bool.{Decides}
use Rattle.std.specs.Cmp.{unsigned_Decides}
use Rattle.std.specs.Cmp.Lexicographic.{pointwise, bytes_decides}
use Rattle.std.specs.Str.{bytes_eq}
use Rattle.std.proofs.lemmas.Bool.{and_from, and_parts}
use Rattle.std.proofs.Math.Bool.{and-true}
use Rattle.bed_lang.specs.declared.word.Var.{Var}
use Rattle.bed_lang.specs.declared.word.Var.TheVariants as var
use Rattle.bed_lang.specs.declared.word.Word.{Word}
use Rattle.bed_lang.specs.declared.word.Seq.{Seq, roll-Seq, map-Seq, ind-Seq, fold-roll-Seq}
use Rattle.bed_lang.specs.declared.word.Seq.TheOpen.{Seq-F}
use Rattle.bed_lang.specs.Same.{same_var}
use Rattle.bed_lang.specs.Numbers.{wrap}
use Rattle.bed_lang.specs.Values.{Values, variable, value, list_value}
use Rattle.bed_lang.specs.declared.form.Key.{Key}
use Rattle.bed_lang.specs.declared.form.Key.TheVariants as key
use Rattle.bed_lang.specs.declared.form.Form.{Form}
use Rattle.bed_lang.specs.declared.form.Piece.{Piece}
use Rattle.bed_lang.specs.declared.form.Piece.TheVariants.{Element, Sequence}
use Rattle.bed_lang.specs.Keys.{bare_var, bare_key, same_key, variable_text, key_text}
use Rattle.bed_lang.specs.Forms.{Part, word_form, piece_step, seq_form, same_part, same_form, same_piece}
use Rattle.bed_lang.specs.Coefficients.{parts_value, key_value, form_value, pieces_value, IsOrdered}
use Rattle.bed_forms.proofs.KeyLaws.{text-bare, same-text, bare-variable, bare-value}
use Rattle.bed_forms.proofs.FormValues.{form-value}
use Rattle.bed_forms.proofs.FormOrder.{IsNormal, form-normal}
use Rattle.bed_forms.proofs.FormLaws.{form-equal, pieces-value}

-- ---- keys

same_key-text : (a b : Key) → same_key a b ≡ bytes_eq (key_text a) (key_text b)
same_key-text (key.Var (var.Named a)) (key.Var (var.Named b)) = refl
same_key-text (key.Var (var.Old a)) (key.Var (var.Old b)) = refl
same_key-text (key.Var (var.Answer m)) (key.Var (var.Answer n)) = refl
same_key-text (key.Var (var.Fresh m)) (key.Var (var.Fresh n)) = sym (and-true (m == n))
same_key-text (key.Var var.Hole) (key.Var var.Hole) = refl
same_key-text (key.Label f) (key.Label g) = refl
same_key-text (key.Label f) (key.Var (var.Named b)) = refl
same_key-text (key.Label f) (key.Var (var.Old b)) = refl
same_key-text (key.Label f) (key.Var (var.Answer n)) = refl
same_key-text (key.Label f) (key.Var (var.Fresh n)) = refl
same_key-text (key.Label f) (key.Var var.Hole) = refl
same_key-text _ _ = refl

pub text-of_bare : (k : Key) → key_text (bare_key k) ≡ key_text k
text-of_bare (key.Var x) = ap variable_text (bare-variable x)
text-of_bare (key.Label f) = refl

-- two keys are the same exactly where they are equal, places aside
pub same_key-decides : (a b : Key) → Decides (same_key a b) (bare_key a ≡ bare_key b)
same_key-decides a b = (there, back)
  where
    there : same_key a b ≡ true → bare_key a ≡ bare_key b
    there h = text-bare a b (same-text a b (sym (same_key-text a b) ∙ h))

    back : bare_key a ≡ bare_key b → same_key a b ≡ true
    back e = same_key-text a b ∙ (bytes_decides (key_text a) (key_text b)).1 (sym (text-of_bare a) ∙ ap key_text e ∙ text-of_bare b)

-- two variables are the same exactly where they are equal, places aside
pub same_var-decides : (a b : Var) → Decides (same_var a b) (bare_var a ≡ bare_var b)
same_var-decides a b = (λ h. there ((same_key-decides (key.Var a) (key.Var b)).0 h), λ e. (same_key-decides (key.Var a) (key.Var b)).1 (ap key.Var e))
  where
    there : key.Var (bare_var a) ≡ key.Var (bare_var b) → bare_var a ≡ bare_var b
    there e = cc

-- ---- parts and forms

same_part-self : (p : Part) → same_part p p ≡ true
same_part-self p = and_from (same_key p.0 p.0) (p.1 == p.1) ((same_key-decides p.0 p.0).1 refl) ((unsigned_Decides p.1 p.1).1 refl)

parts-self : (ps : List Part) → pointwise same_part ps ps ≡ true
parts-self [] = refl
parts-self (p ∷ ps) = and_from (same_part p p) (pointwise same_part ps ps) (same_part-self p) (parts-self ps)

parts-equal : (xs ys : List Part) → IsOrdered xs → IsOrdered ys → pointwise same_part xs ys ≡ true → xs ≡ ys
parts-equal [] [] s t h = refl
parts-equal [] (y ∷ ys) s t h = absurd (cc)
parts-equal (x ∷ xs) [] s t h = absurd (cc)
parts-equal (x ∷ xs) (y ∷ ys) s t h =
    let all = and_parts (same_part x y) (pointwise same_part xs ys) h in
    let one = and_parts (same_key x.0 y.0) (x.1 == y.1) all.0 in
    let k : x.0 ≡ y.0 = sym s.2 ∙ (same_key-decides x.0 y.0).0 one.0 ∙ t.2 in
    let n : x.1 ≡ y.1 = (unsigned_Decides x.1 y.1).0 one.1 in
    let more : xs ≡ ys = parts-equal xs ys s.4 t.4 all.1 in
    λ i. (k i, n i) ∷ more i

form-self : (f : Form) → same_form f f ≡ true
form-self f = and_from (f.constant == f.constant) (pointwise same_part f.parts f.parts) ((unsigned_Decides f.constant f.constant).1 refl) (parts-self f.parts)

-- two forms in order are the same exactly where they are equal
pub normal-decides : (f g : Form) → IsNormal f → IsNormal g → Decides (same_form f g) (f ≡ g)
normal-decides f g s t = (there, λ e. subst (λ (z : Form). same_form f z ≡ true) e (form-self f))
  where
    there : same_form f g ≡ true → f ≡ g
    there h =
        let all = and_parts (f.constant == g.constant) (pointwise same_part f.parts g.parts) h in
        form-equal f g ((unsigned_Decides f.constant g.constant).0 all.0) (parts-equal f.parts g.parts s.1 t.1 all.1)

-- the forms of two words are the same exactly where they are equal
pub same_form-decides : (a b : Word) → Decides (same_form (word_form a) (word_form b)) (word_form a ≡ word_form b)
same_form-decides a b = normal-decides (word_form a) (word_form b) (form-normal a) (form-normal b)

-- ---- pieces

-- an element's form is in order, and a variable's place is 0
abbrev IsNormalPiece : Piece → Type 0
IsNormalPiece (Element f) = IsNormal f
IsNormalPiece (Sequence x) = bare_var x ≡ x

abbrev AreNormal : List Piece → Type 0
AreNormal [] = Unit {0}
AreNormal (p ∷ ps) = IsNormalPiece p × AreNormal ps

normal-append : (ps qs : List Piece) → AreNormal ps → AreNormal qs → AreNormal (ps ++ qs)
normal-append [] qs s t = t
normal-append (p ∷ ps) qs s t = (s.0, normal-append ps qs s.1 t)

bare_var-twice : (x : Var) → bare_var (bare_var x) ≡ bare_var x
bare_var-twice (var.Named x) = refl
bare_var-twice (var.Old x) = refl
bare_var-twice (var.Answer at) = refl
bare_var-twice (var.Fresh n) = refl
bare_var-twice var.Hole = refl

normal-layer : (y : Seq-F ((s : Seq) × AreNormal (seq_form s))) → AreNormal (piece_step (map-Seq _ _ seq_form (map-Seq _ _ (λ p. p.0) y)))
normal-layer (Seq-F.Var x) = (bare_var-twice x, tt)
normal-layer Seq-F.Nil = tt
normal-layer (Seq-F.Cons a s) = (form-normal a, s.1)
normal-layer (Seq-F.App s t) = normal-append (seq_form s.0) (seq_form t.0) s.1 t.1

pieces-normal : (s : Seq) → AreNormal (seq_form s)
pieces-normal = ind-Seq (λ s. AreNormal (seq_form s)) (λ x y is. subst (λ (z : Seq-F Seq). AreNormal (seq_form (roll-Seq z))) is (rw (fold-roll-Seq _ piece_step (map-Seq _ _ (λ p. p.0) y)) (normal-layer y)))

piece-self : (p : Piece) → same_piece p p ≡ true
piece-self (Element f) = form-self f
piece-self (Sequence x) = (same_var-decides x x).1 refl

pieces-self : (ps : List Piece) → pointwise same_piece ps ps ≡ true
pieces-self [] = refl
pieces-self (p ∷ ps) = and_from (same_piece p p) (pointwise same_piece ps ps) (piece-self p) (pieces-self ps)

piece-equal : (p q : Piece) → IsNormalPiece p → IsNormalPiece q → same_piece p q ≡ true → p ≡ q
piece-equal (Element f) (Element g) s t h = ap Element ((normal-decides f g s t).0 h)
piece-equal (Element f) (Sequence y) s t h = absurd (cc)
piece-equal (Sequence x) (Element g) s t h = absurd (cc)
piece-equal (Sequence x) (Sequence y) s t h = ap Sequence (sym s ∙ (same_var-decides x y).0 h ∙ t)

pieces-equal : (ps qs : List Piece) → AreNormal ps → AreNormal qs → pointwise same_piece ps qs ≡ true → ps ≡ qs
pieces-equal [] [] s t h = refl
pieces-equal [] (q ∷ qs) s t h = absurd (cc)
pieces-equal (p ∷ ps) [] s t h = absurd (cc)
pieces-equal (p ∷ ps) (q ∷ qs) s t h =
    let all = and_parts (same_piece p q) (pointwise same_piece ps qs) h in
    let one : p ≡ q = piece-equal p q s.0 t.0 all.0 in
    let more : ps ≡ qs = pieces-equal ps qs s.1 t.1 all.1 in
    λ i. one i ∷ more i

-- the pieces of two sequences are the same exactly where they are equal
pub same_pieces-decides : (s t : Seq) → Decides (pointwise same_piece (seq_form s) (seq_form t)) (seq_form s ≡ seq_form t)
same_pieces-decides s t = (
  pieces-equal (seq_form s) (seq_form t) (pieces-normal s) (pieces-normal t),
  λ e. subst (λ (z : List Piece). pointwise same_piece (seq_form s) z ≡ true) e (pieces-self (seq_form s)),
)

-- ---- values

-- where labels and variables have these values
module _ (labels : List ℕ → ℕ) (ν : Values) where
  same_key-value : (a b : Key) → same_key a b ≡ true → key_value labels ν a ≡ key_value labels ν b
  same_key-value a b h = sym (bare-value labels ν a) ∙ ap (key_value labels ν) ((same_key-decides a b).0 h) ∙ bare-value labels ν b

  same_parts-value : (ps qs : List Part) → pointwise same_part ps qs ≡ true → parts_value (key_value labels ν) ps ≡ parts_value (key_value labels ν) qs
  same_parts-value [] [] h = refl
  same_parts-value [] (q ∷ qs) h = absurd (cc)
  same_parts-value (p ∷ ps) [] h = absurd (cc)
  same_parts-value (p ∷ ps) (q ∷ qs) h =
      let all = and_parts (same_part p q) (pointwise same_part ps qs) h in
      let one = and_parts (same_key p.0 q.0) (p.1 == q.1) all.0 in
      let k : key_value labels ν p.0 ≡ key_value labels ν q.0 = same_key-value p.0 q.0 one.0 in
      let n : p.1 ≡ q.1 = (unsigned_Decides p.1 q.1).0 one.1 in
      let more : parts_value (key_value labels ν) ps ≡ parts_value (key_value labels ν) qs = same_parts-value ps qs all.1 in
      λ i. wrap (n i * k i + more i)

  -- any two forms that are the same have one value
  pub same_forms-value : (f g : Form) → same_form f g ≡ true → form_value labels ν f ≡ form_value labels ν g
  same_forms-value f g h =
      let all = and_parts (f.constant == g.constant) (pointwise same_part f.parts g.parts) h in
      let c : f.constant ≡ g.constant = (unsigned_Decides f.constant g.constant).0 all.0 in
      let ps = same_parts-value f.parts g.parts all.1 in
      λ i. wrap (c i + ps i)

  same_var-variable : (a b : Var) → same_var a b ≡ true → variable a ≡ variable b
  same_var-variable a b h = sym (bare-variable a) ∙ ap variable ((same_var-decides a b).0 h) ∙ bare-variable b

  -- any two lists of pieces that are the same have one value
  pub same_lists-value : (ps qs : List Piece) → pointwise same_piece ps qs ≡ true → pieces_value labels ν ps ≡ pieces_value labels ν qs
  same_lists-value [] [] h = refl
  same_lists-value [] (q ∷ qs) h = absurd (cc)
  same_lists-value (p ∷ ps) [] h = absurd (cc)
  same_lists-value (Element f ∷ ps) (Element g ∷ qs) h =
      let all = and_parts (same_form f g) (pointwise same_piece ps qs) h in
      let one : form_value labels ν f ≡ form_value labels ν g = same_forms-value f g all.0 in
      let more : pieces_value labels ν ps ≡ pieces_value labels ν qs = same_lists-value ps qs all.1 in
      λ i. one i ∷ more i
  same_lists-value (Sequence x ∷ ps) (Sequence y ∷ qs) h =
      let all = and_parts (same_var x y) (pointwise same_piece ps qs) h in
      let one : variable x ≡ variable y = same_var-variable x y all.0 in
      let more : pieces_value labels ν ps ≡ pieces_value labels ν qs = same_lists-value ps qs all.1 in
      λ i. map wrap (ν.lists (one i)) ++ more i
  same_lists-value (Element f ∷ ps) (Sequence y ∷ qs) h = absurd (cc)
  same_lists-value (Sequence x ∷ ps) (Element g ∷ qs) h = absurd (cc)

  -- words with the same form have one value
  pub same_form-value : (a b : Word) → same_form (word_form a) (word_form b) ≡ true → value labels ν a ≡ value labels ν b
  same_form-value a b h = sym (form-value labels ν a) ∙ same_forms-value (word_form a) (word_form b) h ∙ form-value labels ν b

  -- sequences with the same pieces have one value
  pub same_pieces-value : (s t : Seq) → pointwise same_piece (seq_form s) (seq_form t) ≡ true → list_value labels ν s ≡ list_value labels ν t
  same_pieces-value s t h = sym (pieces-value labels ν s) ∙ same_lists-value (seq_form s) (seq_form t) h ∙ pieces-value labels ν t
