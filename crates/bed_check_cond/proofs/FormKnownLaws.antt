-- A word or sequence that is written anew from its normal form has no other fresh variables.
use Rattle.std.proofs.Common.{◌≡◌, ℕ, zero, suc, ◌+◌, ◌*◌, Bool, true, false, ◌&&◌, ◌==◌, IsTrue, if◌then◌else◌, List, [], ◌∷◌, Option, Some, None, refl, sym, ◌∙◌, subst}
use Rattle.std.proofs.lemmas.Bool.{and_parts, and_from}
use Rattle.std.specs.declared.cmp.Ordering.{Ordering}
use Rattle.std.specs.declared.cmp.Ordering.TheVariants.{Less, Equal, Greater}
use Rattle.std.specs.Prelude.{bit_and, bit_or, bit_xor}
use Rattle.bed_machine.proofs.WordLaws.{some_same}
use Rattle.bed_lang.specs.declared.word.Var.{Var}
use Rattle.bed_lang.specs.declared.word.Var.TheVariants as var
use Rattle.bed_lang.specs.declared.word.Word.{Word, Number, Times, Add, Sub, roll-Word, map-Word, ind-Word, fold-roll-Word}
use Rattle.bed_lang.specs.declared.word.Word.TheOpen.{Word-F}
use Rattle.bed_lang.specs.declared.word.Seq.{Seq, Var as SeqVar, roll-Seq, map-Seq, ind-Seq, fold-roll-Seq}
use Rattle.bed_lang.specs.declared.word.Seq.TheOpen.{Seq-F}
use Rattle.bed_lang.specs.declared.form.Piece.{Piece}
use Rattle.bed_lang.specs.declared.form.Piece.TheVariants.{Element, Sequence}
use Rattle.bed_lang.specs.declared.form.Key.{Key}
use Rattle.bed_lang.specs.declared.form.Key.TheVariants as key
use Rattle.bed_lang.specs.declared.form.Form.{Form}
use Rattle.bed_lang.specs.declared.module.Op.{Op}
use Rattle.bed_lang.specs.declared.module.Op.TheVariants as op
use Rattle.bed_lang.specs.Keys.{bare_var, key_order}
use Rattle.bed_lang.specs.Numbers.{wrap}
use Rattle.bed_lang.specs.Forms.{Part, part_before, by_order, with_part, add_parts, times_parts, times_form, form_step, word_form, piece_step, seq_form}
use Rattle.bed_deriv.specs.Fresh.{every, known_var, known_word_step, known_word, known_seq_step, known_seq}
use Rattle.bed_forms.specs.Rebuilt.{key_word, part_word, sum_from, parts_word, form_word, pieces_seq, rebuilt_word, rebuilt_seq}
use Rattle.bed_lang.specs.SameFacts.{is_constant}
use Rattle.bed_deriv.specs.Steps.{product_of, bits_of, computed}
use Rattle.bed_deriv.proofs.KnownLaws.{every-append, known-Number, known-Var, known-Label, known-Add, known-Sub, known-Times, known_seq-Var, known_seq-Nil, known_seq-Cons, known_seq-App}

module _ (next : ℕ) where
  abbrev known_key : Key → Bool
  known_key (key.Var x) = known_var next x
  known_key (key.Label f) = true

  abbrev known_part : Part → Bool
  known_part p = known_key p.0

  abbrev Known : List Part → Type 0
  Known ps = IsTrue (every known_part ps)

  before_known : (k : Key) (n : ℕ) (ps : List Part) → IsTrue (known_key k) → Known ps → Known (part_before k n ps)
  before_known k zero ps h q = q
  before_known k (suc n) ps h q = and_from (known_key k) (every known_part ps) h q

  order_either : (P : List Part → Type 0) (o : Ordering) (a b c : List Part) → P a → P b → P c → P (by_order o a b c)
  order_either P Less a b c x y z = x
  order_either P Equal a b c x y z = y
  order_either P Greater a b c x y z = z

  with_known : (x : Part) (rest : List Part → List Part) (ys : List Part) → IsTrue (known_part x) → ((zs : List Part) → Known zs → Known (rest zs)) → Known ys → Known (with_part x rest ys)
  with_known x rest [] h more k = and_from (known_part x) (every known_part (rest [])) h (more [] refl)
  with_known x rest (y ∷ ys) h more k =
      let q = and_parts (known_part y) (every known_part ys) k in
      order_either Known (key_order x.0 y.0) (x ∷ rest (y ∷ ys)) (part_before x.0 (wrap (x.1 + y.1)) (rest ys)) (y ∷ with_part x rest ys)
      (and_from (known_part x) (every known_part (rest (y ∷ ys))) h (more (y ∷ ys) k))
      (before_known x.0 (wrap (x.1 + y.1)) (rest ys) h (more ys q.1))
      (and_from (known_part y) (every known_part (with_part x rest ys)) q.0 (with_known x rest ys h more q.1))

  add_known : (xs ys : List Part) → Known xs → Known ys → Known (add_parts xs ys)
  add_known [] ys k q = q
  add_known (x ∷ xs) ys k q =
      let h = and_parts (known_part x) (every known_part xs) k in
      with_known x (add_parts xs) ys h.0 (λ zs z. add_known xs zs h.1 z) q

  times_known : (n : ℕ) (xs : List Part) → Known xs → Known (times_parts n xs)
  times_known n [] k = refl
  times_known n (x ∷ xs) k =
      let h = and_parts (known_part x) (every known_part xs) k in
      before_known x.0 (wrap (n * x.1)) (times_parts n xs) h.0 (times_known n xs h.1)

  bare_known : (x : Var) → IsTrue (known_var next x) → IsTrue (known_var next (bare_var x))
  bare_known (var.Named x) k = refl
  bare_known (var.Old x) k = refl
  bare_known (var.Answer at) k = refl
  bare_known (var.Fresh n) k = k
  bare_known var.Hole k = refl

  abbrev FormKnown : Word → Type 0
  FormKnown w = IsTrue (known_word next w) → Known (word_form w).parts

  of_word : (x : Word-F Word) → IsTrue (known_word next (roll-Word x)) → IsTrue (known_word_step next (map-Word Word Bool (known_word next) x))
  of_word x k = sym (fold-roll-Word Bool (known_word_step next) x) ∙ k

  layer : (y : Word-F ((w : Word) × FormKnown w)) → IsTrue (known_word_step next (map-Word _ _ (known_word next) (map-Word _ _ (λ p. p.0) y))) → Known (form_step (map-Word _ _ word_form (map-Word _ _ (λ p. p.0) y))).parts
  layer (Word-F.Number n) k = refl
  layer (Word-F.Var x) k = and_from (known_var next (bare_var x)) true (bare_known x k) refl
  layer (Word-F.Label f) k = refl
  layer (Word-F.Add a b) k =
      let q = and_parts (known_word next a.0) (known_word next b.0) k in add_known (word_form a.0).parts (word_form b.0).parts (a.1 q.0) (b.1 q.1)
  layer (Word-F.Sub a b) k =
      let q = and_parts (known_word next a.0) (known_word next b.0) k in
      add_known (word_form a.0).parts (times_parts 4294967295 (word_form b.0).parts) (a.1 q.0) (times_known 4294967295 (word_form b.0).parts (b.1 q.1))
  layer (Word-F.Times n a) k = times_known n (word_form a.0).parts (a.1 k)

  form_known : (w : Word) → FormKnown w
  form_known = ind-Word FormKnown (λ x y is. subst (λ (z : Word-F Word). FormKnown (roll-Word z)) is
      (λ k. subst (λ (f : Form). Known f.parts) (sym (fold-roll-Word Form form_step (map-Word _ _ (λ p. p.0) y))) (layer y (of_word (map-Word _ _ (λ p. p.0) y) k))))

  -- ---- and back

  key_known : (k : Key) → IsTrue (known_key k) → IsTrue (known_word next (key_word k))
  key_known (key.Var x) h = known-Var next x ∙ h
  key_known (key.Label f) h = known-Label next f

  part_known : (p : Part) → IsTrue (known_part p) → IsTrue (known_word next (part_word p))
  part_known p h = by (p.1 == 1)
    where
      by : (b : Bool) → IsTrue (known_word next (if b then key_word p.0 else Times p.1 (key_word p.0)))
      by true = key_known p.0 h
      by false = known-Times next p.1 (key_word p.0) ∙ key_known p.0 h

  sum_known : (w : Word) (ps : List Part) → IsTrue (known_word next w) → Known ps → IsTrue (known_word next (sum_from w ps))
  sum_known w [] k q = k
  sum_known w (p ∷ ps) k q =
      let h = and_parts (known_part p) (every known_part ps) q in
      sum_known (Add w (part_word p)) ps (known-Add next w (part_word p) ∙ and_from (known_word next w) (known_word next (part_word p)) k (part_known p h.0)) h.1

  parts_known : (ps : List Part) → Known ps → IsTrue (known_word next (parts_word ps))
  parts_known [] k = known-Number next 0
  parts_known (p ∷ ps) k = let h = and_parts (known_part p) (every known_part ps) k in sum_known (part_word p) ps (part_known p h.0) h.1

  form_word_known : (f : Form) → Known f.parts → IsTrue (known_word next (form_word f))
  form_word_known f k = by (f.constant == 0)
    where
      by : (b : Bool) → IsTrue (known_word next (if b then parts_word f.parts else sum_from (Number f.constant) f.parts))
      by true = parts_known f.parts k
      by false = sum_known (Number f.constant) f.parts (known-Number next f.constant) k

  pub rebuilt_known : (w : Word) → IsTrue (known_word next w) → IsTrue (known_word next (rebuilt_word w))
  rebuilt_known w k = form_word_known (word_form w) (form_known w k)

  -- ---- sequences

  abbrev known_piece : Piece → Bool
  known_piece (Element f) = every known_part f.parts
  known_piece (Sequence x) = known_var next x

  abbrev KnownPieces : List Piece → Type 0
  KnownPieces ps = IsTrue (every known_piece ps)

  abbrev PiecesKnown : Seq → Type 0
  PiecesKnown s = IsTrue (known_seq next s) → KnownPieces (seq_form s)

  of_seq : (x : Seq-F Seq) → IsTrue (known_seq next (roll-Seq x)) → IsTrue (known_seq_step next (map-Seq Seq Bool (known_seq next) x))
  of_seq x k = sym (fold-roll-Seq Bool (known_seq_step next) x) ∙ k

  piece_layer : (y : Seq-F ((s : Seq) × PiecesKnown s)) → IsTrue (known_seq_step next (map-Seq _ _ (known_seq next) (map-Seq _ _ (λ p. p.0) y))) → KnownPieces (piece_step (map-Seq _ _ seq_form (map-Seq _ _ (λ p. p.0) y)))
  piece_layer (Seq-F.Var x) k = and_from (known_var next (bare_var x)) true (bare_known x k) refl
  piece_layer Seq-F.Nil k = refl
  piece_layer (Seq-F.Cons a s) k =
      let q = and_parts (known_word next a) (known_seq next s.0) k in
      and_from (every known_part (word_form a).parts) (every known_piece (seq_form s.0)) (form_known a q.0) (s.1 q.1)
  piece_layer (Seq-F.App s t) k =
      let q = and_parts (known_seq next s.0) (known_seq next t.0) k in every-append known_piece (seq_form s.0) (seq_form t.0) (s.1 q.0) (t.1 q.1)

  pieces_known : (s : Seq) → PiecesKnown s
  pieces_known = ind-Seq PiecesKnown (λ x y is. subst (λ (z : Seq-F Seq). PiecesKnown (roll-Seq z)) is
      (λ k. subst KnownPieces (sym (fold-roll-Seq (List Piece) piece_step (map-Seq _ _ (λ p. p.0) y))) (piece_layer y (of_seq (map-Seq _ _ (λ p. p.0) y) k))))

  pieces_seq_known : (ps : List Piece) → KnownPieces ps → IsTrue (known_seq next (pieces_seq ps))
  pieces_seq_known [] k = known_seq-Nil next
  pieces_seq_known (Element f ∷ ps) k =
      let q = and_parts (known_piece (Element f)) (every known_piece ps) k in
      known_seq-Cons next (form_word f) (pieces_seq ps)
      ∙ and_from (known_word next (form_word f)) (known_seq next (pieces_seq ps)) (form_word_known f q.0) (pieces_seq_known ps q.1)
  pieces_seq_known (Sequence x ∷ ps) k =
      let q = and_parts (known_piece (Sequence x)) (every known_piece ps) k in
      known_seq-App next (SeqVar x) (pieces_seq ps)
      ∙ and_from (known_seq next (SeqVar x)) (known_seq next (pieces_seq ps)) (known_seq-Var next x ∙ q.0) (pieces_seq_known ps q.1)

  pub rebuilt_seq_known : (s : Seq) → IsTrue (known_seq next s) → IsTrue (known_seq next (rebuilt_seq s))
  rebuilt_seq_known s k = pieces_seq_known (seq_form s) (pieces_known s k)

  -- ---- what a step computes

  times_form_known : (n : ℕ) (b t : Word) → IsTrue (known_word next b) → ◌≡◌ {A = Option Word} (Some (form_word (times_form n (word_form b)))) (Some t) → IsTrue (known_word next t)
  times_form_known n b t k e = subst (λ z. IsTrue (known_word next z)) (some_same e) (form_word_known (times_form n (word_form b)) (times_known n (word_form b).parts (form_known b k)))

  product_known : (a b t : Word) → IsTrue (known_word next a) → IsTrue (known_word next b) → product_of (word_form a) (word_form b) ≡ Some t → IsTrue (known_word next t)
  product_known a b t k q e = by (is_constant (word_form a)) (is_constant (word_form b)) e
    where
      by : (c d : Bool) → (if c then Some (form_word (times_form (word_form a).constant (word_form b))) else (if d then Some (form_word (times_form (word_form b).constant (word_form a))) else None)) ≡ Some t
          → IsTrue (known_word next t)
      by true d e = times_form_known (word_form a).constant b t q e
      by false true e = times_form_known (word_form b).constant a t k e
      by false false e = absurd cc

  bits_known : (f : ℕ → ℕ → ℕ) (a b t : Word) → bits_of f (word_form a) (word_form b) ≡ Some t → IsTrue (known_word next t)
  bits_known f a b t e = by (is_constant (word_form a) && is_constant (word_form b)) e
    where
      by : (c : Bool) → (if c then Some (Number (f (word_form a).constant (word_form b).constant)) else None) ≡ Some t → IsTrue (known_word next t)
      by true e = subst (λ z. IsTrue (known_word next z)) (some_same e) (known-Number next (f (word_form a).constant (word_form b).constant))
      by false e = absurd cc

  -- the word that a step computes
  pub computed_known : (o : Op) (a b t : Word) → IsTrue (known_word next a) → IsTrue (known_word next b) → computed o a b ≡ Some t → IsTrue (known_word next t)
  computed_known op.Add a b t k q e =
      subst (λ z. IsTrue (known_word next z)) (some_same e) (rebuilt_known (Add a b) (known-Add next a b ∙ and_from (known_word next a) (known_word next b) k q))
  computed_known op.Sub a b t k q e =
      subst (λ z. IsTrue (known_word next z)) (some_same e) (rebuilt_known (Sub a b) (known-Sub next a b ∙ and_from (known_word next a) (known_word next b) k q))
  computed_known op.Mul a b t k q e = product_known a b t k q e
  computed_known op.And a b t k q e = bits_known bit_and a b t e
  computed_known op.Or a b t k q e = bits_known bit_or a b t e
  computed_known op.Xor a b t k q e = bits_known bit_xor a b t e
