-- What it means, piece by piece, that a word is in a sequence.
use Rattle.std.proofs.Common.{◌≡◌, ◌↔◌, ◌⊎◌, ℕ, zero, suc, List, [], ◌∷◌, ◌++◌, map, slice_get, Option, Some, None, Contains, refl, sym, ◌∙◌, subst, arith, inl, inr}
use Rattle.std.proofs.lemmas.List.Elements.{Contains-append_left, Contains-append_right, Contains-append_cases}
use Rattle.bed_lang.specs.declared.word.Word.{Word}
use Rattle.bed_lang.specs.declared.word.Seq.{Seq}
use Rattle.bed_lang.specs.declared.form.Piece.{Piece}
use Rattle.bed_lang.specs.declared.form.Piece.TheVariants.{Element, Sequence}
use Rattle.bed_lang.specs.declared.logic.Pure.{Pure}
use Rattle.bed_lang.specs.declared.logic.Pure.TheVariants.{Member, NonMember}
use Rattle.bed_lang.specs.Numbers.{wrap}
use Rattle.bed_lang.specs.Values.{Values, variable, value, list_value}
use Rattle.bed_lang.specs.Forms.{seq_form}
use Rattle.bed_lang.specs.Coefficients.{form_value, pieces_value}
use Rattle.bed_lang.proofs.ValueLaws.{list_value-Var}
use Rattle.bed_forms.proofs.FormLaws.{pieces-value}
use Rattle.bed_sat.specs.Facts.{IsTrueFact}
use Rattle.bed_deriv.specs.ListRules.{membership, absence, in_piece, not_in_piece}
use Rattle.bed_check_pure.proofs.RebuiltLaws.{form_word-value}

only_one : (x v : ℕ) → Contains (x ∷ []) v → x ≡ v
only_one x v (zero, l, e) = e
only_one x v (suc k, l, e) = absurd (omega arith)

module _ (codes : ℕ → Option (List ℕ)) (labels : List ℕ → ℕ) (ν : Values) where
  abbrev Is : Pure → Type 0
  Is = IsTrueFact codes labels ν

  -- a word is in a sequence by its pieces
  abbrev pub IsIn : Word × Seq → Type 0
  IsIn m = Contains (pieces_value labels ν (seq_form m.1)) (value labels ν m.0)

  by_pieces : (e : Word) (s : Seq) → Contains (list_value labels ν s) (value labels ν e) → IsIn (e, s)
  by_pieces e s c = subst (λ xs. Contains xs (value labels ν e)) (sym (pieces-value labels ν s)) c

  by_value : (e : Word) (s : Seq) → IsIn (e, s) → Contains (list_value labels ν s) (value labels ν e)
  by_value e s c = subst (λ xs. Contains xs (value labels ν e)) (pieces-value labels ν s) c

  abbrev Says : Pure → (Word × Seq → Type 0) → Option (Word × Seq) → Type 0
  Says p P None = Unit {0}
  Says p P (Some m) = Is p ↔ P m

  abbrev IsOut : Word × Seq → Type 0
  IsOut m = IsIn m → ⊥

  membership_says : (p : Pure) → Says p IsIn (membership p)
  membership_says (Member e s) = (by_pieces e s, by_value e s)
  membership_says _ = tt

  absence_says : (p : Pure) → Says p IsOut (absence p)
  absence_says (NonMember e s) = (λ t c. t (by_value e s c), λ t c. t (by_pieces e s c))
  absence_says _ = tt

  pub membership_is : (p : Pure) (m : Word × Seq) → membership p ≡ Some m → Is p ↔ IsIn m
  membership_is p m e = subst (Says p IsIn) e (membership_says p)

  pub absence_is : (p : Pure) (m : Word × Seq) → absence p ≡ Some m → Is p ↔ (IsIn m → ⊥)
  absence_is p m e = subst (Says p IsOut) e (absence_says p)

  -- ---- a piece

  abbrev words : Piece → List ℕ
  words (Element f) = form_value labels ν f ∷ []
  words (Sequence x) = map wrap (ν.lists (variable x))

  words_first : (x : Piece) (ps : List Piece) → pieces_value labels ν (x ∷ ps) ≡ words x ++ pieces_value labels ν ps
  words_first (Element f) ps = refl
  words_first (Sequence x) ps = refl

  piece_says : (e : Word) (x : Piece) → Is (in_piece e x) ↔ Contains (words x) (value labels ν e)
  piece_says e (Element f) = (
    (λ t. (0, omega arith, sym (t ∙ form_word-value labels ν f))),
    (λ c. sym (only_one _ _ c) ∙ sym (form_word-value labels ν f)),
  )
  piece_says e (Sequence x) =
      (subst (λ xs. Contains xs (value labels ν e)) (list_value-Var labels ν x), subst (λ xs. Contains xs (value labels ν e)) (sym (list_value-Var labels ν x)))

  pub not_in_piece_says : (e : Word) (x : Piece) → Is (not_in_piece e x) ↔ (Is (in_piece e x) → ⊥)
  not_in_piece_says e (Element f) = (λ t. t, λ t. t)
  not_in_piece_says e (Sequence x) = (λ t. t, λ t. t)

  -- what is in a piece is in the whole
  pub piece_in : (e : Word) (ps : List Piece) (k : ℕ) (x : Piece) → slice_get ps k ≡ Some x → Is (in_piece e x) → Contains (pieces_value labels ν ps) (value labels ν e)
  piece_in e [] k x at t = absurd (cc)
  piece_in e (y ∷ ps) zero x at t =
      let same : x ≡ y = cc in
      let here = (piece_says e y).0 (subst (λ (z : Piece). Is (in_piece e z)) same t) in
      subst (λ xs. Contains xs (value labels ν e)) (sym (words_first y ps)) (Contains-append_left (words y) (pieces_value labels ν ps) (value labels ν e) here)
  piece_in e (y ∷ ps) (suc k) x at t =
      subst (λ xs. Contains xs (value labels ν e)) (sym (words_first y ps))
      (Contains-append_right (words y) (pieces_value labels ν ps) (value labels ν e) (piece_in e ps k x at t))

  -- a word is one of these pieces, or in one
  abbrev pub IsInSome : Word → List Piece → Type 0
  IsInSome e [] = ⊥
  IsInSome e (x ∷ ps) = Is (in_piece e x) ⊎ IsInSome e ps

  -- what is in the whole is in a piece
  pub in_some : (e : Word) (ps : List Piece) → Contains (pieces_value labels ν ps) (value labels ν e) → IsInSome e ps
  in_some e [] (k, l, is) = absurd (omega arith)
  in_some e (x ∷ ps) c =
      elim (Contains-append_cases (words x) (pieces_value labels ν ps) (value labels ν e) (subst (λ xs. Contains xs (value labels ν e)) (words_first x ps) c)) [
        | inl here ↦ inl ((piece_says e x).1 here)
        | inr later ↦ inr (in_some e ps later)
      ]
