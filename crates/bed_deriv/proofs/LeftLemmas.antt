-- What isn't chosen, one atom after another.
use Rattle.std.proofs.Common.{◌≡◌, ◌∙◌, ℕ, ◌+◌, ◌<◌, true, false, if◌then◌else◌, List, [], ◌∷◌, ◌++◌, length, get_or, drop, sym, ap, append_assoc, arith}
use Rattle.std.proofs.lemmas.List.{drop_more}
use Rattle.bed_lang.specs.declared.logic.Atom.{Atom}
use Rattle.bed_deriv.specs.Matches.{is_chosen, numbers_left, atoms_left}

pub drop_is : {A : Type 0} (xs : List A) (i : ℕ) → i < length xs → (x : A) × (drop i xs ≡ x ∷ drop (i + 1) xs)
drop_is [] i h = absurd (omega (arith, h))
drop_is (y ∷ ys) i h = (get_or (y ∷ ys) i y, drop_more (y ∷ ys) i y h)

-- the item at a place, or one that equals it, comes first there
pub drop_at_copy : {A : Type 0} (xs : List A) (i : ℕ) (x y : A) → i < length xs → x ≡ get_or xs i x → y ≡ x → drop i xs ≡ y ∷ drop (i + 1) xs
drop_at_copy xs i x y h at same = drop_more xs i x h ∙ ap (λ z. z ∷ drop (i + 1) xs) (sym at ∙ sym same)

module _ (cs : List (ℕ × Atom)) (atoms : List Atom) (at : ℕ) where
  abbrev numbers : List ℕ
  numbers = numbers_left cs (at + 1 + 1) (drop (at + 1) atoms)

  pub number_kept : (out new r : List ℕ) → at < length atoms → is_chosen (at + 1) cs ≡ false → new ≡ out ++ (at + 1) ∷ []
      → out ++ numbers_left cs (at + 1) (drop at atoms) ≡ r → new ++ numbers_left cs (at + 1 + 1) (drop (at + 1) atoms) ≡ r
  number_kept out new r h out_of pushed e =
      let (x, d) = drop_is atoms at h in
      ap (λ z. z ++ numbers) pushed
      ∙ append_assoc out ((at + 1) ∷ []) numbers
      ∙ ap (λ b. out ++ (if b then numbers else (at + 1) ∷ numbers)) (sym out_of)
      ∙ ap (λ xs. out ++ numbers_left cs (at + 1) xs) (sym d)
      ∙ e

  pub number_gone : (out new r : List ℕ) → at < length atoms → is_chosen (at + 1) cs ≡ true → new ≡ out
      → out ++ numbers_left cs (at + 1) (drop at atoms) ≡ r → new ++ numbers_left cs (at + 1 + 1) (drop (at + 1) atoms) ≡ r
  number_gone out new r h within same e =
      let (x, d) = drop_is atoms at h in
      ap (λ z. z ++ numbers) same
      ∙ ap (λ b. out ++ (if b then numbers else (at + 1) ∷ numbers)) (sym within)
      ∙ ap (λ xs. out ++ numbers_left cs (at + 1) xs) (sym d)
      ∙ e

  abbrev others : List Atom
  others = atoms_left cs (at + 1 + 1) (drop (at + 1) atoms)

  pub atom_kept : (out new r : List Atom) (x : Atom) → drop at atoms ≡ x ∷ drop (at + 1) atoms → is_chosen (at + 1) cs ≡ false → new ≡ out ++ x ∷ []
      → out ++ atoms_left cs (at + 1) (drop at atoms) ≡ r → new ++ atoms_left cs (at + 1 + 1) (drop (at + 1) atoms) ≡ r
  atom_kept out new r x d out_of pushed e =
      ap (λ z. z ++ others) pushed
      ∙ append_assoc out (x ∷ []) others
      ∙ ap (λ b. out ++ (if b then others else x ∷ others)) (sym out_of)
      ∙ ap (λ xs. out ++ atoms_left cs (at + 1) xs) (sym d)
      ∙ e

  pub atom_gone : (out new r : List Atom) → at < length atoms → is_chosen (at + 1) cs ≡ true → new ≡ out
      → out ++ atoms_left cs (at + 1) (drop at atoms) ≡ r → new ++ atoms_left cs (at + 1 + 1) (drop (at + 1) atoms) ≡ r
  atom_gone out new r h within same e =
      let (x, d) = drop_is atoms at h in
      ap (λ z. z ++ others) same
      ∙ ap (λ b. out ++ (if b then others else x ∷ others)) (sym within)
      ∙ ap (λ xs. out ++ atoms_left cs (at + 1) xs) (sym d)
      ∙ e
