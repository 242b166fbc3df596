-- Tables of addresses by names.
use Rattle.std.proofs.Common.{◌≡◌, ℕ, Bool, true, false, cond, if◌then◌else◌, bytes_eq, Option, Some, None, unwrap_or, is_none, List, [], ◌∷◌, ◌++◌, map, drop, get_or, length, ◌+◌, ◌<◌, add-one, inl, inr, ◌⊎◌, refl, sym, ◌∙◌, ap, ap₂, subst}
use Rattle.std.proofs.Math.Seq.{drop-cons}
use Rattle.std.proofs.lemmas.List.{append-nil}
use Rattle.std.specs.Bool.{OnTrue, OnFalse}
use Rattle.bed_table.specs.Layout.{Label, address_of}
use Rattle.bed_names.specs.Tables.{number_of}
use Rattle.bed_sat.proofs.FrameLaws.{bytes_eq_same, bytes_eq_is, bytes_eq_not}
use Rattle.bed_layout.specs.Addresses.{address_with, address_in}

not_true : false ≡ true → ⊥
not_true e = cc

none_some : {A : Type 0} {x : A} → ◌≡◌ {A = Option A} None (Some x) → ⊥
none_some e = cc

some_or_none : (o : Option ℕ) → (o ≡ None) ⊎ ((v : ℕ) × (o ≡ Some v))
some_or_none None = inl refl
some_or_none (Some v) = inr (v, refl)

eq_cases : (x y : List ℕ) → ((bytes_eq x y ≡ true) × (bytes_eq y x ≡ true) × (x ≡ y)) ⊎ ((bytes_eq x y ≡ false) × (bytes_eq y x ≡ false))
eq_cases x y = by_test (bytes_eq x y) refl
  where
    by_test : (t : Bool) → bytes_eq x y ≡ t → ((bytes_eq x y ≡ true) × (bytes_eq y x ≡ true) × (x ≡ y)) ⊎ ((bytes_eq x y ≡ false) × (bytes_eq y x ≡ false))
    by_test true t = let same : x ≡ y = bytes_eq_is x y t in inl (t, subst (λ z. bytes_eq y z ≡ true) (sym same) (bytes_eq_same y), same)
    by_test false t = inr (t, bytes_eq_not y x (λ e. not_true (sym t ∙ subst (λ z. bytes_eq x z ≡ true) (sym e) (bytes_eq_same x))))

-- one more name in a table
found_still : (es : List (List ℕ × ℕ)) (e : List ℕ × ℕ) (x : List ℕ) (v : ℕ) → number_of es x ≡ Some v → number_of (es ++ e ∷ []) x ≡ Some v
found_still [] e x v found = absurd (none_some found)
found_still (d ∷ es) e x v found = by_test (bytes_eq x d.0) refl (found_still es e x v)
  where
    by_test : (t : Bool) → bytes_eq x d.0 ≡ t → (number_of es x ≡ Some v → number_of (es ++ e ∷ []) x ≡ Some v) → cond (bytes_eq x d.0) (Some d.1) (number_of (es ++ e ∷ []) x) ≡ Some v
    by_test true t more = ap (λ b. cond b (Some d.1) (number_of (es ++ e ∷ []) x)) t ∙ sym (ap (λ b. cond b (Some d.1) (number_of es x)) t) ∙ found
    by_test false t more = ap (λ b. cond b (Some d.1) (number_of (es ++ e ∷ []) x)) t ∙ more (sym (ap (λ b. cond b (Some d.1) (number_of es x)) t) ∙ found)

not_found : (es : List (List ℕ × ℕ)) (e : List ℕ × ℕ) (x : List ℕ) → number_of es x ≡ None → number_of (es ++ e ∷ []) x ≡ cond (bytes_eq x e.0) (Some e.1) None
not_found [] e x none = refl
not_found (d ∷ es) e x none = by_test (bytes_eq x d.0) refl (not_found es e x)
  where
    by_test : (t : Bool) → bytes_eq x d.0 ≡ t → (number_of es x ≡ None → number_of (es ++ e ∷ []) x ≡ cond (bytes_eq x e.0) (Some e.1) None)
        → cond (bytes_eq x d.0) (Some d.1) (number_of (es ++ e ∷ []) x) ≡ cond (bytes_eq x e.0) (Some e.1) None
    by_test true t more = absurd (none_some (sym none ∙ ap (λ b. cond b (Some d.1) (number_of es x)) t))
    by_test false t more = ap (λ b. cond b (Some d.1) (number_of (es ++ e ∷ []) x)) t ∙ more (sym (ap (λ b. cond b (Some d.1) (number_of es x)) t) ∙ none)

abbrev label_with : List ℕ → ℕ → Label
label_with name at = record { name = name; address = at }

added : (old : List (List ℕ × ℕ)) (name : List ℕ) (at : ℕ) (more : List Label) (x : List ℕ) → address_with (old ++ (name, at) ∷ []) more x ≡ address_with old (label_with name at ∷ more) x
added old name at more x = elim (some_or_none (number_of old x)) [
  | inl none ↦ elim (eq_cases x name) [
    | inl is ↦
        ap (λ o. unwrap_or o (address_of more x)) (not_found old (name, at) x none ∙ ap (λ b. cond b (Some at) None) is.0)
        ∙ sym (ap (λ o. unwrap_or o (address_of (label_with name at ∷ more) x)) none ∙ ap (λ b. if b then at else address_of more x) is.1)
    | inr is ↦
        ap (λ o. unwrap_or o (address_of more x)) (not_found old (name, at) x none ∙ ap (λ b. cond b (Some at) None) is.0)
        ∙ sym (ap (λ o. unwrap_or o (address_of (label_with name at ∷ more) x)) none ∙ ap (λ b. if b then at else address_of more x) is.1)
  ]
  | inr found ↦
      ap (λ o. unwrap_or o (address_of more x)) (found_still old (name, at) x found.0 found.1)
      ∙ sym (ap (λ o. unwrap_or o (address_of (label_with name at ∷ more) x)) found.1)
]

-- a name that a table has isn't looked for elsewhere
had : (old : List (List ℕ × ℕ)) (name : List ℕ) (at v : ℕ) → number_of old name ≡ Some v → (more : List Label) (x : List ℕ) → address_with old more x ≡ address_with old (label_with name at ∷ more) x
had old name at v has more x = elim (some_or_none (number_of old x)) [
  | inl none ↦ elim (eq_cases x name) [
    | inl is ↦ absurd (none_some (sym none ∙ ap (number_of old) is.2 ∙ has))
    | inr is ↦ ap (λ o. unwrap_or o (address_of more x)) none
        ∙ sym (ap (λ o. unwrap_or o (address_of (label_with name at ∷ more) x)) none ∙ ap (λ b. if b then at else address_of more x) is.1)
  ]
  | inr found ↦ ap (λ o. unwrap_or o (address_of more x)) found.1 ∙ sym (ap (λ o. unwrap_or o (address_of (label_with name at ∷ more) x)) found.1)
]

pub add_known : (old new : List (List ℕ × ℕ)) (name : List ℕ) (at : ℕ) (b : Bool) → b ≡ is_none (number_of old name) → OnTrue b (new ≡ old ++ (name, at) ∷ []) → OnFalse b (new ≡ old)
    → (more : List Label) (x : List ℕ) → address_with new more x ≡ address_with old (label_with name at ∷ more) x
add_known old new name at true is on_true on_false more x = ap (λ t. address_with t more x) on_true ∙ added old name at more x
add_known old new name at false is on_true on_false more x = elim (some_or_none (number_of old name)) [
  | inl none ↦ absurd (not_true (is ∙ ap is_none none))
  | inr found ↦ ap (λ t. address_with t more x) on_false ∙ had old name at found.0 found.1 more x
]

-- a table of both lists of labels
pub table_known : (empty first second : List (List ℕ × ℕ)) (fs is : List Label) → empty ≡ []
    → ((more : List Label) (x : List ℕ) → address_with first more x ≡ address_with empty (fs ++ more) x) → ((more : List Label) (x : List ℕ) → address_with second more x ≡ address_with first (is ++ more) x)
    → address_in second ≡ address_of (fs ++ is)
table_known empty first second fs is none known more_known =
    let at : (x : List ℕ) → address_in second x ≡ address_of (fs ++ is) x = (λ x.
    more_known [] x ∙ known (is ++ []) x ∙ ap (λ t. address_with t (fs ++ (is ++ [])) x) none ∙ ap (λ l. address_of (fs ++ l) x) (append-nil is)) in
    λ i x. at x i

-- one item more
pub known_step : {T : Type 0} (label_of : T → Label) (items : List T) (i : ℕ) (item : T) (old before after : List (List ℕ × ℕ)) → i < length items → item ≡ get_or items i item
    → ((more : List Label) (x : List ℕ) → address_with before (map label_of (drop i items) ++ more) x ≡ address_with old (map label_of items ++ more) x)
    → ((more : List Label) (x : List ℕ) → address_with after more x ≡ address_with before (label_of item ∷ more) x)
    → (more : List Label) (x : List ℕ) → address_with after (map label_of (drop (i + 1) items) ++ more) x ≡ address_with old (map label_of items ++ more) x
known_step label_of items i item old before after lt is known add more x =
    let cons : drop i items ≡ item ∷ drop (i + 1) items = drop-cons items i item lt ∙ ap₂ (λ y n. y ∷ drop n items) (sym is) (sym (add-one i)) in
    add (map label_of (drop (i + 1) items) ++ more) x ∙ sym (ap (λ l. address_with before (map label_of l ++ more) x) cons) ∙ known more x
