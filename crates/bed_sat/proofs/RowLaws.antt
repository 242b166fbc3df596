-- Memories given by their bytes in a row.
use Rattle.std.proofs.Common.{◌≡◌, ◌≢◌, ℕ, ◌+◌, ◌*◌, ◌<◌, ◌≤◌, ◌⊎◌, Bool, true, false, nat_eq, nat_le, if◌then◌else◌, Option, Some, None, List, [], ◌∷◌, ◌++◌, length, inl, inr, refl, sym, ap, subst, arith}
use Rattle.std.proofs.lemmas.Bool.Decides.{nat_tests}
use Rattle.bed_sat.specs.Parts.{Meet, Joins, AreDisjoint}
use Rattle.bed_sat.specs.Cells.{IsCell}
use Rattle.bed_sat.specs.Examples.{bytes_at}

-- numbers that are all bytes
abbrev pub AreBytes : List ℕ → Type 0
AreBytes [] = Unit {0}
AreBytes (b ∷ bs) = (b < 256) × AreBytes bs

step_of : (a b x v : ℕ) (t : Bool) (o : Option ℕ) → nat_eq x a ≡ t → (if t then Some b else o) ≡ Some v → ((x ≡ a) × (v ≡ b)) ⊎ (o ≡ Some v)
step_of a b x v true o is e = inl (grind (arith, nat_tests), cc)
step_of a b x v false o is e = inr e

-- a byte that is there stands in the row
pub in_row : (a : ℕ) (bs : List ℕ) (x v : ℕ) → AreBytes bs → bytes_at a bs x ≡ Some v → (a ≤ x) × (x < a + length bs) × (v < 256)
in_row a [] x v are e = absurd cc
in_row a (b ∷ bs) x v are e = elim (step_of a b x v _ _ refl e) [
  | inl p ↦ (omega arith, omega arith, omega (arith, are.0))
  | inr q ↦ (let r = in_row (a + 1) bs x v are.1 q in (omega arith, omega arith, r.2))
]

none_if : (a x : ℕ) (b : ℕ) (o : Option ℕ) (t : Bool) → nat_eq x a ≡ t → (x ≢ a) → o ≡ None → (if t then Some b else o) ≡ None
none_if a x b o true is ne e = absurd (ne (grind (arith, nat_tests)))
none_if a x b o false is ne e = e

-- and none is there outside it
pub out_of_row : (a : ℕ) (bs : List ℕ) (x : ℕ) → (x < a) ⊎ (a + length bs ≤ x) → bytes_at a bs x ≡ None
out_of_row a [] x far = refl
out_of_row a (b ∷ bs) x (inl lt) = none_if a x b _ _ refl (λ e. omega arith) (out_of_row (a + 1) bs x (inl (omega arith)))
out_of_row a (b ∷ bs) x (inr le) = none_if a x b _ _ refl (λ e. omega arith) (out_of_row (a + 1) bs x (inr (omega arith)))

meet_if : (a x b : ℕ) (whole left right : Option ℕ) (t : Bool) → nat_eq x a ≡ t → (x ≡ a → right ≡ None) → Meet whole left right → Meet (if t then Some b else whole) (if t then Some b else left) right
meet_if a x b whole left right true is out m = inr (out (grind (arith, nat_tests)), refl)
meet_if a x b whole left right false is out m = m

meet_row : (a : ℕ) (xs ys : List ℕ) (c x : ℕ) → c ≡ a + length xs → Meet (bytes_at a (xs ++ ys) x) (bytes_at a xs x) (bytes_at c ys x)
meet_row a [] ys c x e = let same : c ≡ a = omega arith in inl (refl, ap (λ q. bytes_at q ys x) (sym same))
meet_row a (b ∷ xs) ys c x e =
    meet_if a x b _ _ _ _ refl (λ same. out_of_row c ys x (inl (omega arith))) (meet_row (a + 1) xs ys c x (omega arith))

-- two rows, one right after the other, are the parts of one
pub joins_rows : (a : ℕ) (xs ys : List ℕ) (c : ℕ) → c ≡ a + length xs → Joins (bytes_at a (xs ++ ys)) (bytes_at a xs) (bytes_at c ys)
joins_rows a xs ys c e = record { at = λ x. meet_row a xs ys c x e }

-- rows that don't meet are disjoint
pub rows_apart : (a : ℕ) (xs : List ℕ) (c : ℕ) (ys : List ℕ) → a + length xs ≤ c → AreDisjoint (bytes_at a xs) (bytes_at c ys)
rows_apart a xs c ys le = record { at = λ x. by_side x (side x) }
  where
    side : (x : ℕ) → (x < c) ⊎ (c ≤ x)
    side x = grind arith

    by_side : (x : ℕ) → (x < c) ⊎ (c ≤ x) → (bytes_at a xs x ≡ None) ⊎ (bytes_at c ys x ≡ None)
    by_side x (inl lt) = inr (out_of_row c ys x (inl lt))
    by_side x (inr ge) = inl (out_of_row a xs x (inr (omega arith)))

here_if : (x : ℕ) (b : ℕ) (o : Option ℕ) (t : Bool) → nat_eq x x ≡ t → (if t then Some b else o) ≡ Some b
here_if x b o true is = refl
here_if x b o false is = absurd (grind (arith, nat_tests))

after_if : (a x b v : ℕ) (o : Option ℕ) (t : Bool) → nat_eq x a ≡ t → x ≢ a → o ≡ Some v → (if t then Some b else o) ≡ Some v
after_if a x b v o true is ne e = absurd (ne (grind (arith, nat_tests)))
after_if a x b v o false is ne e = e

-- a row of four bytes is a cell
pub row_cell : (a p q r s : ℕ) → AreBytes (p ∷ q ∷ r ∷ s ∷ []) → a ≤ 4294967292 → IsCell a (p + 256 * q + 65536 * r + 16777216 * s) (bytes_at a (p ∷ q ∷ r ∷ s ∷ []))
row_cell a p q r s are le =
    let h = bytes_at a (p ∷ q ∷ r ∷ s ∷ []) in
    let in_range : nat_le a 4294967292 ≡ true = grind (arith, nat_tests) in
    let at0 : h a ≡ Some p = here_if a p _ _ refl in
    let at1 : h (a + 1) ≡ Some q = after_if a (a + 1) p q _ _ refl (λ e. omega arith) (here_if (a + 1) q _ _ refl) in
    let two : a + 1 + 1 ≡ a + 2 = omega arith in
    let three : a + 1 + 1 + 1 ≡ a + 3 = omega arith in
    let at2 : h (a + 2) ≡ Some r = after_if a (a + 2) p r _ _ refl (λ e. omega arith) (after_if (a + 1) (a + 2) q r _ _ refl (λ e. omega arith)
    (subst (λ x. bytes_at (a + 1 + 1) (r ∷ s ∷ []) x ≡ Some r) two (here_if (a + 1 + 1) r _ _ refl))) in
    let at3 : h (a + 3) ≡ Some s = after_if a (a + 3) p s _ _ refl (λ e. omega arith) (after_if (a + 1) (a + 3) q s _ _ refl (λ e. omega arith) (after_if (a + 1 + 1) (a + 3) r s _ _ refl (λ e. omega arith)
    (subst (λ x. bytes_at (a + 1 + 1 + 1) (s ∷ []) x ≡ Some s) three (here_if (a + 1 + 1 + 1) s _ _ refl)))) in
    record {
      holds = rw (in_range, at0, at1, at2, at3) refl;
      only = λ x v e. in_row a (p ∷ q ∷ r ∷ s ∷ []) x v are e;
    }
