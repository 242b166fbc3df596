-- Sets of classes, and lists of marked tokens.
use Rattle.std.proofs.Common.{◌≡◌, ℕ, Bool, true, false, ◌||◌, not, nat_eq, List, [], ◌∷◌, ◌++◌, None, refl, ap, sym, ◌∙◌, subst, append_assoc}
use Rattle.std.specs.Cmp.{unsigned_Decides}
use Rattle.std.proofs.lemmas.Bool.{and_parts, or_right, or_left, or_parts, not-true}
use Rattle.bed_grammar.specs.Grammar.{Marked, tokens_of, unmarked, IsUnmarked}
use Rattle.bed_grammar.specs.Exact.{peek}
use Rattle.bed_grammar.specs.Tables.{has, disjoint, subset}

pub both_ways : {A : Type 0} (b : Bool) → b ≡ true → b ≡ false → A
both_ways b h k = cc

pub implied : (a b : Bool) → (not a || b) ≡ true → a ≡ true → b ≡ true
implied true b h e = h
implied false b h e = cc

pub eq_refl : (n : ℕ) → nat_eq n n ≡ true
eq_refl n = (unsigned_Decides n n).1 refl

pub eq_is : (n m : ℕ) → nat_eq n m ≡ true → n ≡ m
eq_is n m h = (unsigned_Decides n m).0 h

pub has_append : (xs ys : List ℕ) (c : ℕ) → has (xs ++ ys) c ≡ (has xs c || has ys c)
has_append [] ys c = refl
has_append (x ∷ xs) ys c = go (nat_eq c x) (has_append xs ys c)
  where
    go : (b : Bool) → has (xs ++ ys) c ≡ (has xs c || has ys c) → (b || has (xs ++ ys) c) ≡ ((b || has xs c) || has ys c)
    go true e = refl
    go false e = e

pub has_none : (xs ys : List ℕ) (c : ℕ) → has (xs ++ ys) c ≡ false → (has xs c ≡ false) × (has ys c ≡ false)
has_none xs ys c h = or_parts _ _ (sym (has_append xs ys c) ∙ h)

pub has_left : (xs ys : List ℕ) (c : ℕ) → has xs c ≡ true → has (xs ++ ys) c ≡ true
has_left xs ys c h = has_append xs ys c ∙ or_left _ _ h

pub has_right : (xs ys : List ℕ) (c : ℕ) → has ys c ≡ true → has (xs ++ ys) c ≡ true
has_right xs ys c h = has_append xs ys c ∙ or_right _ _ h

pub disjoint_has : {A : Type 0} (xs ys : List ℕ) (c : ℕ) → disjoint xs ys ≡ true → has xs c ≡ true → has ys c ≡ true → A
disjoint_has [] ys c a h k = cc
disjoint_has {A} (x ∷ xs) ys c a h k = go (λ h. disjoint_has {A = A} xs ys c (and_parts _ _ a).1 h k) (nat_eq c x) refl
  where
    go : (has xs c ≡ true → A) → (b : Bool) → nat_eq c x ≡ b → A
    go f true e = both_ways (has ys c) k (subst (λ z. has ys z ≡ false) (sym (eq_is c x e)) (not-true _ (and_parts _ _ a).0))
    go f false e = f (subst (λ b. (b || has xs c) ≡ true) e h)

pub disjoint_none : (xs ys : List ℕ) (c : ℕ) → disjoint xs ys ≡ true → has ys c ≡ true → has xs c ≡ false
disjoint_none xs ys c a k = go (has xs c) refl
  where
    go : (b : Bool) → has xs c ≡ b → b ≡ false
    go true e = disjoint_has xs ys c a e k
    go false e = refl

pub subset_has : (xs ys : List ℕ) (c : ℕ) → subset xs ys ≡ true → has xs c ≡ true → has ys c ≡ true
subset_has [] ys c w h = cc
subset_has (x ∷ xs) ys c w h = go (subset_has xs ys c (and_parts _ _ w).1) (nat_eq c x) refl
  where
    go : (has xs c ≡ true → has ys c ≡ true) → (b : Bool) → nat_eq c x ≡ b → has ys c ≡ true
    go f true e = subst (λ z. has ys z ≡ true) (sym (eq_is c x e)) (and_parts _ _ w).0
    go f false e = f (subst (λ b. (b || has xs c) ≡ true) e h)

pub subset_none : (xs ys : List ℕ) (c : ℕ) → subset xs ys ≡ true → has ys c ≡ false → has xs c ≡ false
subset_none xs ys c w h = go (has xs c) refl
  where
    go : (b : Bool) → has xs c ≡ b → b ≡ false
    go true e = both_ways (has ys c) (subset_has xs ys c w e) h
    go false e = refl

-- ---- lists

pub tokens_of-append : {S L : Type 0} (p q : Marked S L) → tokens_of (p ++ q) ≡ tokens_of p ++ tokens_of q
tokens_of-append [] q = refl
tokens_of-append (x ∷ p) q = ap (λ z. x.0 ∷ z) (tokens_of-append p q)

pub unmarked-append : {S L : Type 0} (p q : List S) → unmarked {L = L} (p ++ q) ≡ unmarked p ++ unmarked q
unmarked-append [] q = refl
unmarked-append (x ∷ p) q = ap (λ z. (x, None) ∷ z) (unmarked-append p q)

pub tokens_of-unmarked : {S : Type 0} (L : Type 0) (p : List S) → tokens_of (unmarked {L = L} p) ≡ p
tokens_of-unmarked L [] = refl
tokens_of-unmarked L (x ∷ p) = ap (λ z. x ∷ z) (tokens_of-unmarked L p)

pub unmarked_parts : {S L : Type 0} (p q : Marked S L) → IsUnmarked (p ++ q) → IsUnmarked p × IsUnmarked q
unmarked_parts [] q h = (tt, h)
unmarked_parts (x ∷ p) q h = ((h.0, (unmarked_parts p q h.1).0), (unmarked_parts p q h.1).1)

pub peek_append : {S : Type 0} (f r s : List S) → peek r ≡ peek s → peek (f ++ r) ≡ peek (f ++ s)
peek_append [] r s h = h
peek_append (x ∷ f) r s h = refl

pub tokens_of-append_more : {S L : Type 0} (p q : Marked S L) (z : List S) → tokens_of (p ++ q) ++ z ≡ tokens_of p ++ (tokens_of q ++ z)
tokens_of-append_more p q z = ap (λ w. w ++ z) (tokens_of-append p q) ∙ append_assoc (tokens_of p) (tokens_of q) z

-- what was written without marks has none
pub unmarked-is : {S : Type 0} (L : Type 0) (s : List S) → IsUnmarked (unmarked {L = L} s)
unmarked-is L [] = tt
unmarked-is L (t ∷ s) = (refl, unmarked-is L s)
