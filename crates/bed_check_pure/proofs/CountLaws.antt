-- Numbers of arguments and of children, taken apart.
use Rattle.std.proofs.Common.{◌≡◌, ◌≢◌, ◌<◌, ◌≤◌, ◌⊎◌, inl, inr, ℕ, ◌+◌, ◌-◌, Bool, true, false, ◌==◌, not, nat_le, refl, sym, ◌∙◌, arith}
use Rattle.std.proofs.lemmas.Bool.Decides.{leb_tells, eqb_tells}

abbrev Told : Bool → Type 0 → Type 0 → Type 0
Told b P Q = ((b ≡ true) × P) ⊎ ((b ≡ false) × Q)

pub sum_same : (t a b c : ℕ) → 2 ≤ t → a ≤ t - 2 → b ≤ t - 2 - a → (t - 2 - a - b == c) ≡ (t == 2 + a + b + c)
sum_same t a b c l m k = by (t - 2 - a - b == c) (t == 2 + a + b + c) (eqb_tells (t - 2 - a - b) c) (eqb_tells t (2 + a + b + c))
  where
    by : (x y : Bool) → Told x (t - 2 - a - b ≡ c) (t - 2 - a - b ≢ c) → Told y (t ≡ 2 + a + b + c) (t ≢ 2 + a + b + c) → x ≡ y
    by x y (inl e) (inl f) = e.0 ∙ sym f.0
    by x y (inl e) (inr f) = absurd (f.1 (omega (arith, l, m, k, e.1)))
    by x y (inr e) (inl f) = absurd (e.1 (omega (arith, l, m, k, f.1)))
    by x y (inr e) (inr f) = e.0 ∙ sym f.0

pub sum_past : (t a b c : ℕ) → t < 2 + a + b → false ≡ (t == 2 + a + b + c)
sum_past t a b c l = by (t == 2 + a + b + c) (eqb_tells t (2 + a + b + c))
  where
    by : (y : Bool) → Told y (t ≡ 2 + a + b + c) (t ≢ 2 + a + b + c) → false ≡ y
    by y (inl f) = absurd (omega (arith, l, f.1))
    by y (inr f) = sym f.0

-- a number is one more than another exactly where the other is at most one less, and not at most two less
pub none_after : (g : ℕ) → false ≡ (0 == g + 1)
none_after g = by (0 == g + 1) (eqb_tells 0 (g + 1))
  where
    by : (y : Bool) → Told y (0 ≡ g + 1) (0 ≢ g + 1) → false ≡ y
    by y (inl f) = absurd (omega (arith, f.1))
    by y (inr f) = sym f.0

pub one_after : (g : ℕ) → nat_le g 0 ≡ (1 == g + 1)
one_after g = by (nat_le g 0) (1 == g + 1) (leb_tells g 0) (eqb_tells 1 (g + 1))
  where
    by : (x y : Bool) → Told x (g ≤ 0) (0 < g) → Told y (1 ≡ g + 1) (1 ≢ g + 1) → x ≡ y
    by x y (inl e) (inl f) = e.0 ∙ sym f.0
    by x y (inl e) (inr f) = absurd (f.1 (omega (arith, e.1)))
    by x y (inr e) (inl f) = absurd (omega (arith, e.1, f.1))
    by x y (inr e) (inr f) = e.0 ∙ sym f.0

pub many_after : (g n : ℕ) → 2 ≤ n → nat_le g (n - 1) ≡ true → not (nat_le g (n - 2)) ≡ (n == g + 1)
many_after g n two t = by (nat_le g (n - 1)) (nat_le g (n - 2)) (n == g + 1) t (leb_tells g (n - 1)) (leb_tells g (n - 2)) (eqb_tells n (g + 1))
  where
    by : (x y z : Bool) → x ≡ true → Told x (g ≤ n - 1) (n - 1 < g) → Told y (g ≤ n - 2) (n - 2 < g) → Told z (n ≡ g + 1) (n ≢ g + 1) → not y ≡ z
    by x y z t (inr d) e f = absurd (cc)
    by x y z t (inl d) (inl e) (inl f) = absurd (omega (arith, two, e.1, f.1))
    by x y z t (inl d) (inl e) (inr f) = rw (e.0, f.0) refl
    by x y z t (inl d) (inr e) (inl f) = rw (e.0, f.0) refl
    by x y z t (inl d) (inr e) (inr f) = absurd (f.1 (omega (arith, two, d.1, e.1)))

pub few_after : (g n : ℕ) → 2 ≤ n → nat_le g (n - 1) ≡ false → false ≡ (n == g + 1)
few_after g n two t = by (nat_le g (n - 1)) (n == g + 1) t (leb_tells g (n - 1)) (eqb_tells n (g + 1))
  where
    by : (x z : Bool) → x ≡ false → Told x (g ≤ n - 1) (n - 1 < g) → Told z (n ≡ g + 1) (n ≢ g + 1) → false ≡ z
    by x z t (inl d) f = absurd (cc)
    by x z t (inr d) (inl f) = absurd (omega (arith, d.1, f.1))
    by x z t (inr d) (inr f) = sym f.0
