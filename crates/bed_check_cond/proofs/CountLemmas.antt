-- Counts of arguments, of children and of fresh variables.
use Rattle.std.proofs.Common.{◌≡◌, ℕ, ◌+◌, ◌-◌, ◌<◌, ◌≤◌, ◌==◌, true, false, not, nat_le, nat_lt, arith}

pub sum_is : (n a b c : ℕ) → a ≤ n → b ≤ n - a → (c == n - a - b) ≡ (n == a + b + c)
sum_is n a b c h k = grind arith

pub first_past : (n a b c : ℕ) → n < a → false ≡ (n == a + b + c)
first_past n a b c h = grind arith

pub second_past : (n a b c : ℕ) → n - a < b → false ≡ (n == a + b + c)
second_past n a b c h = grind arith

pub none_is : (c : ℕ) → nat_le c 0 ≡ (0 == c)
none_is c = grind arith

pub exactly : (n c : ℕ) → nat_le c n ≡ true → 1 ≤ n → not (nat_le c (n - 1)) ≡ (n == c)
exactly n c h l = grind arith

pub more : (n c : ℕ) → nat_le c n ≡ false → false ≡ (n == c)
more n c h = grind arith

-- so many fresh variables behind an answer
pub numbers_left : (n b : ℕ) → n < 4294967296 → nat_lt b (4294967296 - (n + 1)) ≡ nat_lt (n + 1 + b) 4294967296
numbers_left n b h = grind arith

pub one_more : (n c : ℕ) → 1 ≤ n → (n - 1 == c) ≡ (n == 0 + c + 1)
one_more n c h = grind arith

pub two_more : (n c : ℕ) → 2 ≤ n → (n - 2 == c) ≡ (n == 1 + c + 1)
two_more n c h = grind arith

pub none_one : (n c : ℕ) → n < 1 → false ≡ (n == 0 + c + 1)
none_one n c h = grind arith

pub none_two : (n c : ℕ) → n < 2 → false ≡ (n == 1 + c + 1)
none_two n c h = grind arith
