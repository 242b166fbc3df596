-- Numbers in decimal digits, as they are read again.
use Rattle.std.proofs.Common.{◌≡◌, ℕ, ◌+◌, ◌*◌, ◌/◌, ◌%◌, ◌<◌, ◌≤◌, ◌^◌, Bool, true, false, ◌&&◌, nat_eq, nat_le, nat_lt, if◌then◌else◌, List, [], ◌∷◌, ◌++◌, length, Option, Some, None, refl, ap, ◌∙◌, arith}
use Rattle.std.specs.Prelude.{option_and_then}
use Rattle.std.specs.List.{list_all}
use Rattle.std.specs.Fmt.{decimal}
use Rattle.std.proofs.lemmas.Fmt.{decimal_by_steps, decimal_nonempty}
use Rattle.std.proofs.lemmas.List.Folds.{list_all-append}
use Rattle.std.proofs.lemmas.Bool.Decides.{nat_tests}
use Rattle.std.proofs.lemmas.Bool.{and_parts}
use Rattle.bed_lex.specs.Numbers.{digits_value, decimal_digit, that_fits, number_value, is_between}
use Rattle.bed_lex.specs.Tokens.{is_digit}

-- digits after digits
digits-append : (m : ℕ) (xs ys : List ℕ) → digits_value false m (xs ++ ys) ≡ option_and_then (λ v. digits_value false v ys) (digits_value false m xs)
digits-append m [] ys = refl
digits-append m (x ∷ xs) ys = by_digit (decimal_digit x) refl (λ d. digits-append (m * 10 + d) xs ys)
  where
    by_digit : (o : Option ℕ) → decimal_digit x ≡ o
        → ((d : ℕ) → digits_value false (m * 10 + d) (xs ++ ys) ≡ option_and_then (λ v. digits_value false v ys) (digits_value false (m * 10 + d) xs))
        → digits_value false m (x ∷ (xs ++ ys)) ≡ option_and_then (λ v. digits_value false v ys) (digits_value false m (x ∷ xs))
    by_digit None e more = rw e refl
    by_digit (Some d) e more = rw e (more d)

between_true : (n : ℕ) → n < 10 → is_between 48 57 (48 + n) ≡ true
between_true n h = grind (arith, nat_tests)

one_digit : (n : ℕ) → n < 10 → decimal_digit (48 + n) ≡ Some n
one_digit n h = rw (between_true n h) (ap (λ z. Some z) (omega arith))

-- what a row of digits is
abbrev pub IsRow : ℕ → List ℕ → Type 0
IsRow n ds = (digits_value false 0 ds ≡ Some n) × (list_all is_digit ds ≡ true)

row_one : (n : ℕ) → n < 10 → IsRow n ((48 + n) ∷ [])
row_one n h = (rw (one_digit n h) (ap (λ z. Some z) (omega arith)), rw (between_true n h) refl)

rest_small : (n : ℕ) → n % 10 < 10
rest_small n = omega arith

row_more : (n : ℕ) (ds : List ℕ) → 10 ≤ n → IsRow (n / 10) ds → IsRow n (ds ++ ((48 + n % 10) ∷ []))
row_more n ds h (value, digits) = (
  digits-append 0 ds ((48 + n % 10) ∷ []) ∙ rw (value, one_digit (n % 10) (rest_small n)) (ap (λ z. Some z) (omega arith)),
  list_all-append is_digit ds ((48 + n % 10) ∷ []) ∙ rw (digits, between_true (n % 10) (rest_small n)) refl,
)

wide : (n : ℕ) → n < 2 ^ 32 → n < 2 ^ 64
wide n h = omega arith

pub decimal_row : (n : ℕ) → n < 2 ^ 32 → IsRow n (decimal n)
decimal_row n h = decimal_by_steps IsRow row_one row_more n (wide n h)

fits : (n : ℕ) → n < 2 ^ 32 → that_fits (Some n) ≡ Some n
fits n h = rw (small n h) refl
  where
    small : (n : ℕ) → n < 2 ^ 32 → nat_le n 4294967295 ≡ true
    small n h = grind (arith, nat_tests)

no_x : (b : ℕ) → is_digit b ≡ true → nat_eq b 120 ≡ false
no_x b h = grind (arith, nat_tests)

-- a row of digits is a number
row_number : (n : ℕ) (ds : List ℕ) → n < 2 ^ 32 → IsRow n ds → number_value ds ≡ Some n
row_number n [] h (value, digits) = ap that_fits value ∙ fits n h
row_number n (a ∷ []) h (value, digits) = ap that_fits value ∙ fits n h
row_number n (a ∷ b ∷ bs) h (value, digits) =
    rw (no_x b (and_parts (is_digit b) (list_all is_digit bs) (and_parts (is_digit a) (is_digit b && list_all is_digit bs) digits).1).0)
    (by_first (nat_eq a 48))
  where
    by_first : (t : Bool) → (if (t && false) && nat_lt 0 (length bs) then that_fits (digits_value true 0 bs) else that_fits (digits_value false 0 (a ∷ b ∷ bs))) ≡ Some n
    by_first true = ap that_fits value ∙ fits n h
    by_first false = ap that_fits value ∙ fits n h

pub number_value-decimal : (n : ℕ) → n < 2 ^ 32 → number_value (decimal n) ≡ Some n
number_value-decimal n h = row_number n (decimal n) h (decimal_row n h)

pub decimal-some : (n : ℕ) → n < 2 ^ 32 → 0 < length (decimal n)
decimal-some n h = decimal_nonempty n (wide n h)
