-- Numbers as they are written: decimal digits, or `0x` and hexadecimal digits.
use Rattle.std.specs.Prelude.{ℕ, ◌+◌, ◌-◌, ◌*◌, ◌&&◌, Bool, true, false, nat_eq, nat_le, nat_lt, length, if◌then◌else◌, List, [], ◌∷◌, Option, None, Some, option_and_then}

abbrev pub is_between : ℕ → ℕ → ℕ → Bool
is_between low high b = nat_le low b && nat_le b high

-- the value of a decimal digit
abbrev pub decimal_digit : ℕ → Option ℕ
decimal_digit b = if is_between 48 57 b then Some (b - 48) else None

-- the value of a hexadecimal digit, of either case
abbrev pub hexadecimal_digit : ℕ → Option ℕ
hexadecimal_digit b =
    if is_between 48 57 b then Some (b - 48) else (
    if is_between 65 70 b then Some (b - 55) else (
    if is_between 97 102 b then Some (b - 87) else None))

abbrev pub digit_of : Bool → ℕ → Option ℕ
digit_of true b = hexadecimal_digit b
digit_of false b = decimal_digit b

abbrev pub radix_of : Bool → ℕ
radix_of true = 16
radix_of false = 10

-- the value of digits after those that have the value n; none where one of them is no digit
abbrev pub digits_value : Bool → ℕ → List ℕ → Option ℕ
digits_value hexadecimal n [] = Some n
digits_value hexadecimal n (b ∷ bs) = option_and_then (λ d. digits_value hexadecimal (n * radix_of hexadecimal + d) bs) (digit_of hexadecimal b)

-- a number that fits a word of 32 bits
abbrev pub that_fits : Option ℕ → Option ℕ
that_fits None = None
that_fits (Some n) = if nat_le n 4294967295 then Some n else None

-- the value of a number as it is written, of at least one byte: leading zeros are allowed, and it is at most 4294967295
abbrev pub number_value : List ℕ → Option ℕ
number_value (a ∷ b ∷ bs) =
    if nat_eq a 48 && nat_eq b 120 && nat_lt 0 (length bs) then that_fits (digits_value true 0 bs)
    else that_fits (digits_value false 0 (a ∷ b ∷ bs))
number_value word = that_fits (digits_value false 0 word)
