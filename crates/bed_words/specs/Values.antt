-- What single words stand for: numbers, imports, blocks of memory, sizes.
use Rattle.std.specs.Prelude.{ℕ, ◌+◌, Bool, true, false, ◌&&◌, nat_eq, nat_le, not, is_some, if◌then◌else◌, List, [], ◌∷◌, take, drop, position, Option, None, Some}
use Rattle.std.specs.List.{list_all}
use Rattle.bed_lang.specs.declared.word.Name.{Name}
use Rattle.bed_lex.specs.Numbers.{digits_value, that_fits}
use Rattle.bed_lex.specs.Tokens.{is_letter, is_name_byte, fixed_word}

-- the value of a number whose first digit is 0, from what follows that digit:
-- nothing, or `x` and at least one hexadecimal digit
abbrev pub after_zero : List ℕ → Option ℕ
after_zero [] = Some 0
after_zero (x ∷ []) = None
after_zero (x ∷ d ∷ ds) = if nat_eq x 120 then that_fits (digits_value true 0 (d ∷ ds)) else None

-- the value of a number of at most 4294967295: decimal digits without a leading zero, or `0x` and hexadecimal digits
abbrev pub number_of : List ℕ → Option ℕ
number_of [] = None
number_of (a ∷ bs) = if nat_eq a 48 then after_zero bs else that_fits (digits_value false 0 (a ∷ bs))

-- a letter or `_` before other bytes
abbrev pub begins_name : List ℕ → Bool
begins_name [] = false
begins_name (b ∷ bs) = is_letter b

-- a name of the language: a letter or `_`, then letters, digits and `_`; neither a reserved word nor `_` alone
abbrev pub is_name : List ℕ → Bool
is_name word = begins_name word && (list_all is_name_byte word && not (is_some (fixed_word word)))

-- a name that stands in no text
abbrev pub named : List ℕ → Name
named word = record { bytes = word; at = 0 }

abbrev pub import_at : List ℕ → Option ℕ → Option (Name × ℕ)
import_at word None = None
import_at word (Some i) = if is_name (take i word) then with_address (number_of (drop (i + 1) word)) else None
  where
    with_address : Option ℕ → Option (Name × ℕ)
    with_address None = None
    with_address (Some h) = Some (named (take i word), h)

-- an import with its address, `n=h`: n ends at the first `=`
abbrev pub import_of : List ℕ → Option (Name × ℕ)
import_of word = import_at word (position (λ b. nat_eq b 61) word)

abbrev pub both : Option ℕ → Option ℕ → Option (ℕ × ℕ)
both (Some h) (Some w) = Some (h, w)
both _ _ = None

abbrev pub block_at : List ℕ → Option ℕ → Option (ℕ × ℕ)
block_at word None = None
block_at word (Some i) = both (number_of (take i word)) (number_of (drop (i + 1) word))

-- a block of memory, `h,w`: its address and its number of words
abbrev pub block_of : List ℕ → Option (ℕ × ℕ)
block_of word = block_at word (position (λ b. nat_eq b 44) word)

abbrev pub from_1_to_200 : Option ℕ → Option ℕ
from_1_to_200 None = None
from_1_to_200 (Some k) = if nat_le 1 k && nat_le k 200 then Some k else None

-- the size of a generated module, 1 to 200
abbrev pub size_of : List ℕ → Option ℕ
size_of word = from_1_to_200 (number_of word)
