-- The tokens of a text.
use Rattle.std.specs.Prelude.{◌≡◌, ℕ, ◌+◌, ◌<◌, ◌≤◌, Bool, true, false, ◌&&◌, ◌||◌, not, nat_eq, nat_le, List, [], ◌∷◌, length, take, drop, slice_get, position, find, Option, Some, None, Result, Ok, Err, if◌then◌else◌, take_while}
use Rattle.std.specs.List.{starts_with}
use Rattle.std.specs.Str.{bytes_eq}
use Rattle.bed_lex.specs.declared.token.Token.{Token}
use Rattle.bed_lex.specs.declared.token.Kind.{Kind}
use Rattle.bed_lex.specs.declared.token.Kind.TheVariants as kind
use Rattle.bed_lex.specs.declared.token.LexError.{LexError}
use Rattle.bed_lex.specs.declared.token.LexError.TheVariants as error
use Rattle.bed_lex.specs.Words.{fixed_words, longest_first}
use Rattle.bed_lex.specs.declared.lexing.Scanned.{Scanned}
use Rattle.bed_lex.specs.declared.front.Front.{Front}
use Rattle.bed_lex.specs.declared.front.Front.TheVariants as front
use Rattle.bed_lex.specs.Numbers.{is_between, number_value}

-- a letter or `_`
abbrev pub is_letter : ℕ → Bool
is_letter b = is_between 65 90 b || is_between 97 122 b || nat_eq b 95

abbrev pub is_digit : ℕ → Bool
is_digit b = is_between 48 57 b

-- a byte of a name: a letter, a digit or `_`
abbrev pub is_name_byte : ℕ → Bool
is_name_byte b = is_letter b || is_digit b

-- space, tab, carriage return and line feed
abbrev pub is_blank : ℕ → Bool
is_blank b = nat_eq b 32 || nat_eq b 9 || nat_eq b 13 || nat_eq b 10

-- how many bytes of names stand at the front
abbrev pub run_length : List ℕ → ℕ
run_length text = length (take_while is_name_byte text)

-- how many bytes stand before the end of the line
abbrev pub line_length : List ℕ → ℕ
line_length text = length (take_while (λ b. not (nat_eq b 10)) text)

-- the position of a reserved word, a mark or the hole among the fixed words
unfoldable pub fixed_word : List ℕ → Option ℕ
fixed_word word = position (λ w. bytes_eq w word) fixed_words

abbrev pub is_byte_at : List ℕ → ℕ → ℕ → Bool
is_byte_at text i b = holds (slice_get text i)
  where
    holds : Option ℕ → Bool
    holds None = false
    holds (Some x) = nat_eq x b

abbrev pub is_name_byte_at : List ℕ → ℕ → Bool
is_name_byte_at text i = holds (slice_get text i)
  where
    holds : Option ℕ → Bool
    holds None = false
    holds (Some x) = is_name_byte x

-- a mark stands at the front; one that ends in `b` only where no byte of a name follows
abbrev pub stands : List ℕ → List ℕ → Bool
stands text mark = starts_with nat_eq text mark && not (is_byte_at mark 3 98 && is_name_byte_at text (length mark))

-- the longest mark that stands at the front: the first one in the list where longer ones come first
unfoldable pub mark_at : List ℕ → Option (List ℕ)
mark_at text = find (stands text) longest_first

-- a fixed word at the front, of n bytes
abbrev pub fixed_front : Option ℕ → ℕ → Front → Front
fixed_front None n other = other
fixed_front (Some i) n other = front.Word i n

-- the number of n bytes at the front, where it is one
abbrev pub number_front : Option ℕ → ℕ → Front
number_front None n = front.BadNumber
number_front (Some v) n = front.Number v n

-- a name of n bytes
abbrev pub name_front : ℕ → Front
name_front n = if nat_le n 255 then front.Name n else front.LongName

-- what a longest run of bytes of names is: a number where it begins with a digit, a fixed word, or a name
abbrev pub run_front : Bool → List ℕ → Front
run_front true word = number_front (number_value word) (length word)
run_front false word = fixed_front (fixed_word word) (length word) (name_front (length word))

-- the longest mark at the front
abbrev pub mark_front : List ℕ → Front
mark_front text = found (mark_at text)
  where
    found : Option (List ℕ) → Front
    found None = front.BadByte
    found (Some m) = fixed_front (fixed_word m) (length m) front.BadByte

-- what stands at the front of a text that isn't empty
abbrev pub front_at : ℕ → List ℕ → Front
front_at b text =
    if is_byte_at text 0 47 && is_byte_at text 1 47 then front.Skip (line_length text) else (
    if is_blank b then front.Skip 1 else (
    if is_name_byte b then run_front (is_digit b) (take (run_length text) text)
    else mark_front text))

-- what stands at the front of a text: its end, a blank or a comment, a token, or what begins none
unfoldable pub front_of : List ℕ → Front
front_of [] = front.End
front_of (b ∷ rest) = front_at b (b ∷ rest)

-- From the place `at` on the text has these tokens and then ends, or it has these and then a place that stands in none.
pub data Lexed : ℕ → List ℕ → List Token → Option LexError → Type 0 where
  ends : (at : ℕ) (text : List ℕ) → front_of text ≡ front.End → Lexed at text [] None
  skips : (at n : ℕ) (text : List ℕ) (ts : List Token) (e : Option LexError) → front_of text ≡ front.Skip n
      → Lexed (at + n) (drop n text) ts e → Lexed at text ts e
  word : (at i n : ℕ) (text : List ℕ) (ts : List Token) (e : Option LexError) → front_of text ≡ front.Word i n
      → Lexed (at + n) (drop n text) ts e → Lexed at text (record { kind = kind.Word i; at = at } ∷ ts) e
  number : (at v n : ℕ) (text : List ℕ) (ts : List Token) (e : Option LexError) → front_of text ≡ front.Number v n
      → Lexed (at + n) (drop n text) ts e → Lexed at text (record { kind = kind.Number v; at = at } ∷ ts) e
  name : (at n : ℕ) (text : List ℕ) (ts : List Token) (e : Option LexError) → front_of text ≡ front.Name n
      → Lexed (at + n) (drop n text) ts e
      → Lexed at text (record { kind = kind.Name (record { bytes = take n text; at = at }); at = at } ∷ ts) e
  bad_byte : (at : ℕ) (text : List ℕ) → front_of text ≡ front.BadByte → Lexed at text [] (Some (error.BadByte at))
  bad_number : (at : ℕ) (text : List ℕ) → front_of text ≡ front.BadNumber → Lexed at text [] (Some (error.Number at))
  long_name : (at : ℕ) (text : List ℕ) → front_of text ≡ front.LongName → Lexed at text [] (Some (error.LongName at))

-- the answer of `scan`: the tokens before the first place that stands in none, and that place
abbrev pub IsScan : List ℕ → Scanned → Type 0
IsScan text scanned = Lexed 0 text scanned.tokens scanned.fault

-- the answer of `tokens`: all tokens of the text, or the first place that stands in none
abbrev pub Tokenizes : List ℕ → Result (List Token) LexError → Type 0
Tokenizes text (Ok ts) = Lexed 0 text ts None
Tokenizes text (Err error.Memory) = Unit {0}
Tokenizes text (Err (error.BadByte at)) = (ts : List Token) × Lexed 0 text ts (Some (error.BadByte at))
Tokenizes text (Err (error.Number at)) = (ts : List Token) × Lexed 0 text ts (Some (error.Number at))
Tokenizes text (Err (error.LongName at)) = (ts : List Token) × Lexed 0 text ts (Some (error.LongName at))

-- how far what stands at the front goes on, in a text of this length
abbrev pub Advances : Front → ℕ → Type 0
Advances (front.Skip n) most = (0 < n) × (n ≤ most)
Advances (front.Word i n) most = (0 < n) × (n ≤ most)
Advances (front.Number v n) most = (0 < n) × (n ≤ most)
Advances (front.Name n) most = (0 < n) × (n ≤ most)
Advances _ most = Unit {0}

-- a text has one list of tokens, and one first place that stands in none
abbrev pub OneScan : List ℕ → Type 0
OneScan text = (ts us : List Token) (e f : Option LexError) → Lexed 0 text ts e → Lexed 0 text us f → (ts ≡ us) × (e ≡ f)

-- a text has such a list of tokens, and such a place or none
abbrev pub HasScan : List ℕ → Type 0
HasScan text = (ts : List Token) × (e : Option LexError) × Lexed 0 text ts e

-- no longer mark stands at the front than the one that is found there
abbrev pub IsLongestMark : List ℕ → List ℕ → Type 0
IsLongestMark text m =
    mark_at text ≡ Some m → (k : ℕ) (other : List ℕ) → slice_get longest_first k ≡ Some other → stands text other ≡ true → length other ≤ length m

-- the numbers among tokens are words of 32 bits
abbrev pub IsWordToken : Token → Type 0
IsWordToken t = IsWordKind t.kind
  where
    IsWordKind : Kind → Type 0
    IsWordKind (kind.Number v) = v ≤ 4294967295
    IsWordKind _ = Unit {0}

abbrev pub AreWordTokens : List Token → Type 0
AreWordTokens [] = Unit {0}
AreWordTokens (t ∷ ts) = IsWordToken t × AreWordTokens ts

abbrev pub NumbersFit : List ℕ → Type 0
NumbersFit text = (ts : List Token) (e : Option LexError) → Lexed 0 text ts e → AreWordTokens ts
