-- What stands at the front of a text that begins with the bytes of a token.
use Rattle.std.proofs.Common.{◌≡◌, ℕ, suc, zero, ◌+◌, ◌<◌, ◌^◌, Bool, true, false, ◌&&◌, ◌||◌, nat_eq, nat_le, if◌then◌else◌, List, [], ◌∷◌, ◌++◌, length, take, Option, Some, None, refl, sym, ap, ◌∙◌, subst, arith}
use Rattle.std.specs.Prelude.{take_while, slice_get}
use Rattle.std.specs.List.{list_all, prefix_len}
use Rattle.std.specs.Fmt.{decimal}
use Rattle.std.proofs.Math.Seq.{take-append_seam}
use Rattle.std.proofs.lemmas.Bool.Decides.{nat_tests}
use Rattle.std.proofs.lemmas.Bool.{and_parts}
use Rattle.bed_grammar.proofs.Sets.{eq_is}
use Rattle.bed_lex.specs.Numbers.{number_value}
use Rattle.bed_lex.specs.Tokens.{is_letter, is_digit, is_name_byte, is_blank, is_byte_at, fixed_word, mark_at, run_front, front_of}
use Rattle.bed_lex.specs.Words.{reserved_words, marks, longest_first, fixed_words}
use Rattle.bed_lex.specs.declared.front.Front.{Front}
use Rattle.bed_lex.specs.declared.front.Front.TheVariants as front
use Rattle.bed_read.specs.Classes.{all_name_bytes, is_name, is_none}
use Rattle.bed_print.proofs.Numbers.{decimal_row, number_value-decimal, decimal-some}
use Rattle.bed_print.proofs.Bools.{or_case}

-- the bytes that may follow any token without becoming a part of it: line feed, blank, `(`, `)`, `,`, `.`, `:`, `;` and `]`
abbrev pub is_seam : ℕ → Bool
is_seam c = nat_eq c 10 || (nat_eq c 32 || (nat_eq c 40 || (nat_eq c 41 || (nat_eq c 44 || (nat_eq c 46 || (nat_eq c 58 || (nat_eq c 59 || (nat_eq c 93))))))))

pub seam_case : (P : ℕ → Type 0) → P 10 → P 32 → P 40 → P 41 → P 44 → P 46 → P 58 → P 59 → P 93 → (c : ℕ) → is_seam c ≡ true → P c
seam_case P p10 p32 p40 p41 p44 p46 p58 p59 p93 c h =
    or_case (P c) (nat_eq c 10) (nat_eq c 32 || (nat_eq c 40 || (nat_eq c 41 || (nat_eq c 44 || (nat_eq c 46 || (nat_eq c 58 || (nat_eq c 59 || (nat_eq c 93)))))))) h (λ e. subst P (sym (eq_is c 10 e)) p10) (λ h1.
    or_case (P c) (nat_eq c 32) (nat_eq c 40 || (nat_eq c 41 || (nat_eq c 44 || (nat_eq c 46 || (nat_eq c 58 || (nat_eq c 59 || (nat_eq c 93))))))) h1 (λ e. subst P (sym (eq_is c 32 e)) p32) (λ h2.
    or_case (P c) (nat_eq c 40) (nat_eq c 41 || (nat_eq c 44 || (nat_eq c 46 || (nat_eq c 58 || (nat_eq c 59 || (nat_eq c 93)))))) h2 (λ e. subst P (sym (eq_is c 40 e)) p40) (λ h3.
    or_case (P c) (nat_eq c 41) (nat_eq c 44 || (nat_eq c 46 || (nat_eq c 58 || (nat_eq c 59 || (nat_eq c 93))))) h3 (λ e. subst P (sym (eq_is c 41 e)) p41) (λ h4.
    or_case (P c) (nat_eq c 44) (nat_eq c 46 || (nat_eq c 58 || (nat_eq c 59 || (nat_eq c 93)))) h4 (λ e. subst P (sym (eq_is c 44 e)) p44) (λ h5.
    or_case (P c) (nat_eq c 46) (nat_eq c 58 || (nat_eq c 59 || (nat_eq c 93))) h5 (λ e. subst P (sym (eq_is c 46 e)) p46) (λ h6.
    or_case (P c) (nat_eq c 58) (nat_eq c 59 || (nat_eq c 93)) h6 (λ e. subst P (sym (eq_is c 58 e)) p58) (λ h7.
    or_case (P c) (nat_eq c 59) (nat_eq c 93) h7 (λ e. subst P (sym (eq_is c 59 e)) p59) (λ h8.
    subst P (sym (eq_is c 93 h8)) p93))))))))

-- the fixed words from a position on stand at the front of a text, where the byte c follows them
abbrev is_word : ℕ → ℕ → Front → Bool
is_word i n (front.Word j m) = nat_eq j i && nat_eq m n
is_word i n _ = false

abbrev are_fronts : ℕ → ℕ → List ℕ → List (List ℕ) → Bool
are_fronts i c rest [] = true
are_fronts i c rest (w ∷ ws) = is_word i (length w) (front_of (w ++ c ∷ rest)) && are_fronts (suc i) c rest ws

fronts_10 : (rest : List ℕ) → are_fronts 0 10 rest fixed_words ≡ true
unfolding front_of fixed_word mark_at longest_first fixed_words reserved_words marks
fronts_10 rest = refl

fronts_32 : (rest : List ℕ) → are_fronts 0 32 rest fixed_words ≡ true
unfolding front_of fixed_word mark_at longest_first fixed_words reserved_words marks
fronts_32 rest = refl

fronts_40 : (rest : List ℕ) → are_fronts 0 40 rest fixed_words ≡ true
unfolding front_of fixed_word mark_at longest_first fixed_words reserved_words marks
fronts_40 rest = refl

fronts_41 : (rest : List ℕ) → are_fronts 0 41 rest fixed_words ≡ true
unfolding front_of fixed_word mark_at longest_first fixed_words reserved_words marks
fronts_41 rest = refl

fronts_44 : (rest : List ℕ) → are_fronts 0 44 rest fixed_words ≡ true
unfolding front_of fixed_word mark_at longest_first fixed_words reserved_words marks
fronts_44 rest = refl

fronts_46 : (rest : List ℕ) → are_fronts 0 46 rest fixed_words ≡ true
unfolding front_of fixed_word mark_at longest_first fixed_words reserved_words marks
fronts_46 rest = refl

fronts_58 : (rest : List ℕ) → are_fronts 0 58 rest fixed_words ≡ true
unfolding front_of fixed_word mark_at longest_first fixed_words reserved_words marks
fronts_58 rest = refl

fronts_59 : (rest : List ℕ) → are_fronts 0 59 rest fixed_words ≡ true
unfolding front_of fixed_word mark_at longest_first fixed_words reserved_words marks
fronts_59 rest = refl

fronts_93 : (rest : List ℕ) → are_fronts 0 93 rest fixed_words ≡ true
unfolding front_of fixed_word mark_at longest_first fixed_words reserved_words marks
fronts_93 rest = refl

fronts : (c : ℕ) (rest : List ℕ) → is_seam c ≡ true → are_fronts 0 c rest fixed_words ≡ true
fronts c rest h =
    seam_case (λ c. are_fronts 0 c rest fixed_words ≡ true) (fronts_10 rest) (fronts_32 rest) (fronts_40 rest) (fronts_41 rest) (fronts_44 rest) (fronts_46 rest) (fronts_58 rest) (fronts_59 rest) (fronts_93 rest) c h

word_is : (i n : ℕ) (f : Front) → is_word i n f ≡ true → f ≡ front.Word i n
word_is i n (front.Word j m) h =
    let position : j ≡ i = eq_is j i (and_parts (nat_eq j i) (nat_eq m n) h).0 in
    let size : m ≡ n = eq_is m n (and_parts (nat_eq j i) (nat_eq m n) h).1 in
    ap (λ z. front.Word z m) position ∙ ap (front.Word i) size
word_is i n front.End h = absurd (cc)
word_is i n (front.Skip m) h = absurd (cc)
word_is i n (front.Number v m) h = absurd (cc)
word_is i n (front.Name m) h = absurd (cc)
word_is i n front.BadByte h = absurd (cc)
word_is i n front.BadNumber h = absurd (cc)
word_is i n front.LongName h = absurd (cc)

some_is : {X : Type 0} (x y : X) → ◌≡◌ {A = Option X} (Some x) (Some y) → x ≡ y
some_is x y h = cc

front_at_position : (k i c : ℕ) (rest : List ℕ) (ws : List (List ℕ)) (w : List ℕ) → are_fronts i c rest ws ≡ true → slice_get ws k ≡ Some w
    → front_of (w ++ c ∷ rest) ≡ front.Word (i + k) (length w)
front_at_position k i c rest [] w h e = absurd (cc)
front_at_position zero i c rest (v ∷ ws) w h e =
    let same : v ≡ w = some_is v w e in
    let here : front_of (v ++ c ∷ rest) ≡ front.Word i (length v) = word_is i (length v) (front_of (v ++ c ∷ rest)) (and_parts _ _ h).0 in
    subst (λ z. front_of (z ++ c ∷ rest) ≡ front.Word (i + 0) (length z)) same (here ∙ ap (λ n. front.Word n (length v)) (omega arith))
front_at_position (suc k) i c rest (v ∷ ws) w h e =
    front_at_position k (suc i) c rest ws w (and_parts _ _ h).1 e ∙ ap (λ n. front.Word n (length w)) (omega arith)

-- a fixed word before a seam
pub word_front : (i c : ℕ) (rest w : List ℕ) → is_seam c ≡ true → slice_get fixed_words i ≡ Some w → front_of (w ++ c ∷ rest) ≡ front.Word i (length w)
word_front i c rest w h e = front_at_position i 0 c rest fixed_words w (fronts c rest h) e ∙ ap (λ n. front.Word n (length w)) (omega arith)

-- `(`, `[` and `&` before anything
pub left_paren_front : (rest : List ℕ) → front_of (40 ∷ rest) ≡ front.Word 61 1
unfolding front_of fixed_word mark_at longest_first fixed_words reserved_words marks
left_paren_front rest = refl

pub left_bracket_front : (rest : List ℕ) → front_of (91 ∷ rest) ≡ front.Word 65 1
unfolding front_of fixed_word mark_at longest_first fixed_words reserved_words marks
left_bracket_front rest = refl

pub ampersand_front : (rest : List ℕ) → front_of (38 ∷ rest) ≡ front.Word 80 1
unfolding front_of fixed_word mark_at longest_first fixed_words reserved_words marks
ampersand_front rest = refl

pub blank_front : (rest : List ℕ) → front_of (32 ∷ rest) ≡ front.Skip 1
unfolding front_of
blank_front rest = refl

pub line_front : (rest : List ℕ) → front_of (10 ∷ rest) ≡ front.Skip 1
unfolding front_of
line_front rest = refl

pub end_front : front_of [] ≡ front.End
unfolding front_of
end_front = refl

-- ---- runs of bytes of names

seam_no_name : (c : ℕ) → is_seam c ≡ true → is_name_byte c ≡ false
seam_no_name c h = seam_case (λ c. is_name_byte c ≡ false) refl refl refl refl refl refl refl refl refl c h

prefix-seam : (c : ℕ) (w rest : List ℕ) → is_name_byte c ≡ false → all_name_bytes w ≡ true → prefix_len is_name_byte (w ++ c ∷ rest) ≡ length w
prefix-seam c [] rest n h = rw n refl
prefix-seam c (b ∷ w) rest n h =
    let more : prefix_len is_name_byte (w ++ c ∷ rest) ≡ length w = prefix-seam c w rest n (and_parts (is_name_byte b) (all_name_bytes w) h).1 in
    rw (and_parts (is_name_byte b) (all_name_bytes w) h).0 (omega (arith, more))

run-seam : (c : ℕ) (w rest : List ℕ) → is_name_byte c ≡ false → all_name_bytes w ≡ true → take_while is_name_byte (w ++ c ∷ rest) ≡ w
run-seam c w rest n h = ap (λ k. take k (w ++ c ∷ rest)) (prefix-seam c w rest n h) ∙ take-append_seam w (c ∷ rest)

no_slash : (b : ℕ) → is_name_byte b ≡ true → nat_eq b 47 ≡ false
no_slash b h = grind (arith, nat_tests)

no_blank : (b : ℕ) → is_name_byte b ≡ true → is_blank b ≡ false
no_blank b h = grind (arith, nat_tests)

third : {A : Type 0} (x y z t : A) (a b c : Bool) → a ≡ false → b ≡ false → c ≡ true → (if a then x else (if b then y else (if c then z else t))) ≡ z
third x y z t a b c f g h = rw (f, g, h) refl

-- a run of bytes of names before a seam is taken whole
run_taken : (b c : ℕ) (w rest : List ℕ) → is_seam c ≡ true → all_name_bytes (b ∷ w) ≡ true
    → front_of ((b ∷ w) ++ c ∷ rest) ≡ run_front (is_digit b) (b ∷ w)
unfolding front_of
run_taken b c w rest s h =
    let run : take_while is_name_byte ((b ∷ w) ++ c ∷ rest) ≡ b ∷ w = run-seam c (b ∷ w) rest (seam_no_name c s) h in
    let first : is_name_byte b ≡ true = (and_parts (is_name_byte b) (all_name_bytes w) h).0 in
    let slash : (nat_eq b 47 && is_byte_at ((b ∷ w) ++ c ∷ rest) 1 47) ≡ false = rw (no_slash b first) refl in
    third _ _ _ _ (nat_eq b 47 && is_byte_at ((b ∷ w) ++ c ∷ rest) 1 47) (is_blank b) (is_name_byte b) slash (no_blank b first) first
    ∙ ap (λ z. run_front (is_digit b) (take (length z) ((b ∷ w) ++ c ∷ rest))) run ∙ ap (run_front (is_digit b)) (take-append_seam (b ∷ w) (c ∷ rest))

letter_no_digit : (b : ℕ) → is_letter b ≡ true → is_digit b ≡ false
letter_no_digit b h = grind (arith, nat_tests)

digit_is_name_byte : (b : ℕ) → is_digit b ≡ true → is_name_byte b ≡ true
digit_is_name_byte b h = by_letter (is_letter b)
  where
    by_letter : (l : Bool) → (l || is_digit b) ≡ true
    by_letter true = refl
    by_letter false = h

none_is : {A : Type 0} (o : Option A) → is_none o ≡ true → o ≡ None
none_is None h = refl
none_is (Some x) h = absurd (cc)

-- a name before a seam
pub named_front : (c : ℕ) (bytes rest : List ℕ) → is_seam c ≡ true → is_name bytes ≡ true → front_of (bytes ++ c ∷ rest) ≡ front.Name (length bytes)
named_front c [] rest s h = absurd (cc)
named_front c (b ∷ w) rest s h =
    let begins : (is_letter b && all_name_bytes w) ≡ true =
    (and_parts (is_letter b && all_name_bytes w) (nat_le (length (b ∷ w)) 255 && is_none (fixed_word (b ∷ w))) h).0 in
    let ends : (nat_le (length (b ∷ w)) 255 && is_none (fixed_word (b ∷ w))) ≡ true =
    (and_parts (is_letter b && all_name_bytes w) (nat_le (length (b ∷ w)) 255 && is_none (fixed_word (b ∷ w))) h).1 in
    let letter : is_letter b ≡ true = (and_parts (is_letter b) (all_name_bytes w) begins).0 in
    let whole : all_name_bytes (b ∷ w) ≡ true = rw letter (and_parts (is_letter b) (all_name_bytes w) begins).1 in
    let short : nat_le (length (b ∷ w)) 255 ≡ true = (and_parts (nat_le (length (b ∷ w)) 255) (is_none (fixed_word (b ∷ w))) ends).0 in
    let free : fixed_word (b ∷ w) ≡ None = none_is (fixed_word (b ∷ w)) (and_parts (nat_le (length (b ∷ w)) 255) (is_none (fixed_word (b ∷ w))) ends).1 in
    run_taken b c w rest s whole ∙ rw (letter_no_digit b letter, free, short) refl

digits_are_name_bytes : (ds : List ℕ) → list_all is_digit ds ≡ true → all_name_bytes ds ≡ true
digits_are_name_bytes [] h = refl
digits_are_name_bytes (d ∷ ds) h =
    rw (digit_is_name_byte d (and_parts (is_digit d) (list_all is_digit ds) h).0) (digits_are_name_bytes ds (and_parts (is_digit d) (list_all is_digit ds) h).1)

digits_front : (n c : ℕ) (ds rest : List ℕ) → is_seam c ≡ true → 0 < length ds → list_all is_digit ds ≡ true → number_value ds ≡ Some n
    → front_of (ds ++ c ∷ rest) ≡ front.Number n (length ds)
digits_front n c [] rest s some digits value = absurd (omega arith)
digits_front n c (d ∷ ds) rest s some digits value =
    run_taken d c ds rest s (digits_are_name_bytes (d ∷ ds) digits) ∙ rw ((and_parts (is_digit d) (list_all is_digit ds) digits).0, value) refl

-- a number before a seam
pub decimal_front : (n c : ℕ) (rest : List ℕ) → is_seam c ≡ true → n < 2 ^ 32 → front_of (decimal n ++ c ∷ rest) ≡ front.Number n (length (decimal n))
decimal_front n c rest s h = digits_front n c (decimal n) rest s (decimal-some n h) (decimal_row n h).1 (number_value-decimal n h)
