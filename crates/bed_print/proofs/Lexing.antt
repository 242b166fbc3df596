-- The tokens of a text that was printed are those that it was printed from.
use Rattle.std.proofs.Common.{◌≡◌, ℕ, suc, zero, ◌+◌, ◌<◌, Bool, true, false, ◌&&◌, ◌||◌, nat_eq, nat_le, cond, if◌then◌else◌, List, [], ◌∷◌, ◌++◌, length, take, map, replicate, Option, Some, None, ◌⊎◌, inl, inr, refl, sym, ap, ◌∙◌, subst, arith}
use Rattle.std.specs.Prelude.{slice_get, unwrap_or}
use Rattle.std.specs.Fmt.{decimal}
use Rattle.std.proofs.Math.Seq.{drop-append_seam, take-append_seam}
use Rattle.std.proofs.lemmas.Bool.{and_parts}
use Rattle.bed_grammar.proofs.Sets.{eq_is}
use Rattle.bed_lex.specs.declared.token.Token.{Token}
use Rattle.bed_lex.specs.declared.token.Kind.{Kind}
use Rattle.bed_lex.specs.declared.token.Kind.TheVariants as kind
use Rattle.bed_lex.specs.declared.front.Front.TheVariants as front
use Rattle.bed_lex.specs.Tokens.{Lexed, ends, skips, word, number, name, front_of}
use Rattle.bed_lex.specs.Words.{reserved_words, marks, fixed_words}
use Rattle.bed_read.specs.Classes.{kind_class, IsKindOfText, LEFT_PAREN, RIGHT_PAREN, LEFT_BRACKET, RIGHT_BRACKET, COMMA, SEMICOLON, COLON, DOT, AMPERSAND}
use Rattle.bed_print.proofs.Places.{bare_kind}
use Rattle.bed_print.specs.Layout.{bytes_of, holds_next, holds_last, takes_list, touch, ends_line, indentation, gap, gap_after, depth_after, text_from, text_of}
use Rattle.bed_print.proofs.Fronts.{is_seam, word_front, left_paren_front, left_bracket_front, ampersand_front, blank_front, line_front, end_front, named_front, decimal_front}
use Rattle.bed_print.proofs.Bools.{or_case, by_test}

-- what the tokens of a text can be
abbrev pub AreKinds : List Kind → Type 0
AreKinds [] = Unit {0}
AreKinds (k ∷ ks) = IsKindOfText k × AreKinds ks

-- the tokens of a text are these, places aside
abbrev pub bare_kinds : List Token → List Kind
bare_kinds [] = []
bare_kinds (t ∷ ts) = bare_kind t.kind ∷ bare_kinds ts

abbrev pub HasTokens : ℕ → List ℕ → List Kind → Type 0
HasTokens at text ks = (ts : List Token) × Lexed at text ts None × (bare_kinds ts ≡ map bare_kind ks)

-- the text ends, or goes on with a seam
abbrev BeginsSeam : List ℕ → Type 0
BeginsSeam [] = ⊥
BeginsSeam (c ∷ rest) = is_seam c ≡ true

-- a token of class a may stand before this text
abbrev MayPrecede : ℕ → List ℕ → Type 0
MayPrecede a rest = (holds_next a ≡ true) ⊎ BeginsSeam rest

-- ---- one token

-- a token whose bytes stand at the front of a text
one_word : (at i : ℕ) (w rest : List ℕ) (ks : List Kind) → front_of (w ++ rest) ≡ front.Word i (length w) → HasTokens (at + length w) rest ks
    → HasTokens at (w ++ rest) (kind.Word i ∷ ks)
one_word at i w rest ks f (ts, l, e) = (
  record { kind = kind.Word i; at = at } ∷ ts,
  word at i (length w) (w ++ rest) ts None f (subst (λ z. Lexed (at + length w) z ts None) (sym (drop-append_seam w rest)) l),
  ap (λ z. kind.Word i ∷ z) e,
)

one_number : (at n : ℕ) (w rest : List ℕ) (ks : List Kind) → front_of (w ++ rest) ≡ front.Number n (length w) → HasTokens (at + length w) rest ks
    → HasTokens at (w ++ rest) (kind.Number n ∷ ks)
one_number at n w rest ks f (ts, l, e) = (
  record { kind = kind.Number n; at = at } ∷ ts,
  number at n (length w) (w ++ rest) ts None f (subst (λ z. Lexed (at + length w) z ts None) (sym (drop-append_seam w rest)) l),
  ap (λ z. kind.Number n ∷ z) e,
)

one_name : (at p : ℕ) (w rest : List ℕ) (ks : List Kind) → front_of (w ++ rest) ≡ front.Name (length w) → HasTokens (at + length w) rest ks
    → HasTokens at (w ++ rest) (kind.Name (record { bytes = w; at = p }) ∷ ks)
one_name at p w rest ks f (ts, l, e) = (
  record { kind = kind.Name (record { bytes = take (length w) (w ++ rest); at = at }); at = at } ∷ ts,
  name at (length w) (w ++ rest) ts None f (subst (λ z. Lexed (at + length w) z ts None) (sym (drop-append_seam w rest)) l),
  ap (λ z. kind.Name (record { bytes = z; at = 0 }) ∷ bare_kinds ts) (take-append_seam w rest)
      ∙ ap (λ z. kind.Name (record { bytes = w; at = 0 }) ∷ z) e,
)

one_skip : (at c : ℕ) (rest : List ℕ) (ks : List Kind) → front_of (c ∷ rest) ≡ front.Skip 1 → HasTokens (at + 1) rest ks → HasTokens at (c ∷ rest) ks
one_skip at c rest ks f (ts, l, e) = (ts, skips at 1 (c ∷ rest) ts None f l, e)

blanks_skipped : (n at : ℕ) (rest : List ℕ) (ks : List Kind) → ((at : ℕ) → HasTokens at rest ks) → HasTokens at (replicate n 32 ++ rest) ks
blanks_skipped zero at rest ks h = h at
blanks_skipped (suc n) at rest ks h = one_skip at 32 (replicate n 32 ++ rest) ks (blank_front (replicate n 32 ++ rest)) (blanks_skipped n (at + 1) rest ks h)

all_words : (w : ℕ) → w < 82 → (v : List ℕ) × (slice_get fixed_words w ≡ Some v)
unfolding fixed_words reserved_words marks
all_words w h = found w fixed_words h
  where
    found : (w : ℕ) (ws : List (List ℕ)) → w < length ws → (v : List ℕ) × (slice_get ws w ≡ Some v)
    found w [] h = absurd (omega arith)
    found zero (x ∷ ws) h = (x, refl)
    found (suc w) (x ∷ ws) h = found w ws (omega arith)

paren : bytes_of (kind.Word 61) ≡ 40 ∷ []
unfolding fixed_words reserved_words marks
paren = refl

bracket : bytes_of (kind.Word 65) ≡ 91 ∷ []
unfolding fixed_words reserved_words marks
bracket = refl

ampersand : bytes_of (kind.Word 80) ≡ 38 ∷ []
unfolding fixed_words reserved_words marks
ampersand = refl

-- a fixed word before what may follow it
fixed_before : (at w : ℕ) (rest : List ℕ) (ks : List Kind) → w < 82 → MayPrecede (w + 3) rest → ((at : ℕ) → HasTokens at rest ks)
    → HasTokens at (bytes_of (kind.Word w) ++ rest) (kind.Word w ∷ ks)
fixed_before at w rest ks small (inl h) more =
    or_case _ (nat_eq (w + 3) LEFT_PAREN) (nat_eq (w + 3) LEFT_BRACKET || nat_eq (w + 3) AMPERSAND) h
    (λ e. at_mark 61 40 (omega (arith, eq_is (w + 3) LEFT_PAREN e)) paren (left_paren_front rest))
    (λ h1. or_case _ (nat_eq (w + 3) LEFT_BRACKET) (nat_eq (w + 3) AMPERSAND) h1
    (λ e. at_mark 65 91 (omega (arith, eq_is (w + 3) LEFT_BRACKET e)) bracket (left_bracket_front rest))
    (λ e. at_mark 80 38 (omega (arith, eq_is (w + 3) AMPERSAND e)) ampersand (ampersand_front rest)))
  where
    at_mark : (i b : ℕ) → w ≡ i → bytes_of (kind.Word i) ≡ b ∷ [] → front_of (b ∷ rest) ≡ front.Word i 1
        → HasTokens at (bytes_of (kind.Word w) ++ rest) (kind.Word w ∷ ks)
    at_mark i b e bytes f =
        subst (λ z. HasTokens at (bytes_of (kind.Word z) ++ rest) (kind.Word z ∷ ks)) (sym e)
        (subst (λ z. HasTokens at (z ++ rest) (kind.Word i ∷ ks)) (sym bytes) (one_word at i (b ∷ []) rest ks f (more (at + 1))))
fixed_before at w [] ks small (inr h) more = absurd h
fixed_before at w (c ∷ rest) ks small (inr h) more =
    let (v, e) = all_words w small in
    let bytes : bytes_of (kind.Word w) ≡ v = ap (λ o. unwrap_or o []) e in
    subst (λ z. HasTokens at (z ++ c ∷ rest) (kind.Word w ∷ ks)) (sym bytes) (one_word at w v (c ∷ rest) ks (word_front w c rest v h e) (more (at + length v)))

no_holds_zero : holds_next 0 ≡ true → ⊥
no_holds_zero h = cc

name_class : (k : ℕ) → (k ≡ 1) ⊎ (k ≡ 2) → holds_next k ≡ true → ⊥
name_class k (inl e) h = let f : holds_next 1 ≡ true = subst (λ z. holds_next z ≡ true) e h in cc
name_class k (inr e) h = let f : holds_next 2 ≡ true = subst (λ z. holds_next z ≡ true) e h in cc

number_class : (n : ℕ) → (kind_class (kind.Number n) ≡ 1) ⊎ (kind_class (kind.Number n) ≡ 2)
number_class n = by (nat_le n 4096)
  where
    Is : ℕ → ℕ → Type 0
    Is n m = n ≡ m

    by : (b : Bool) → Is (cond b 1 2) 1 ⊎ Is (cond b 1 2) 2
    by true = inl refl
    by false = inr refl

-- a token before what may follow it
token_before : (at : ℕ) (k : Kind) (rest : List ℕ) (ks : List Kind) → IsKindOfText k → MayPrecede (kind_class k) rest → ((at : ℕ) → HasTokens at rest ks)
    → HasTokens at (bytes_of k ++ rest) (k ∷ ks)
token_before at (kind.Name x) rest ks is (inl h) more = absurd (no_holds_zero h)
token_before at (kind.Name x) [] ks is (inr h) more = absurd h
token_before at (kind.Name x) (c ∷ rest) ks is (inr h) more =
    one_name at x.at x.bytes (c ∷ rest) ks (named_front c x.bytes rest h is) (more (at + length x.bytes))
token_before at (kind.Number n) rest ks is (inl h) more = absurd (name_class (kind_class (kind.Number n)) (number_class n) h)
token_before at (kind.Number n) [] ks is (inr h) more = absurd h
token_before at (kind.Number n) (c ∷ rest) ks is (inr h) more =
    one_number at n (decimal n) (c ∷ rest) ks (decimal_front n c rest h is) (more (at + length (decimal n)))
token_before at (kind.Word w) rest ks is h more = fixed_before at w rest ks is h more
token_before at (kind.Fresh n) rest ks is h more = absurd is

-- ---- all tokens

class_word : (k : Kind) (i : ℕ) → IsKindOfText k → kind_class k ≡ i + 3 → k ≡ kind.Word i
class_word (kind.Name x) i is e = absurd (omega (arith, e))
class_word (kind.Number n) i is e = by (number_class n)
  where
    by : (kind_class (kind.Number n) ≡ 1) ⊎ (kind_class (kind.Number n) ≡ 2) → kind.Number n ≡ kind.Word i
    by (inl f) = absurd (omega (arith, e, f))
    by (inr f) = absurd (omega (arith, e, f))
class_word (kind.Word w) i is e = ap (λ z. kind.Word z) (omega (arith, e))
class_word (kind.Fresh n) i is e = absurd is

seam_right_paren : (rest : List ℕ) → BeginsSeam (bytes_of (kind.Word 62) ++ rest)
unfolding fixed_words reserved_words marks
seam_right_paren rest = refl

seam_right_bracket : (rest : List ℕ) → BeginsSeam (bytes_of (kind.Word 66) ++ rest)
unfolding fixed_words reserved_words marks
seam_right_bracket rest = refl

seam_comma : (rest : List ℕ) → BeginsSeam (bytes_of (kind.Word 59) ++ rest)
unfolding fixed_words reserved_words marks
seam_comma rest = refl

seam_semicolon : (rest : List ℕ) → BeginsSeam (bytes_of (kind.Word 58) ++ rest)
unfolding fixed_words reserved_words marks
seam_semicolon rest = refl

seam_colon : (rest : List ℕ) → BeginsSeam (bytes_of (kind.Word 60) ++ rest)
unfolding fixed_words reserved_words marks
seam_colon rest = refl

seam_dot : (rest : List ℕ) → BeginsSeam (bytes_of (kind.Word 67) ++ rest)
unfolding fixed_words reserved_words marks
seam_dot rest = refl

seam_left_paren : (rest : List ℕ) → BeginsSeam (bytes_of (kind.Word 61) ++ rest)
unfolding fixed_words reserved_words marks
seam_left_paren rest = refl

-- a token before which no blank stands begins with a seam
holding_seam : (k : Kind) (rest : List ℕ) → IsKindOfText k → holds_last (kind_class k) ≡ true → BeginsSeam (bytes_of k ++ rest)
holding_seam k rest is h =
    or_case _ (nat_eq (kind_class k) RIGHT_PAREN) (nat_eq (kind_class k) RIGHT_BRACKET || (nat_eq (kind_class k) COMMA || (nat_eq (kind_class k) SEMICOLON || (nat_eq (kind_class k) COLON || (nat_eq (kind_class k) DOT))))) h (λ e. at 62 (eq_is (kind_class k) RIGHT_PAREN e) (seam_right_paren rest)) (λ h1.
    or_case _ (nat_eq (kind_class k) RIGHT_BRACKET) (nat_eq (kind_class k) COMMA || (nat_eq (kind_class k) SEMICOLON || (nat_eq (kind_class k) COLON || (nat_eq (kind_class k) DOT)))) h1 (λ e. at 66 (eq_is (kind_class k) RIGHT_BRACKET e) (seam_right_bracket rest)) (λ h2.
    or_case _ (nat_eq (kind_class k) COMMA) (nat_eq (kind_class k) SEMICOLON || (nat_eq (kind_class k) COLON || (nat_eq (kind_class k) DOT))) h2 (λ e. at 59 (eq_is (kind_class k) COMMA e) (seam_comma rest)) (λ h3.
    or_case _ (nat_eq (kind_class k) SEMICOLON) (nat_eq (kind_class k) COLON || (nat_eq (kind_class k) DOT)) h3 (λ e. at 58 (eq_is (kind_class k) SEMICOLON e) (seam_semicolon rest)) (λ h4.
    or_case _ (nat_eq (kind_class k) COLON) (nat_eq (kind_class k) DOT) h4 (λ e. at 60 (eq_is (kind_class k) COLON e) (seam_colon rest)) (λ h5.
    at 67 (eq_is (kind_class k) DOT h5) (seam_dot rest))))))
  where
    at : (i : ℕ) → kind_class k ≡ i + 3 → BeginsSeam (bytes_of (kind.Word i) ++ rest) → BeginsSeam (bytes_of k ++ rest)
    at i e b = subst (λ z. BeginsSeam (bytes_of z ++ rest)) (sym (class_word k i is e)) b

list_seam : (k : Kind) (rest : List ℕ) → IsKindOfText k → nat_eq (kind_class k) LEFT_PAREN ≡ true → BeginsSeam (bytes_of k ++ rest)
list_seam k rest is h = subst (λ z. BeginsSeam (bytes_of z ++ rest)) (sym (class_word k 61 is (eq_is (kind_class k) LEFT_PAREN h))) (seam_left_paren rest)

-- what is written after a token may follow it
follows : (d a : ℕ) (ks : List Kind) → AreKinds ks → MayPrecede a (text_from d (Some a) ks)
follows d a [] are = inr refl
follows d a (k ∷ ks) are = by_test (MayPrecede a (text_from d (Some a) (k ∷ ks))) (touch a (kind_class k)) touching apart
  where
    rest : List ℕ
    rest = text_from (depth_after d (kind_class k)) (Some (kind_class k)) ks

    touching : touch a (kind_class k) ≡ true → MayPrecede a (text_from d (Some a) (k ∷ ks))
    touching t =
        or_case (MayPrecede a (text_from d (Some a) (k ∷ ks))) (holds_next a) (holds_last (kind_class k) || (takes_list a && nat_eq (kind_class k) LEFT_PAREN)) t (λ h. inl h) (λ t1.
        or_case (MayPrecede a (text_from d (Some a) (k ∷ ks))) (holds_last (kind_class k)) (takes_list a && nat_eq (kind_class k) LEFT_PAREN) t1
        (λ h. inr (at (holding_seam k rest are.0 h)))
        (λ h. inr (at (list_seam k rest are.0 (and_parts (takes_list a) (nat_eq (kind_class k) LEFT_PAREN) h).1))))
      where
        at : BeginsSeam (bytes_of k ++ rest) → BeginsSeam (text_from d (Some a) (k ∷ ks))
        at b = rw t b

    apart : touch a (kind_class k) ≡ false → MayPrecede a (text_from d (Some a) (k ∷ ks))
    apart t = inr (rw t (by_line (ends_line a (kind_class k))))
      where
        by_line : (b : Bool) → BeginsSeam ((if b then 10 ∷ replicate (indentation d (kind_class k)) 32 else 32 ∷ []) ++ (bytes_of k ++ rest))
        by_line true = refl
        by_line false = refl

-- a gap is no token
gap_skipped : (d a b at : ℕ) (rest : List ℕ) (ks : List Kind) → ((at : ℕ) → HasTokens at rest ks) → HasTokens at (gap d a b ++ rest) ks
gap_skipped d a b at rest ks h = by (touch a b) (ends_line a b)
  where
    by : (t l : Bool) → HasTokens at ((if t then [] else (if l then 10 ∷ replicate (indentation d b) 32 else 32 ∷ [])) ++ rest) ks
    by true l = h at
    by false true = one_skip at 10 (replicate (indentation d b) 32 ++ rest) ks (line_front _) (blanks_skipped (indentation d b) (at + 1) rest ks h)
    by false false = one_skip at 32 rest ks (blank_front rest) (h (at + 1))

before_skipped : (d : ℕ) (a : Option ℕ) (b at : ℕ) (rest : List ℕ) (ks : List Kind) → ((at : ℕ) → HasTokens at rest ks) → HasTokens at (gap_after d a b ++ rest) ks
before_skipped d None b at rest ks h = h at
before_skipped d (Some a) b at rest ks h = gap_skipped d a b at rest ks h

nothing_left : (at : ℕ) → HasTokens at [] []
nothing_left at = ([], ends at [] end_front, refl)

from_lexes : (d : ℕ) (a : Option ℕ) (ks : List Kind) → AreKinds ks → (at : ℕ) → HasTokens at (text_from d a ks) ks
from_lexes d a [] are at = one_skip at 10 [] [] (line_front []) (nothing_left (at + 1))
from_lexes d a (k ∷ ks) are at =
    let c : ℕ = kind_class k in
    let rest : List ℕ = text_from (depth_after d c) (Some c) ks in
    before_skipped d a c at (bytes_of k ++ rest) (k ∷ ks)
    (λ i. token_before i k rest ks are.0 (follows (depth_after d c) c ks are.1) (from_lexes (depth_after d c) (Some c) ks are.1))

-- a text that was printed from tokens has them
pub lexes : (ks : List Kind) → AreKinds ks → HasTokens 0 (text_of ks) ks
lexes ks are = from_lexes 0 None ks are 0
