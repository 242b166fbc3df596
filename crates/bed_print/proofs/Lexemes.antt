-- The tokens of every text are tokens that a text of the grammar can have.
use Rattle.std.proofs.Common.{◌≡◌, ℕ, suc, zero, ◌+◌, ◌<◌, ◌≤◌, ◌^◌, Bool, true, false, ◌&&◌, ◌||◌, nat_le, cond, if◌then◌else◌, List, [], ◌∷◌, length, take, drop, Option, Some, None, refl, sym, ap, ◌∙◌, subst, arith}
use Rattle.std.specs.Prelude.{take_while}
use Rattle.std.specs.List.{prefix_len}
use Rattle.std.specs.Str.{bytes_eq}
use Rattle.std.proofs.lemmas.List.Quantifiers.{position-Some}
use Rattle.std.proofs.lemmas.Bool.{and_parts}
use Rattle.bed_lex.specs.declared.token.Token.{Token}
use Rattle.bed_lex.specs.declared.token.LexError.{LexError}
use Rattle.bed_lex.specs.declared.front.Front.{Front}
use Rattle.bed_lex.specs.declared.front.Front.TheVariants as front
use Rattle.bed_lex.specs.Numbers.{number_value}
use Rattle.bed_lex.specs.Words.{reserved_words, marks, fixed_words}
use Rattle.bed_lex.specs.Tokens.{is_letter, is_blank, is_name_byte, is_digit, is_byte_at, run_length, fixed_word, fixed_front, number_front, name_front, run_front, mark_at, mark_front, front_of, Lexed, ends, skips, word, number, name, bad_byte, bad_number, long_name, AreWordTokens}
use Rattle.bed_lex.proofs.NumberTokens.{numbers_fit}
use Rattle.bed_read.specs.Classes.{all_name_bytes, is_name, is_none}
use Rattle.bed_print.proofs.Clean.{AreLexemes}

-- what stands at the front is a token that a text can have, numbers aside
abbrev IsLexemeFront : List ℕ → Front → Type 0
IsLexemeFront text (front.Word i n) = i < 82
IsLexemeFront text (front.Name n) = is_name (take n text) ≡ true
IsLexemeFront text _ = Unit {0}

by_test : (P : Front → Type 0) (b : Bool) (x y : Front) → (b ≡ true → P x) → (b ≡ false → P y) → P (if b then x else y)
by_test P true x y f g = f refl
by_test P false x y f g = g refl

position_small : (w : List ℕ) (i : ℕ) → fixed_word w ≡ Some i → i < 82
unfolding fixed_word fixed_words reserved_words marks
position_small w i e = (position-Some (λ v. bytes_eq v w) fixed_words i [] e).0

no_position : (o : Option ℕ) → o ≡ None → is_none o ≡ true
no_position o e = rw e refl

-- a run of bytes of names, taken again
take_again : (k : ℕ) (xs : List ℕ) → take (length (take k xs)) xs ≡ take k xs
take_again zero xs = refl
take_again (suc k) [] = refl
take_again (suc k) (x ∷ xs) = ap (λ z. x ∷ z) (take_again k xs)

run_of_names : (xs : List ℕ) → all_name_bytes (take_while is_name_byte xs) ≡ true
run_of_names [] = refl
run_of_names (x ∷ xs) = by (is_name_byte x) refl (run_of_names xs)
  where
    one_more : (k : ℕ) → 1 + k ≡ suc k
    one_more k = omega arith

    by : (b : Bool) → is_name_byte x ≡ b → all_name_bytes (take (prefix_len is_name_byte xs) xs) ≡ true
        → all_name_bytes (take (cond b (1 + prefix_len is_name_byte xs) 0) (x ∷ xs)) ≡ true
    by false e h = refl
    by true e h = ap (λ k. all_name_bytes (take k (x ∷ xs))) (one_more (prefix_len is_name_byte xs)) ∙ rw e h

run_begins : (x : ℕ) (xs : List ℕ) → is_name_byte x ≡ true → take_while is_name_byte (x ∷ xs) ≡ x ∷ take_while is_name_byte xs
run_begins x xs e = ap (λ b. take (cond b (1 + prefix_len is_name_byte xs) 0) (x ∷ xs)) e ∙ ap (λ k. take k (x ∷ xs)) (one_more (prefix_len is_name_byte xs))
  where
    one_more : (k : ℕ) → 1 + k ≡ suc k
    one_more k = omega arith

letter_or_digit : (a b : Bool) → (a || b) ≡ true → b ≡ false → a ≡ true
letter_or_digit true b h e = refl
letter_or_digit false b h e = absurd (cc)

-- a run that begins with a letter is a name, where it is short and no fixed word
run_is_name : (x : ℕ) (xs : List ℕ) → is_name_byte x ≡ true → is_digit x ≡ false → fixed_word (take_while is_name_byte (x ∷ xs)) ≡ None
    → nat_le (length (take_while is_name_byte (x ∷ xs))) 255 ≡ true → is_name (take_while is_name_byte (x ∷ xs)) ≡ true
run_is_name x xs byte digit free short =
    subst (λ z. is_name z ≡ true) (sym run)
    (rw (
      letter_or_digit (is_letter x) (is_digit x) byte digit,
      (and_parts (is_name_byte x) (all_name_bytes rest) whole).1,
      subst (λ z. nat_le (length z) 255 ≡ true) run short,
      no_position (fixed_word (x ∷ rest)) (subst (λ z. fixed_word z ≡ None) run free),
    ) refl)
  where
    rest : List ℕ
    rest = take_while is_name_byte xs

    run : take_while is_name_byte (x ∷ xs) ≡ x ∷ rest
    run = run_begins x xs byte

    whole : all_name_bytes (x ∷ rest) ≡ true
    whole = subst (λ z. all_name_bytes z ≡ true) run (run_of_names (x ∷ xs))

-- the longest run at the front is taken as it is
run_text : (text : List ℕ) → take (run_length text) text ≡ take_while is_name_byte text
run_text text = take_again (prefix_len is_name_byte text) text

run_lexeme : (x : ℕ) (xs w : List ℕ) (d : Bool) → is_name_byte x ≡ true → is_digit x ≡ d → w ≡ take_while is_name_byte (x ∷ xs)
    → IsLexemeFront (x ∷ xs) (run_front d w)
run_lexeme x xs w true byte digit e = by (number_value w)
  where
    by : (o : Option ℕ) → IsLexemeFront (x ∷ xs) (number_front o (length w))
    by None = tt
    by (Some v) = tt
run_lexeme x xs w false byte digit e = by (fixed_word w) refl
  where
    taken : take (length w) (x ∷ xs) ≡ w
    taken = ap (λ z. take (length z) (x ∷ xs)) e ∙ run_text (x ∷ xs) ∙ sym e

    short_name : fixed_word w ≡ None → (b : Bool) → nat_le (length w) 255 ≡ b → IsLexemeFront (x ∷ xs) (if b then front.Name (length w) else front.LongName)
    short_name free false s = tt
    short_name free true s =
        ap is_name (taken ∙ e)
        ∙ run_is_name x xs byte digit (subst (λ z. fixed_word z ≡ None) e free) (subst (λ z. nat_le (length z) 255 ≡ true) e s)

    by : (o : Option ℕ) → fixed_word w ≡ o → IsLexemeFront (x ∷ xs) (fixed_front o (length w) (name_front (length w)))
    by None f = short_name f (nat_le (length w) 255) refl
    by (Some i) f = position_small w i f

mark_lexeme : (text : List ℕ) → IsLexemeFront text (mark_front text)
mark_lexeme text = by (mark_at text) refl
  where
    by_word : (m : List ℕ) (o : Option ℕ) → fixed_word m ≡ o → IsLexemeFront text (fixed_front o (length m) front.BadByte)
    by_word m None f = tt
    by_word m (Some i) f = position_small m i f

    by : (o : Option (List ℕ)) → mark_at text ≡ o → IsLexemeFront text (mark_front text)
    by None e = rw e tt
    by (Some m) e = rw e (by_word m (fixed_word m) refl)

front_lexeme : (text : List ℕ) → IsLexemeFront text (front_of text)
unfolding front_of
front_lexeme [] = tt
front_lexeme (b ∷ rest) =
    by_test (IsLexemeFront (b ∷ rest)) (is_byte_at (b ∷ rest) 0 47 && is_byte_at (b ∷ rest) 1 47) _ _ (λ e. tt) (λ e.
    by_test (IsLexemeFront (b ∷ rest)) (is_blank b) _ _ (λ f. tt) (λ f.
    by_test (IsLexemeFront (b ∷ rest)) (is_name_byte b) _ _
    (λ g. run_lexeme b rest (take (run_length (b ∷ rest)) (b ∷ rest)) (is_digit b) g refl (run_text (b ∷ rest)))
    (λ g. mark_lexeme (b ∷ rest))))

small : (v : ℕ) → v ≤ 4294967295 → v < 2 ^ 32
small v h = omega (arith, h)

lexed_lexemes : (at : ℕ) (text : List ℕ) (ts : List Token) (e : Option LexError) → Lexed at text ts e → AreWordTokens ts → AreLexemes ts
lexed_lexemes at text ts e (ends _ _ h) w = tt
lexed_lexemes at text ts e (skips _ n _ _ _ h l) w = lexed_lexemes (at + n) (drop n text) ts e l w
lexed_lexemes at text ts e (word _ i n _ rs _ h l) w = (subst (IsLexemeFront text) h (front_lexeme text), lexed_lexemes (at + n) (drop n text) rs e l w.1)
lexed_lexemes at text ts e (number _ v n _ rs _ h l) w = (small v w.0, lexed_lexemes (at + n) (drop n text) rs e l w.1)
lexed_lexemes at text ts e (name _ n _ rs _ h l) w = (subst (IsLexemeFront text) h (front_lexeme text), lexed_lexemes (at + n) (drop n text) rs e l w.1)
lexed_lexemes at text ts e (bad_byte _ _ h) w = tt
lexed_lexemes at text ts e (bad_number _ _ h) w = tt
lexed_lexemes at text ts e (long_name _ _ h) w = tt

-- the tokens of a text
pub lexemes : (text : List ℕ) (ts : List Token) → Lexed 0 text ts None → AreLexemes ts
lexemes text ts l = lexed_lexemes 0 text ts None l (numbers_fit 0 text ts None l)
