-- The numbers among the tokens of a text are words of 32 bits.
use Rattle.std.proofs.Common.{◌≡◌, ℕ, ◌+◌, ◌≤◌, ◌⊎◌, inl, inr, Bool, true, false, nat_le, nat_eq, nat_lt, ◌&&◌, if◌then◌else◌, List, [], ◌∷◌, length, take, drop, Option, Some, None, refl, sym, ◌∙◌, arith}
use Rattle.std.proofs.lemmas.Bool.Decides.{nat_tests}
use Rattle.bed_lex.specs.declared.token.Token.{Token}
use Rattle.bed_lex.specs.declared.token.LexError.{LexError}
use Rattle.bed_lex.specs.declared.front.Front.{Front}
use Rattle.bed_lex.specs.declared.front.Front.TheVariants as front
use Rattle.bed_lex.specs.Numbers.{that_fits, digits_value, number_value}
use Rattle.bed_lex.specs.Tokens.{is_blank, is_name_byte, is_digit, is_byte_at, run_length, line_length, fixed_word, fixed_front, number_front, name_front, run_front, mark_at, mark_front, front_of, Lexed, ends, skips, word, number, name, bad_byte, bad_number, long_name, AreWordTokens}

-- one of the two branches
branch : {A : Type 0} (b : Bool) (x y z : A) → (if b then x else y) ≡ z → (x ≡ z) ⊎ (y ≡ z)
branch true x y z e = inl e
branch false x y z e = inr e

fits : (o : Option ℕ) (v : ℕ) → that_fits o ≡ Some v → v ≤ 4294967295
fits None v e = absurd (cc)
fits (Some n) v e = by_test (nat_le n 4294967295) refl
  where
    by_test : (b : Bool) → nat_le n 4294967295 ≡ b → v ≤ 4294967295
    by_test true t = let same : ◌≡◌ {A = Option ℕ} (Some n) (Some v) = sym (rw t refl) ∙ e in let is : n ≡ v = cc in let le : n ≤ 4294967295 = grind (arith, nat_tests) in omega arith
    by_test false t = let none : ◌≡◌ {A = Option ℕ} None (Some v) = sym (rw t refl) ∙ e in absurd (cc)

value_fits : (w : List ℕ) (v : ℕ) → number_value w ≡ Some v → v ≤ 4294967295
value_fits [] v e = fits (digits_value false 0 []) v e
value_fits (a ∷ []) v e = fits (digits_value false 0 (a ∷ [])) v e
value_fits (a ∷ b ∷ bs) v e =
    elim (branch (nat_eq a 48 && nat_eq b 120 && nat_lt 0 (length bs)) (that_fits (digits_value true 0 bs)) (that_fits (digits_value false 0 (a ∷ b ∷ bs))) (Some v) e) [
      | inl h ↦ fits (digits_value true 0 bs) v h
      | inr h ↦ fits (digits_value false 0 (a ∷ b ∷ bs)) v h
    ]

number_fits : (o : Option ℕ) (size v n : ℕ) → number_front o size ≡ front.Number v n → o ≡ Some v
number_fits None size v n e = absurd (cc)
number_fits (Some u) size v n e = cc

name_is_no_number : (size v n : ℕ) → name_front size ≡ front.Number v n → ⊥
name_is_no_number size v n e =
    elim (branch (nat_le size 255) (front.Name size) front.LongName (front.Number v n) e) [ inl h ↦ absurd (cc) | inr h ↦ absurd (cc) ]

fixed_is_no_number : (o : Option ℕ) (size v n : ℕ) (other : Front) → (other ≡ front.Number v n → ⊥) → fixed_front o size other ≡ front.Number v n → ⊥
fixed_is_no_number None size v n other not e = not e
fixed_is_no_number (Some i) size v n other not e = absurd (cc)

run_fits : (b : Bool) (w : List ℕ) (v n : ℕ) → run_front b w ≡ front.Number v n → v ≤ 4294967295
run_fits true w v n e = value_fits w v (number_fits (number_value w) (length w) v n e)
run_fits false w v n e = absurd (fixed_is_no_number (fixed_word w) (length w) v n (name_front (length w)) (name_is_no_number (length w) v n) e)

bad_is_no_number : (v n : ℕ) → front.BadByte ≡ front.Number v n → ⊥
bad_is_no_number v n e = absurd (cc)

mark_is_no_number : (text : List ℕ) (v n : ℕ) → mark_front text ≡ front.Number v n → ⊥
mark_is_no_number text v n e = by_mark (mark_at text) refl
  where
    by_mark : (o : Option (List ℕ)) → mark_at text ≡ o → ⊥
    by_mark None m = bad_is_no_number v n (sym (rw m refl) ∙ e)
    by_mark (Some x) m = fixed_is_no_number (fixed_word x) (length x) v n front.BadByte (bad_is_no_number v n) (sym (rw m refl) ∙ e)

skip_is_no_number : (k v n : ℕ) → front.Skip k ≡ front.Number v n → ⊥
skip_is_no_number k v n e = absurd (cc)

front_fits : (text : List ℕ) (v n : ℕ) → front_of text ≡ front.Number v n → v ≤ 4294967295
unfolding front_of
front_fits [] v n e = absurd (cc)
front_fits (b ∷ rest) v n e =
    elim (branch (is_byte_at (b ∷ rest) 0 47 && is_byte_at (b ∷ rest) 1 47) (front.Skip (line_length (b ∷ rest))) _ (front.Number v n) e) [
      | inl h ↦ absurd (skip_is_no_number (line_length (b ∷ rest)) v n h)
      | inr h ↦ elim (branch (is_blank b) (front.Skip 1) _ (front.Number v n) h) [
        | inl k ↦ absurd (skip_is_no_number 1 v n k)
        | inr k ↦ elim (branch (is_name_byte b) (run_front (is_digit b) (take (run_length (b ∷ rest)) (b ∷ rest))) (mark_front (b ∷ rest)) (front.Number v n) k) [
          | inl r ↦ run_fits (is_digit b) (take (run_length (b ∷ rest)) (b ∷ rest)) v n r
          | inr m ↦ absurd (mark_is_no_number (b ∷ rest) v n m)
        ]
      ]
    ]

pub numbers_fit : (at : ℕ) (text : List ℕ) (ts : List Token) (e : Option LexError) → Lexed at text ts e → AreWordTokens ts
numbers_fit at text ts e (ends _ _ h) = tt
numbers_fit at text ts e (skips _ n _ _ _ h l) = numbers_fit (at + n) (drop n text) ts e l
numbers_fit at text ts e (word _ i n _ rs _ h l) = (tt, numbers_fit (at + n) (drop n text) rs e l)
numbers_fit at text ts e (number _ v n _ rs _ h l) = (front_fits text v n h, numbers_fit (at + n) (drop n text) rs e l)
numbers_fit at text ts e (name _ n _ rs _ h l) = (tt, numbers_fit (at + n) (drop n text) rs e l)
numbers_fit at text ts e (bad_byte _ _ h) = tt
numbers_fit at text ts e (bad_number _ _ h) = tt
numbers_fit at text ts e (long_name _ _ h) = tt
