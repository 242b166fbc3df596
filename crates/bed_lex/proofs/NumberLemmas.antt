-- Digits after a number that doesn't fit a word.
use Rattle.std.proofs.Common.{◌≡◌, ℕ, suc, ◌+◌, ◌*◌, ◌<◌, Bool, true, false, List, [], ◌∷◌, length, drop, get_or, drop-cons, ap, Option, None, Some, refl, sym, ◌∙◌, subst, arith}
use Rattle.std.proofs.lemmas.Bool.Decides.{nat_tests}
use Rattle.bed_lex.specs.Numbers.{digit_of, radix_of, digits_value, that_fits}

no_longer_fits : (n : ℕ) → 4294967295 < n → that_fits (Some n) ≡ None
no_longer_fits n h = grind (arith, nat_tests)

grows : (b : Bool) (n d : ℕ) → 4294967295 < n → 4294967295 < n * radix_of b + d
grows true n d h = omega arith
grows false n d h = omega arith

-- what is too large stays too large
pub too_large : (b : Bool) (n : ℕ) (bs : List ℕ) → 4294967295 < n → that_fits (digits_value b n bs) ≡ None
too_large b n [] h = no_longer_fits n h
too_large b n (c ∷ bs) h = by_digit (digit_of b c) refl (λ d. too_large b (n * radix_of b + d) bs (grows b n d h))
  where
    by_digit : (o : Option ℕ) → digit_of b c ≡ o → ((d : ℕ) → that_fits (digits_value b (n * radix_of b + d) bs) ≡ None)
        → that_fits (digits_value b n (c ∷ bs)) ≡ None
    by_digit None e more = rw e refl
    by_digit (Some d) e more = rw e (more d)

-- digits that pass the largest word, after some that fit
pub passes : (b : Bool) (word : List ℕ) (i n d radix : ℕ) → radix ≡ radix_of b → i < length word → digit_of b (get_or word i 0) ≡ Some d
    → 4294967295 < n * radix + d → digits_value b n (drop i word) ≡ digits_value b 0 word → ◌≡◌ {A = Option ℕ} None (that_fits (digits_value b 0 word))
passes b word i n d radix r within digit large so_far =
    let rest : drop i word ≡ get_or word i 0 ∷ drop (suc i) word = drop-cons word i 0 within in
    let next : digits_value b n (get_or word i 0 ∷ drop (suc i) word) ≡ digits_value b (n * radix_of b + d) (drop (suc i) word) = rw digit refl in
    let whole : digits_value b 0 word ≡ digits_value b (n * radix_of b + d) (drop (suc i) word) = sym so_far ∙ ap (digits_value b n) rest ∙ next in
    sym (ap that_fits whole ∙ too_large b (n * radix_of b + d) (drop (suc i) word) (subst (λ k. 4294967295 < n * k + d) r large))
