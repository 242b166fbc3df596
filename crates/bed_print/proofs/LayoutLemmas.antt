-- The bytes of fixed words.
use Rattle.std.proofs.Common.{◌≡◌, ℕ, ◌<◌, ◌≤◌, List, [], length, map, get_or, refl, sym, ap, ◌∙◌}
use Rattle.std.specs.Prelude.{slice_get, unwrap_or, option_map}
use Rattle.std.proofs.lemmas.Option.{slice_get-map, slice_get_past, slice_get-get_or}
use Rattle.std.specs.Borrow.{Bor}
use Rattle.bed_lex.specs.declared.token.TheConstants.{WORDS}
use Rattle.bed_lex.specs.Words.{reserved_words, marks, fixed_words}
use Rattle.bed_print.specs.Layout.{fixed_bytes}

words_are : map (λ w. w.now) WORDS ≡ fixed_words
unfolding fixed_words reserved_words marks
words_are = refl

-- the fixed word at a position
pub fixed_at : (w : ℕ) → unwrap_or (slice_get (map (λ w. w.now) WORDS) w) [] ≡ fixed_bytes w
fixed_at w = ap (λ ws. unwrap_or (slice_get ws w) []) words_are

-- the word at a position, and past the end
pub word_at : (words : List (Bor (List ℕ))) (i : ℕ) (d : Bor (List ℕ)) → i < length words
    → (get_or words i d).now ≡ unwrap_or (slice_get (map (λ (w : Bor (List ℕ)). w.now) words) i) []
word_at words i d h =
    sym (ap (λ o. unwrap_or o []) (slice_get-map (λ (w : Bor (List ℕ)). w.now) words i
    ∙ ap (option_map (λ (w : Bor (List ℕ)). w.now)) (slice_get-get_or words i d h)))

pub no_word : (words : List (Bor (List ℕ))) (i : ℕ) → length words ≤ i
    → ◌≡◌ {A = List ℕ} [] (unwrap_or (slice_get (map (λ (w : Bor (List ℕ)). w.now) words) i) [])
no_word words i h =
    sym (ap (λ o. unwrap_or o []) (slice_get-map (λ (w : Bor (List ℕ)). w.now) words i
    ∙ ap (option_map (λ (w : Bor (List ℕ)). w.now)) (slice_get_past words i h)))
