-- Exact reading of any language, a relation of marked texts and values.
use Rattle.std.proofs.Common.{◌≡◌, List, [], ◌∷◌, Option, Some, None, Result, Ok, Err, refl, ap, sym, ◌∙◌, subst, inl, inr}
use Rattle.bed_grammar.specs.Grammar.{Marked, unmarked, IsUnmarked}
use Rattle.bed_grammar.specs.Exact.{Outcome, PassesAt, StandsAtToken, FirstError, LongestPrefix, IsExactPrefix, IsExact, ReportsExactly, ReturnsUnless, ReportsOutcome}
use Rattle.bed_grammar.proofs.Sets.{tokens_of-unmarked, unmarked-is, unmarked_parts}

-- a text within the limits passes none
within : {S L : Type 0} (w : Option L) (front rest s : List S) → StandsAtToken w rest → PassesAt w front rest (unmarked {L = L} s) → ⊥
within None front rest s a h = h
within (Some w) front [] s a h = a
within {S} {L} (Some w) front (t ∷ rest) s a (more, h) =
    let k = unmarked_parts (unmarked front) ((t, Some w) ∷ more) (subst (λ (z : Marked S L). IsUnmarked z) h (unmarked-is L s)) in
    let f : Some w ≡ None = k.1.0 in cc

module _ {S L V : Type 0} (X : S → Type 0) (D : Marked S L → V → Type 0) where
  -- what has a value is read as it
  pub reads_text : (s : List S) (r : Result V (List S × Option L)) → IsExact X D s r → (y : V) → D (unmarked s) y → r ≡ Ok y
  reads_text s (Ok v) x y d = ap Ok (sym (x.1 (unmarked s) y d (tokens_of-unmarked L s)).1)
  reads_text s (Err e) x y d = absurd (within e.1 x.front e.0 s x.at_token (x.passes (unmarked s) y e.0 d (tokens_of-unmarked L s ∙ x.split) refl))

  -- a reader that reports the outcome of exact reading reports exactly
  pub reports_exactly : {E : Type 0} (memory : E) (error : List S → Option L → E) (s : List S) (r : Result V (List S × Option L)) (result : Result V E)
      → IsExact X D s r → ReportsOutcome memory error r result → ReportsExactly X D memory error s result
  reports_exactly memory error s r (Ok v) x h = subst (IsExact X D s) h x
  reports_exactly memory error s r (Err e) x (inl h) = inl h
  reports_exactly memory error s r (Err e) x (inr (rest, w, f, h)) = inr (rest, w, f, subst (IsExact X D s) h x)

  -- and returns the value of each text
  pub returns_text : {E : Type 0} (memory : E) (error : List S → Option L → E) (s : List S) (result : Result V E)
      → ReportsExactly X D memory error s result → (v : V) → D (unmarked s) v → ReturnsUnless memory v result
  returns_text memory error s (Ok x) h v d = sym (h.1 (unmarked s) v d (tokens_of-unmarked L s)).1
  returns_text memory error s (Err e) (inl h) v d = h
  returns_text memory error s (Err e) (inr (rest, w, f, u)) v d = absurd (within w u.front rest s u.at_token (u.passes (unmarked s) v rest d (tokens_of-unmarked L s ∙ u.split) refl))

  module _ (E : Marked S L → V → Type 0) (to : (p : Marked S L) (v : V) → D p v → E p v) (back : (p : Marked S L) (v : V) → E p v → D p v) where
    first_error_restated : (s rest : List S) (w : Option L) → FirstError X D s rest w → FirstError X E s rest w
    first_error_restated s rest w u = record {
      front = u.front;
      split = u.split;
      at_token = u.at_token;
      completion = u.completion;
      lexemes = u.lexemes;
      value = u.value;
      viable = to _ u.value u.viable;
      passes = λ p y r e f h. u.passes p y r (back p y e) f h;
    }

    longest_prefix_restated : (s : List S) (v : V) (rest : List S) → LongestPrefix X D s v rest → LongestPrefix X E s v rest
    longest_prefix_restated s v rest u = record {
      front = u.front;
      split = u.split;
      derived = to _ v u.derived;
      unique = λ p y e f. u.unique p y (back p y e) f;
      longest = λ p y t r e f h. u.longest p y t r (back p y e) f h;
    }

    -- exact for one relation is exact for another one with the same texts and values
    pub exact_prefix_restated : (s : List S) (a : Outcome S L V) → IsExactPrefix X D s a → IsExactPrefix X E s a
    exact_prefix_restated s (Ok x) u = longest_prefix_restated s x.0 x.1 u
    exact_prefix_restated s (Err e) u = first_error_restated s e.0 e.1 u

    pub exact_restated : (s : List S) (r : Result V (List S × Option L)) → IsExact X D s r → IsExact X E s r
    exact_restated s (Ok v) u = (to _ v u.0, λ p y e f. u.1 p y (back p y e) f)
    exact_restated s (Err e) u = first_error_restated s e.0 e.1 u
