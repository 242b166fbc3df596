-- What reading a list of tokens promises, for any language: a relation D of marked texts and their values.
use Rattle.std.specs.Prelude.{◌≡◌, List, [], ◌∷◌, ◌++◌, Option, Some, None, Result, Ok, Err, All, ◌⊎◌}
use Rattle.bed_grammar.specs.Grammar.{Marked, tokens_of, unmarked}

-- The first token.
abbrev pub peek : {S : Type 0} → List S → Option S
peek [] = None
peek (t ∷ ts) = Some t

-- The outcome of reading: a value and the tokens that follow it, or the tokens from the refused one on with the limit
-- that is passed there.
abbrev pub Outcome : Type 0 → Type 0 → Type 0 → Type 0
Outcome S L V = Result (V × List S) (List S × Option L)

-- The refused token as the grammar has it, past limit w; none, where it isn't refused for a limit.
abbrev pub offending : {S L : Type 0} → Option L → List S → Marked S L
offending None rest = []
offending (Some w) [] = []
offending (Some w) (t ∷ ts) = (t, Some w) ∷ []

-- What is so of each text that goes on after front with the refused token: where that is refused for limit w, the text has
-- it past that limit, and what stands before it within the limits; else there is no such text.
abbrev pub PassesAt : {S L : Type 0} → Option L → List S → List S → Marked S L → Type 0
PassesAt None front rest p = ⊥
PassesAt {S} {L} (Some w) front rest p = (more : Marked S L) × (p ≡ unmarked front ++ (offending (Some w) rest ++ more))

-- A limit is passed at a token, never at the end.
abbrev pub StandsAtToken : {S L : Type 0} → Option L → List S → Type 0
StandsAtToken (Some w) [] = ⊥
StandsAtToken _ _ = Unit {0}

module _ {S L V : Type 0} (IsLexeme : S → Type 0) (D : Marked S L → V → Type 0) where
  -- The first token of rest is the first wrong one of s, or s ends too early: what stands before it is a viable prefix,
  -- within the limits, and with it none. Where it is refused for limit w, it is viable past that limit.
  pub record FirstError (s rest : List S) (w : Option L) : Type 0 where
    pub front : List S
    pub split : s ≡ front ++ rest
    pub at_token : StandsAtToken w rest
    -- some text begins so, and goes on with tokens that a text can have
    pub completion : Marked S L
    pub lexemes : All IsLexeme (tokens_of completion)
    pub value : V
    pub viable : D (unmarked front ++ (offending w rest ++ completion)) value
    -- no text goes on with the first token of rest, or ends where rest is empty, but those that pass limit w there
    pub passes : (p : Marked S L) (y : V) (r : List S) → D p y → tokens_of p ≡ front ++ r → peek r ≡ peek rest → PassesAt w front rest p

  -- The tokens of s before rest are a text within the limits, with this value and no other, and no text goes on with the
  -- first token of rest.
  pub record LongestPrefix (s : List S) (v : V) (rest : List S) : Type 0 where
    pub front : List S
    pub split : s ≡ front ++ rest
    pub derived : D (unmarked front) v
    pub unique : (p : Marked S L) (y : V) → D p y → tokens_of p ≡ front → (p ≡ unmarked front) × (y ≡ v)
    pub longest : (p : Marked S L) (y : V) (t : S) (r : List S) → D p y → tokens_of p ≡ front ++ (t ∷ r) → peek rest ≡ Some t → ⊥

  -- Reading stops where the next token can't continue a text: a longest prefix, or the first wrong token.
  abbrev pub IsExactPrefix : List S → Outcome S L V → Type 0
  IsExactPrefix s (Ok x) = LongestPrefix s x.0 x.1
  IsExactPrefix s (Err e) = FirstError s e.0 e.1

  -- All of s is a text within the limits, with this value and no other, also beyond the limits; or the first wrong token.
  abbrev pub IsExact : List S → Result V (List S × Option L) → Type 0
  IsExact s (Ok v) = D (unmarked s) v × ((p : Marked S L) (y : V) → D p y → tokens_of p ≡ s → (p ≡ unmarked s) × (y ≡ v))
  IsExact s (Err e) = FirstError s e.0 e.1

  -- A reader with errors E, `memory` and `error rest w`, returned what exact reading of s gives, unless memory ran out.
  abbrev pub ReportsExactly : {E : Type 0} → E → (List S → Option L → E) → List S → Result V E → Type 0
  ReportsExactly memory error s (Ok v) = IsExact s (Ok v)
  ReportsExactly memory error s (Err e) = (e ≡ memory) ⊎ ((rest : List S) × (w : Option L) × (e ≡ error rest w) × FirstError s rest w)

-- A reader returned this value, unless memory ran out.
abbrev pub ReturnsUnless : {V E : Type 0} → E → V → Result V E → Type 0
ReturnsUnless memory v (Ok x) = x ≡ v
ReturnsUnless memory v (Err e) = e ≡ memory

-- A reader's result is this outcome of reading to the end, unless memory ran out.
abbrev pub ReportsOutcome : {S L V E : Type 0} → E → (List S → Option L → E) → Result V (List S × Option L) → Result V E → Type 0
ReportsOutcome memory error outcome (Ok v) = outcome ≡ Ok v
ReportsOutcome {S} {L} memory error outcome (Err e) = (e ≡ memory) ⊎ ((rest : List S) × (w : Option L) × (e ≡ error rest w) × (outcome ≡ Err (rest, w)))

-- Reading to the end: what is left over is refused.
abbrev pub to_end : {S L V : Type 0} → Outcome S L V → Result V (List S × Option L)
to_end (Ok (v, [])) = Ok v
to_end (Ok (v, t ∷ rest)) = Err ((t ∷ rest), None)
to_end (Err e) = Err e
