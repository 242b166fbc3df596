-- Reading a list of tokens with one token of foresight, as a function.
use Rattle.std.specs.Prelude.{◌≡◌, ℕ, ◌+◌, ◌*◌, length, zero, suc, Bool, true, false, nat_eq, List, [], ◌∷◌, ◌++◌, Option, Some, None, Ok, Err, All}
use Rattle.std.proofs.Common.{inl, inr}
use Rattle.bed_grammar.specs.Grammar.{Rhs, token, empty, seq, alt, ref, Value, Grammar, Marked, tokens_of, unmarked, Derives}
use Rattle.bed_grammar.specs.Exact.{peek, Outcome, offending, PassesAt, StandsAtToken}
use Rattle.bed_grammar.specs.Tables.{has, lookahead, Tables, first, follow_last}

-- The same outcome, with a function of the value.
abbrev pub outcome_map : {S L V W : Type 0} → (V → W) → Outcome S L V → Outcome S L W
outcome_map f (Ok x) = Ok (f x.0, x.1)
outcome_map f (Err e) = Err e

-- One reading after the other, and a function of both values.
abbrev pub outcome_then : {S L V W X : Type 0} → (V → W → X) → Outcome S L V → (List S → Outcome S L W) → Outcome S L X
outcome_then f (Ok x) next = outcome_map (f x.0) (next x.1)
outcome_then f (Err e) next = Err e

-- The first where the test is true, else the second.
abbrev pub chosen : {A : Type 0} → Bool → A → A → A
chosen true x y = x
chosen false x y = y

-- A token that stands where the grammar has one with mark m.
abbrev pub shifted : {S L : Type 0} → Option L → S → List S → Outcome S L S
shifted None t rest = Ok (t, rest)
shifted (Some w) t rest = Err ((t ∷ rest), Some w)

-- Reading a token of class c with mark m.
abbrev pub read_token : {S L : Type 0} → (S → ℕ) → ℕ → Option L → List S → Outcome S L S
read_token class c m [] = Err ([], None)
read_token class c m (t ∷ rest) = chosen (nat_eq (class t) c) (shifted m t rest) (Err ((t ∷ rest), None))

module _ (G : Grammar) (T : Tables G) where
  -- Reading a right side, where it is known how each nonterminal is read.
  abbrev pub read_rhs : ((n : G.Nonterminal) → List G.Token → Outcome G.Token G.Limit (G.Tree n)) → (g : Rhs G.Nonterminal G.Limit) → List G.Token → Outcome G.Token G.Limit (Value G.Token G.Tree g)
  read_rhs known (token c m) s = read_token G.class c m s
  read_rhs known empty s = Ok (tt, s)
  read_rhs known (seq a b) s = outcome_then (λ x y. (x, y)) (read_rhs known a s) (read_rhs known b)
  read_rhs known (alt a b) s = chosen (has (first G T a) (lookahead G s)) (outcome_map inl (read_rhs known a s)) (outcome_map inr (read_rhs known b s))
  read_rhs known (ref n) s = known n s

  -- Reading a nonterminal by expanding at most so many nonterminals inside one another.
  abbrev pub parse_within : ℕ → (n : G.Nonterminal) → List G.Token → Outcome G.Token G.Limit (G.Tree n)
  parse_within zero n s = Err (s, None)
  parse_within (suc k) n s = outcome_map (G.action n) (read_rhs (parse_within k) (G.rule n) s)

  -- Reading a nonterminal. As many expansions as this are always enough, so that reading is what `parse_step` says.
  unfoldable pub parse : (n : G.Nonterminal) → List G.Token → Outcome G.Token G.Limit (G.Tree n)
  parse n s = parse_within (suc (length s * T.ranks + T.rank n)) n s

  -- The front of s is read as v, and rest follows: every other text of g that agrees with the tokens seen, the first
  -- token of rest included, is the same one, unless a token follows it that could have continued it.
  pub record Accepts (g : Rhs G.Nonterminal G.Limit) (s : List G.Token) (v : Value G.Token G.Tree g) (rest : List G.Token) : Type 0 where
    pub front : List G.Token
    pub split : s ≡ front ++ rest
    pub derived : Derives G g (unmarked front) v
    pub unique : (p : Marked G.Token G.Limit) (y : Value G.Token G.Tree g) (q r : List G.Token) → Derives G g p y → has (follow_last G T g) (lookahead G q) ≡ false
        → tokens_of p ++ q ≡ front ++ r → peek r ≡ peek rest → (p ≡ unmarked front) × (y ≡ v)

  -- The first token of rest is the first that no text of g has there, or that passes limit w.
  pub record Rejects (g : Rhs G.Nonterminal G.Limit) (s rest : List G.Token) (w : Option G.Limit) : Type 0 where
    pub front : List G.Token
    pub split : s ≡ front ++ rest
    pub at_token : StandsAtToken w rest
    pub completion : Marked G.Token G.Limit
    pub lexemes : All G.IsLexeme (tokens_of completion)
    pub value : Value G.Token G.Tree g
    pub viable : Derives G g (unmarked front ++ (offending w rest ++ completion)) value
    pub passes : (p : Marked G.Token G.Limit) (y : Value G.Token G.Tree g) (q r : List G.Token) → Derives G g p y → has (follow_last G T g) (lookahead G q) ≡ false
        → tokens_of p ++ q ≡ front ++ r → peek r ≡ peek rest → PassesAt w front rest p

  -- What an outcome of reading g says.
  abbrev pub IsParse : (g : Rhs G.Nonterminal G.Limit) → List G.Token → Outcome G.Token G.Limit (Value G.Token G.Tree g) → Type 0
  IsParse g s (Ok x) = Accepts g s x.0 x.1
  IsParse g s (Err e) = Rejects g s e.0 e.1
