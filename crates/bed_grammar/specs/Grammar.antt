-- Context-free grammars as data, and the texts that they derive.
use Rattle.std.specs.Prelude.{◌≡◌, ℕ, List, [], ◌∷◌, ◌++◌, Option, None, ◌⊎◌}
use Rattle.std.proofs.Common.{inl, inr}

-- The right side of a production over the nonterminals N: a token of a class, nothing, one part after the other, either
-- of two parts, or a nonterminal. A token may carry a mark, a limit of L: the grammar has it there, but past that limit.
pub data Rhs (N L : Type 0) : Type 0 where
  token : ℕ → Option L → Rhs N L
  empty : Rhs N L
  seq : Rhs N L → Rhs N L → Rhs N L
  alt : Rhs N L → Rhs N L → Rhs N L
  ref : N → Rhs N L

-- The value of a right side: the token itself, nothing, a pair, a choice, or the tree of the nonterminal.
abbrev pub Value : {N L : Type 0} → (S : Type 0) → (N → Type 0) → Rhs N L → Type 0
Value S Tree (token c m) = S
Value S Tree empty = Unit {0}
Value S Tree (seq a b) = Value S Tree a × Value S Tree b
Value S Tree (alt a b) = Value S Tree a ⊎ Value S Tree b
Value S Tree (ref n) = Tree n

-- A grammar: nonterminals, tokens with their classes, and limits; for each nonterminal its tree, its production and the
-- tree that the production's value makes. IsLexeme says which tokens a text can have.
pub record Grammar : Type 1 where
  pub Nonterminal : Type 0
  pub Token : Type 0
  pub Limit : Type 0
  pub class : Token → ℕ
  pub IsLexeme : Token → Type 0
  pub Tree : Nonterminal → Type 0
  pub rule : Nonterminal → Rhs Nonterminal Limit
  pub action : (n : Nonterminal) → Value Token Tree (rule n) → Tree n

-- Tokens with the marks by which a grammar has them.
abbrev pub Marked : Type 0 → Type 0 → Type 0
Marked S L = List (S × Option L)

-- The tokens of a marked text.
abbrev pub tokens_of : {S L : Type 0} → Marked S L → List S
tokens_of [] = []
tokens_of (x ∷ xs) = x.0 ∷ tokens_of xs

-- Tokens all within the limits.
abbrev pub unmarked : {S L : Type 0} → List S → Marked S L
unmarked [] = []
unmarked (t ∷ ts) = (t, None) ∷ unmarked ts

-- No token of a marked text is past a limit.
abbrev pub IsUnmarked : {S L : Type 0} → Marked S L → Type 0
IsUnmarked [] = Unit {0}
IsUnmarked (x ∷ xs) = (x.1 ≡ None) × IsUnmarked xs

module _ (G : Grammar) where
  -- The marked tokens are a text of the right side, with this value.
  pub data Derives : (g : Rhs G.Nonterminal G.Limit) → Marked G.Token G.Limit → Value G.Token G.Tree g → Type 0 where
    shift : (c : ℕ) (m : Option G.Limit) (t : G.Token) → G.class t ≡ c → Derives (token c m) ((t, m) ∷ []) t
    epsilon : Derives empty [] tt
    sequence : (a b : Rhs G.Nonterminal G.Limit) (p q : Marked G.Token G.Limit) (x : Value G.Token G.Tree a) (y : Value G.Token G.Tree b)
        → Derives a p x → Derives b q y → Derives (seq a b) (p ++ q) (x, y)
    left : (a b : Rhs G.Nonterminal G.Limit) (p : Marked G.Token G.Limit) (x : Value G.Token G.Tree a) → Derives a p x → Derives (alt a b) p (inl x)
    right : (a b : Rhs G.Nonterminal G.Limit) (p : Marked G.Token G.Limit) (x : Value G.Token G.Tree b) → Derives b p x → Derives (alt a b) p (inr x)
    expand : (n : G.Nonterminal) (p : Marked G.Token G.Limit) (v : Value G.Token G.Tree (G.rule n)) → Derives (G.rule n) p v → Derives (ref n) p (G.action n v)

  -- The marked tokens are a text of the right side with this value, where I says what the texts of each nonterminal are:
  -- one layer of a derivation.
  abbrev pub Spells : ((n : G.Nonterminal) → Marked G.Token G.Limit → G.Tree n → Type 0) → (g : Rhs G.Nonterminal G.Limit) → Marked G.Token G.Limit → Value G.Token G.Tree g → Type 0
  Spells I (token c m) p t = (p ≡ (t, m) ∷ []) × (G.class t ≡ c)
  Spells I empty p v = p ≡ []
  Spells I (seq a b) p v = (p1 : Marked G.Token G.Limit) × (p2 : Marked G.Token G.Limit) × (p ≡ p1 ++ p2) × Spells I a p1 v.0 × Spells I b p2 v.1
  Spells I (alt a b) p (inl x) = Spells I a p x
  Spells I (alt a b) p (inr x) = Spells I b p x
  Spells I (ref n) p v = I n p v
