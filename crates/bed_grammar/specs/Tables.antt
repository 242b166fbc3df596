-- LL(1) tables of a grammar, and the conditions under which one token of foresight decides.
use Rattle.std.specs.Prelude.{◌≡◌, ℕ, ◌<◌, nat_lt, Bool, true, false, ◌&&◌, ◌||◌, not, cond, nat_eq, List, [], ◌∷◌, ◌++◌, Option, Some, None}
use Rattle.bed_grammar.specs.Grammar.{Rhs, token, empty, seq, alt, ref, Grammar}
use Rattle.bed_grammar.specs.Exact.{peek}

-- A set of classes has c.
abbrev pub has : List ℕ → ℕ → Bool
has [] c = false
has (x ∷ xs) c = nat_eq c x || has xs c

-- Two sets have no class in common.
abbrev pub disjoint : List ℕ → List ℕ → Bool
disjoint [] ys = true
disjoint (x ∷ xs) ys = not (has ys x) && disjoint xs ys

-- One set is part of the other.
abbrev pub subset : List ℕ → List ℕ → Bool
subset [] ys = true
subset (x ∷ xs) ys = has ys x && subset xs ys

-- The class of no token, where the tokens end: above every class, which is a u32.
abbrev pub end_class : ℕ
end_class = 4294967296

-- The class of the token, if there is one.
abbrev pub class_at : {S : Type 0} → (S → ℕ) → Option S → ℕ
class_at class None = end_class
class_at class (Some t) = class t

-- The class of the next token.
abbrev pub lookahead : (G : Grammar) → List G.Token → ℕ
lookahead G s = class_at G.class (peek s)

-- For each nonterminal whether its texts may be empty, the classes that they begin with, the classes that may continue a
-- whole text of it to a longer one, a rank above those of the nonterminals at its left end, and the height of a derivation
-- tree that it has; and which classes are tokens of the language. A table of classes may have too many.
pub record Tables (G : Grammar) : Type 0 where
  pub is_terminal : ℕ → Bool
  pub nullables : G.Nonterminal → Bool
  pub firsts : G.Nonterminal → List ℕ
  pub follow_lasts : G.Nonterminal → List ℕ
  pub rank : G.Nonterminal → ℕ
  pub ranks : ℕ
  pub height : G.Nonterminal → ℕ

module _ (G : Grammar) (T : Tables G) where
  -- A right side may be empty.
  abbrev pub nullable : Rhs G.Nonterminal G.Limit → Bool
  nullable (token c m) = false
  nullable empty = true
  nullable (seq a b) = nullable a && nullable b
  nullable (alt a b) = nullable a || nullable b
  nullable (ref n) = T.nullables n

  -- The classes with which a text of it begins.
  abbrev pub first : Rhs G.Nonterminal G.Limit → List ℕ
  first (token c m) = c ∷ []
  first empty = []
  first (seq a b) = first a ++ cond (nullable a) (first b) []
  first (alt a b) = first a ++ first b
  first (ref n) = T.firsts n

  -- The classes that may follow a whole text of it within a longer one.
  abbrev pub follow_last : Rhs G.Nonterminal G.Limit → List ℕ
  follow_last (token c m) = []
  follow_last empty = []
  follow_last (seq a b) = follow_last b ++ cond (nullable b) (follow_last a) []
  follow_last (alt a b) = (follow_last a ++ follow_last b) ++ (cond (nullable a) (first b) [] ++ cond (nullable b) (first a) [])
  follow_last (ref n) = T.follow_lasts n

  -- One token of foresight decides: what may continue the first part of a sequence doesn't begin the second; of two
  -- alternatives, which begin differently, only the second may be empty.
  abbrev pub is_ll1 : Rhs G.Nonterminal G.Limit → Bool
  is_ll1 (token c m) = T.is_terminal c
  is_ll1 empty = true
  is_ll1 (seq a b) = (is_ll1 a && is_ll1 b) && disjoint (follow_last a) (first b)
  is_ll1 (alt a b) = (is_ll1 a && is_ll1 b) && (not (nullable a) && disjoint (first a) (first b))
  is_ll1 (ref n) = true

  -- The nonterminal has a rank below k, or any rank.
  abbrev pub is_below : Option ℕ → G.Nonterminal → Bool
  is_below None n = true
  is_below (Some k) n = nat_lt (T.rank n) k

  -- The nonterminals at the left end of a right side have a rank below k, or any.
  abbrev pub left_below : Option ℕ → Rhs G.Nonterminal G.Limit → Bool
  left_below k (token c m) = true
  left_below k empty = true
  left_below k (seq a b) = left_below k a && (not (nullable a) || left_below k b)
  left_below k (alt a b) = left_below k a && left_below k b
  left_below k (ref n) = is_below k n

  -- The right side has a derivation whose nonterminals have derivation trees lower than k.
  abbrev pub is_lower : ℕ → Rhs G.Nonterminal G.Limit → Bool
  is_lower k (token c m) = T.is_terminal c
  is_lower k empty = true
  is_lower k (seq a b) = is_lower k a && is_lower k b
  is_lower k (alt a b) = is_lower k a || is_lower k b
  is_lower k (ref n) = nat_lt (T.height n) k

-- The tables hold, one token of foresight decides, no nonterminal stands at its own left end, each nonterminal has a
-- text, and each class of the language has a token that a text can have.
pub record IsLl1 (G : Grammar) (T : Tables G) : Type 0 where
  pub nullables : (n : G.Nonterminal) → (not (nullable G T (G.rule n)) || T.nullables n) ≡ true
  pub firsts : (n : G.Nonterminal) → subset (first G T (G.rule n)) (T.firsts n) ≡ true
  pub follow_lasts : (n : G.Nonterminal) → subset (follow_last G T (G.rule n)) (T.follow_lasts n) ≡ true
  pub ends : (n : G.Nonterminal) → has (T.follow_lasts n) end_class ≡ false
  pub decides : (n : G.Nonterminal) → is_ll1 G T (G.rule n) ≡ true
  pub below : (n : G.Nonterminal) → left_below G T (Some (T.rank n)) (G.rule n) ≡ true
  pub ranked : (n : G.Nonterminal) → T.rank n < T.ranks
  pub productive : (n : G.Nonterminal) → is_lower G T (T.height n) (G.rule n) ≡ true
  pub lexeme : (c : ℕ) → T.is_terminal c ≡ true → (t : G.Token) × (G.class t ≡ c) × G.IsLexeme t
