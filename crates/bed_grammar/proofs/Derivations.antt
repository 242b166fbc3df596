-- Derivations, taken apart and put together.
use Rattle.std.proofs.Common.{◌≡◌, ℕ, [], ◌∷◌, ◌++◌, Option, refl, sym, subst, inl, inr}
use Rattle.bed_grammar.specs.Grammar.{Rhs, token, empty, seq, alt, ref, Value, Grammar, Marked, Derives, shift, epsilon, sequence, left, right, expand, Spells}

module _ (G : Grammar) where
  pub token_parts : (c : ℕ) (m : Option G.Limit) (p : Marked G.Token G.Limit) (v : G.Token) → Derives G (token c m) p v → (p ≡ (v, m) ∷ []) × (G.class v ≡ c)
  token_parts c m p v (shift _ _ t e) = (refl, e)

  pub empty_parts : (p : Marked G.Token G.Limit) (v : Unit {0}) → Derives G empty p v → p ≡ []
  empty_parts p v epsilon = refl

  pub seq_parts : (a b : Rhs G.Nonterminal G.Limit) (p : Marked G.Token G.Limit) (v : Value G.Token G.Tree (seq a b)) → Derives G (seq a b) p v
      → (p1 : Marked G.Token G.Limit) × (p2 : Marked G.Token G.Limit) × (p ≡ p1 ++ p2) × Derives G a p1 v.0 × Derives G b p2 v.1
  seq_parts a b p v (sequence _ _ p1 p2 x y d e) = (p1, p2, refl, d, e)

  abbrev pub Either : (a b : Rhs G.Nonterminal G.Limit) (p : Marked G.Token G.Limit) → Value G.Token G.Tree (alt a b) → Type 0
  Either a b p (inl x) = Derives G a p x
  Either a b p (inr y) = Derives G b p y

  pub alt_parts : (a b : Rhs G.Nonterminal G.Limit) (p : Marked G.Token G.Limit) (v : Value G.Token G.Tree (alt a b)) → Derives G (alt a b) p v → Either a b p v
  alt_parts a b p v (left _ _ q x d) = d
  alt_parts a b p v (right _ _ q x d) = d

  pub ref_parts : (n : G.Nonterminal) (p : Marked G.Token G.Limit) (y : G.Tree n) → Derives G (ref n) p y → (v : Value G.Token G.Tree (G.rule n)) × (y ≡ G.action n v) × Derives G (G.rule n) p v
  ref_parts n p y (expand _ _ v d) = (v, refl, d)

  -- the texts of each nonterminal, as the grammar derives them
  abbrev pub Texts : (n : G.Nonterminal) → Marked G.Token G.Limit → G.Tree n → Type 0
  Texts n p v = Derives G (ref n) p v

  -- a derivation of a right side, down to its nonterminals
  pub spelled : (g : Rhs G.Nonterminal G.Limit) (p : Marked G.Token G.Limit) (v : Value G.Token G.Tree g) → Derives G g p v → Spells G Texts g p v
  spelled (token c m) p v d = token_parts c m p v d
  spelled empty p v d = empty_parts p v d
  spelled (seq a b) p v d =
      let (p1, p2, e, d1, d2) = seq_parts a b p v d in
      (p1, p2, e, spelled a p1 v.0 d1, spelled b p2 v.1 d2)
  spelled (alt a b) p (inl x) d = spelled a p x (alt_parts a b p (inl x) d)
  spelled (alt a b) p (inr x) d = spelled b p x (alt_parts a b p (inr x) d)
  spelled (ref n) p v d = d

  -- and back
  pub derived : (g : Rhs G.Nonterminal G.Limit) (p : Marked G.Token G.Limit) (v : Value G.Token G.Tree g) → Spells G Texts g p v → Derives G g p v
  derived (token c m) p v s = subst (λ z. Derives G (token c m) z v) (sym s.0) (shift c m v s.1)
  derived empty p v s = subst (λ z. Derives G empty z v) (sym s) epsilon
  derived (seq a b) p v s =
      let (p1, p2, e, s1, s2) = s in
      subst (λ z. Derives G (seq a b) z v) (sym e) (sequence a b p1 p2 v.0 v.1 (derived a p1 v.0 s1) (derived b p2 v.1 s2))
  derived (alt a b) p (inl x) s = left a b p x (derived a p x s)
  derived (alt a b) p (inr x) s = right a b p x (derived b p x s)
  derived (ref n) p v s = s

  -- a text of a nonterminal is one of its production
  pub expansion : (n : G.Nonterminal) (p : Marked G.Token G.Limit) (y : G.Tree n) → Derives G (ref n) p y → (v : Value G.Token G.Tree (G.rule n)) × (y ≡ G.action n v) × Spells G Texts (G.rule n) p v
  expansion n p y d =
      let (v, e, k) = ref_parts n p y d in
      (v, e, spelled (G.rule n) p v k)

  pub reduction : (n : G.Nonterminal) (p : Marked G.Token G.Limit) (v : Value G.Token G.Tree (G.rule n)) → Spells G Texts (G.rule n) p v → Derives G (ref n) p (G.action n v)
  reduction n p v s = expand n p v (derived (G.rule n) p v s)

  -- Induction: what is closed under the productions has every text that the grammar derives.
  module _ (I : (n : G.Nonterminal) → Marked G.Token G.Limit → G.Tree n → Type 0)
      (closed : (n : G.Nonterminal) (p : Marked G.Token G.Limit) (v : Value G.Token G.Tree (G.rule n)) → Spells G I (G.rule n) p v → I n p (G.action n v)) where
    pub induction : (g : Rhs G.Nonterminal G.Limit) (p : Marked G.Token G.Limit) (v : Value G.Token G.Tree g) → Derives G g p v → Spells G I g p v
    induction _ _ _ (shift c m t e) = (refl, e)
    induction _ _ _ epsilon = refl
    induction _ _ _ (sequence a b p q x y d e) = (p, q, refl, induction a p x d, induction b q y e)
    induction _ _ _ (left a b p x d) = induction a p x d
    induction _ _ _ (right a b p x d) = induction b p x d
    induction _ _ _ (expand n p v d) = closed n p v (induction (G.rule n) p v d)
