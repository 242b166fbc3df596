-- With which class a text of a right side begins.
use Rattle.std.proofs.Common.{◌≡◌, true, nat_eq, [], ◌∷◌, ◌++◌, refl, sym, subst}
use Rattle.std.proofs.lemmas.Bool.{or_right, or_left}
use Rattle.bed_grammar.specs.Grammar.{Rhs, seq, alt, ref, Value, Grammar, Marked, Derives, shift, epsilon, sequence, left, right, expand}
use Rattle.bed_grammar.specs.Tables.{has, Tables, nullable, first, IsLl1}
use Rattle.bed_grammar.proofs.Sets.{implied, eq_refl, has_left, has_right, subset_has}

module _ (G : Grammar) (T : Tables G) where
  abbrev pub Begins : Rhs G.Nonterminal G.Limit → Marked G.Token G.Limit → Type 0
  Begins g [] = nullable G T g ≡ true
  Begins g (x ∷ p) = has (first G T g) (G.class x.0) ≡ true

  seq_begins : (a b : Rhs G.Nonterminal G.Limit) (p q : Marked G.Token G.Limit) → Begins a p → Begins b q → Begins (seq a b) (p ++ q)
  seq_begins a b [] [] h k = rw h k
  seq_begins a b [] (x ∷ q) h k = has_right (first G T a) _ _ (rw h k)
  seq_begins a b (x ∷ p) q h k = has_left (first G T a) _ _ h

  left_begins : (a b : Rhs G.Nonterminal G.Limit) (p : Marked G.Token G.Limit) → Begins a p → Begins (alt a b) p
  left_begins a b [] h = or_left _ _ h
  left_begins a b (x ∷ p) h = has_left (first G T a) _ _ h

  right_begins : (a b : Rhs G.Nonterminal G.Limit) (p : Marked G.Token G.Limit) → Begins b p → Begins (alt a b) p
  right_begins a b [] h = or_right _ _ h
  right_begins a b (x ∷ p) h = has_right (first G T a) _ _ h

  by_begins : (c : IsLl1 G T) (n : G.Nonterminal) (p : Marked G.Token G.Limit) → Begins (G.rule n) p → Begins (ref n) p
  by_begins c n [] h = implied _ _ (c.nullables n) h
  by_begins c n (x ∷ p) h = subset_has (first G T (G.rule n)) (T.firsts n) (G.class x.0) (c.firsts n) h

  pub begins : (c : IsLl1 G T) (g : Rhs G.Nonterminal G.Limit) (p : Marked G.Token G.Limit) (v : Value G.Token G.Tree g) → Derives G g p v → Begins g p
  begins c _ _ _ (shift k m t e) = or_left _ _ (subst (λ z. nat_eq z k ≡ true) (sym e) (eq_refl k))
  begins c _ _ _ epsilon = refl
  begins c _ _ _ (sequence a b p q x y d e) = seq_begins a b p q (begins c a p x d) (begins c b q y e)
  begins c _ _ _ (left a b p x d) = left_begins a b p (begins c a p x d)
  begins c _ _ _ (right a b p x d) = right_begins a b p (begins c b p x d)
  begins c _ _ _ (expand n p v d) = by_begins c n p (begins c (G.rule n) p v d)
