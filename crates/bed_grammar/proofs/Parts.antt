-- What a text of a right side is made of, and how what follows it is seen.
use Rattle.std.proofs.Common.{◌≡◌, ℕ, true, false, cond, List, [], ◌∷◌, ◌++◌, ap, sym, ◌∙◌, subst}
use Rattle.bed_grammar.specs.Grammar.{Rhs, seq, alt, ref, Grammar, Marked, tokens_of}
use Rattle.bed_grammar.specs.Exact.{peek}
use Rattle.bed_grammar.specs.Tables.{has, disjoint, class_at, lookahead, Tables, nullable, first, follow_last, IsLl1}
use Rattle.bed_grammar.proofs.Sets.{both_ways, has_none, disjoint_has, disjoint_none, subset_none}
use Rattle.bed_grammar.proofs.Begins.{Begins}

module _ (G : Grammar) (T : Tables G) where
  -- what stops the whole stops its parts
  pub stops_first : (a b : Rhs G.Nonterminal G.Limit) (p : Marked G.Token G.Limit) (q : List G.Token) → disjoint (follow_last G T a) (first G T b) ≡ true → Begins G T b p
      → has (follow_last G T (seq a b)) (lookahead G q) ≡ false → has (follow_last G T a) (lookahead G (tokens_of p ++ q)) ≡ false
  stops_first a b [] q h k s = let z : has (cond (nullable G T b) (follow_last G T a) []) (lookahead G q) ≡ false = (has_none (follow_last G T b) _ _ s).1 in subst (λ t. has (cond t (follow_last G T a) []) (lookahead G q) ≡ false) k z
  stops_first a b (x ∷ p) q h k s = disjoint_none (follow_last G T a) (first G T b) (G.class x.0) h k

  pub stops_second : (a b : Rhs G.Nonterminal G.Limit) (q : List G.Token) → has (follow_last G T (seq a b)) (lookahead G q) ≡ false → has (follow_last G T b) (lookahead G q) ≡ false
  stops_second a b q s = (has_none (follow_last G T b) _ _ s).0

  pub stops_left : (a b : Rhs G.Nonterminal G.Limit) (q : List G.Token) → has (follow_last G T (alt a b)) (lookahead G q) ≡ false → has (follow_last G T a) (lookahead G q) ≡ false
  stops_left a b q s = (has_none (follow_last G T a) _ _ (has_none (follow_last G T a ++ follow_last G T b) _ _ s).0).0

  pub stops_right : (a b : Rhs G.Nonterminal G.Limit) (q : List G.Token) → has (follow_last G T (alt a b)) (lookahead G q) ≡ false → has (follow_last G T b) (lookahead G q) ≡ false
  stops_right a b q s = (has_none (follow_last G T a) _ _ (has_none (follow_last G T a ++ follow_last G T b) _ _ s).0).1

  pub stops_ref : (c : IsLl1 G T) (n : G.Nonterminal) (q : List G.Token) → has (follow_last G T (ref n)) (lookahead G q) ≡ false → has (follow_last G T (G.rule n)) (lookahead G q) ≡ false
  stops_ref c n q s = subset_none (follow_last G T (G.rule n)) (T.follow_lasts n) (lookahead G q) (c.follow_lasts n) s

  -- an alternative that the first token doesn't choose has no text there
  pub not_first : {A : Type 0} (g : Rhs G.Nonterminal G.Limit) (p : Marked G.Token G.Limit) (q : List G.Token) (k : ℕ) → nullable G T g ≡ false → Begins G T g p → lookahead G (tokens_of p ++ q) ≡ k → has (first G T g) k ≡ false → A
  not_first g [] q k h b e f = both_ways _ b h
  not_first g (x ∷ p) q k h b e f = both_ways _ b (subst (λ z. has (first G T g) z ≡ false) (sym e) f)

  pub not_second : {A : Type 0} (a b : Rhs G.Nonterminal G.Limit) (p : Marked G.Token G.Limit) (q : List G.Token) (k : ℕ) → disjoint (first G T a) (first G T b) ≡ true → Begins G T b p → has (follow_last G T (alt a b)) (lookahead G q) ≡ false
      → lookahead G (tokens_of p ++ q) ≡ k → has (first G T a) k ≡ true → A
  not_second a b [] q k h n s e f =
      let z : has (cond (nullable G T b) (first G T a) []) (lookahead G q) ≡ false = (has_none (cond (nullable G T a) (first G T b) []) _ _ (has_none (follow_last G T a ++ follow_last G T b) _ _ s).1).1 in
      both_ways _ (subst (λ z. has (first G T a) z ≡ true) (sym e) f) (subst (λ t. has (cond t (first G T a) []) (lookahead G q) ≡ false) n z)
  not_second a b (x ∷ p) q k h n s e f = disjoint_has (first G T a) (first G T b) (G.class x.0) h (subst (λ z. has (first G T a) z ≡ true) (sym e) f) n

  -- what agrees with what was seen begins as it does
  pub same_look : (p : Marked G.Token G.Limit) (s front rest q r : List G.Token) → s ≡ front ++ rest → tokens_of p ++ q ≡ front ++ r → peek r ≡ peek rest → lookahead G (tokens_of p ++ q) ≡ lookahead G s
  same_look p s [] rest q r e f h = ap (class_at G.class) (ap peek f ∙ h ∙ sym (ap peek e))
  same_look p s (x ∷ front) rest q r e f h = ap (lookahead G) f ∙ sym (ap (lookahead G) e)
