-- The function that reads is exact.
use Rattle.std.proofs.Common.{◌≡◌, ℕ, zero, suc, ◌+◌, ◌*◌, ◌<◌, ◌≤◌, Bool, true, false, ◌&&◌, ◌||◌, not, cond, nat_eq, nat_lt, List, [], ◌∷◌, ◌++◌, length, length-append, Option, Some, None, Result, Ok, Err, refl, ap, sym, ◌∙◌, subst, ◌⊎◌, inl, inr, arith, mul-le-mul_right}
use Rattle.std.proofs.lemmas.Bool.{ltb-true, and_parts, or_right}
use Rattle.bed_grammar.specs.Grammar.{Rhs, token, empty, seq, alt, ref, Value, Grammar, unmarked, Derives}
use Rattle.bed_grammar.specs.Exact.{Outcome}
use Rattle.bed_grammar.specs.Tables.{has, disjoint, lookahead, Tables, nullable, first, follow_last, is_ll1, is_below, left_below, IsLl1}
use Rattle.bed_grammar.specs.Parsing.{outcome_map, outcome_then, chosen, shifted, read_token, read_rhs, parse_within, parse, Accepts, IsParse}
use Rattle.bed_grammar.proofs.Sets.{implied, both_ways, eq_is}
use Rattle.bed_grammar.proofs.Begins.{begins}
use Rattle.bed_grammar.proofs.Examples.{Example, example}
use Rattle.bed_grammar.proofs.Laws.{token_accepts, token_rejects_limit, token_rejects, token_rejects_end, empty_accepts, seq_accepts, seq_rejects_first, seq_rejects_second, left_accepts, left_rejects, right_accepts, right_rejects, ref_accepts, ref_rejects}

module _ (G : Grammar) (T : Tables G) (c : IsLl1 G T) where
  -- an answer that is right, and that another function gives too
  abbrev pub Fine : (g : Rhs G.Nonterminal G.Limit) → List G.Token → Outcome G.Token G.Limit (Value G.Token G.Tree g) → Outcome G.Token G.Limit (Value G.Token G.Tree g) → Type 0
  Fine g s a b = IsParse G T g s a × (b ≡ a)

  token_fine : (k : ℕ) (m : Option G.Limit) → Example G T (token k m) → (s : List G.Token) → IsParse G T (token k m) s (read_token G.class k m s)
  token_fine k m x [] = token_rejects_end G T k m x
  token_fine k m x (t ∷ rest) = go m x (nat_eq (G.class t) k) refl
    where
      go : (m : Option G.Limit) → Example G T (token k m) → (b : Bool) → nat_eq (G.class t) k ≡ b → IsParse G T (token k m) (t ∷ rest) (chosen b (shifted m t rest) (Err ((t ∷ rest), None)))
      go None x true e = token_accepts G T k t rest (eq_is _ _ e)
      go (Some w) x true e = token_rejects_limit G T k w t rest (eq_is _ _ e)
      go None x false e = token_rejects G T k None (t ∷ rest) x e
      go (Some w) x false e = token_rejects G T k (Some w) (t ∷ rest) x e

  -- ---- one after the other
  module _ (a b : Rhs G.Nonterminal G.Limit) (l : disjoint (follow_last G T a) (first G T b) ≡ true) (y : Example G T b) (s : List G.Token) where
    after_first : (x : Value G.Token G.Tree a) (m : List G.Token) → Accepts G T a s x m → (B C : Outcome G.Token G.Limit (Value G.Token G.Tree b)) → Fine b m B C
        → Fine (seq a b) s (outcome_map (λ y. (x, y)) B) (outcome_map (λ y. (x, y)) C)
    after_first x m u (Ok y) C f = (seq_accepts G T c a b l s x m y.0 y.1 u f.0, ap (outcome_map (λ y. (x, y))) f.1)
    after_first x m u (Err e) C f = (seq_rejects_second G T c a b l s x m e.0 e.1 u f.0, ap (outcome_map (λ y. (x, y))) f.1)

    seq_fine : (A C : Outcome G.Token G.Limit (Value G.Token G.Tree a)) (F H : List G.Token → Outcome G.Token G.Limit (Value G.Token G.Tree b)) → Fine a s A C
        → ((x : Value G.Token G.Tree a) (m : List G.Token) → Accepts G T a s x m → Fine b m (F m) (H m))
        → Fine (seq a b) s (outcome_then (λ x y. (x, y)) A F) (outcome_then (λ x y. (x, y)) C H)
    seq_fine (Ok x) C F H f n =
        let z : Fine (seq a b) s (outcome_map (λ y. (x.0, y)) (F x.1)) (outcome_map (λ y. (x.0, y)) (H x.1)) = after_first x.0 x.1 f.0 (F x.1) (H x.1) (n x.0 x.1 f.0) in
        (z.0, ap (λ i. outcome_then (λ x y. (x, y)) i H) f.1 ∙ z.1)
    seq_fine (Err e) C F H f n = (seq_rejects_first G T c a b l y s e.0 e.1 f.0, ap (λ i. outcome_then (λ x y. (x, y)) i H) f.1)

  -- ---- either
  module _ (a b : Rhs G.Nonterminal G.Limit) (l : (not (nullable G T a) && disjoint (first G T a) (first G T b)) ≡ true) (s : List G.Token) where
    left_fine : has (first G T a) (lookahead G s) ≡ true → (A C : Outcome G.Token G.Limit (Value G.Token G.Tree a)) → Fine a s A C → Fine (alt a b) s (outcome_map inl A) (outcome_map inl C)
    left_fine k (Ok x) C f = (left_accepts G T c a b l s k x.0 x.1 f.0, ap (outcome_map inl) f.1)
    left_fine k (Err e) C f = (left_rejects G T c a b l s k e.0 e.1 f.0, ap (outcome_map inl) f.1)

    right_fine : has (first G T a) (lookahead G s) ≡ false → (A C : Outcome G.Token G.Limit (Value G.Token G.Tree b)) → Fine b s A C → Fine (alt a b) s (outcome_map inr A) (outcome_map inr C)
    right_fine k (Ok x) C f = (right_accepts G T c a b l s k x.0 x.1 f.0, ap (outcome_map inr) f.1)
    right_fine k (Err e) C f = (right_rejects G T c a b l s k e.0 e.1 f.0, ap (outcome_map inr) f.1)

    alt_fine : (t : Bool) → has (first G T a) (lookahead G s) ≡ t → (A C : Outcome G.Token G.Limit (Value G.Token G.Tree a)) (B D : Outcome G.Token G.Limit (Value G.Token G.Tree b)) → Fine a s A C → Fine b s B D
        → Fine (alt a b) s (chosen t (outcome_map inl A) (outcome_map inr B)) (chosen t (outcome_map inl C) (outcome_map inr D))
    alt_fine true k A C B D f h = left_fine k A C f
    alt_fine false k A C B D f h = right_fine k B D h

  -- ---- what was read is gone
  shorter_by : (s front m : List G.Token) (t : G.Token) → s ≡ (t ∷ front) ++ m → length m < length s
  shorter_by s front m t e = omega (arith, ap length e, length-append front m)

  module _ (a : Rhs G.Nonterminal G.Limit) (s : List G.Token) (x : Value G.Token G.Tree a) (m : List G.Token) where
    gone : (front : List G.Token) → s ≡ front ++ m → Derives G a (unmarked front) x → nullable G T a ≡ false → length m < length s
    gone [] e d n = both_ways (nullable G T a) (begins G T c a [] x d) n
    gone (t ∷ front) e d n = shorter_by s front m t e

    pub shorter : Accepts G T a s x m → nullable G T a ≡ false → length m < length s
    shorter u n = gone u.front u.split u.derived n

  -- ---- a right side
  module _ (K J : (n : G.Nonterminal) → List G.Token → Outcome G.Token G.Limit (G.Tree n)) where
    -- the productions are read rightly at shorter texts, and those of a low rank here
    abbrev pub Known : List G.Token → Option ℕ → Type 0
    Known s r = ((n : G.Nonterminal) (m : List G.Token) → length m < length s → Fine (ref n) m (K n m) (J n m)) × ((n : G.Nonterminal) → is_below G T r n ≡ true → Fine (ref n) s (K n s) (J n s))

    left_below_any : (g : Rhs G.Nonterminal G.Limit) → left_below G T None g ≡ true
    left_below_any (token k m) = refl
    left_below_any empty = refl
    left_below_any (seq a b) = rw (left_below_any a) (or_right _ _ (left_below_any b))
    left_below_any (alt a b) = rw (left_below_any a) (left_below_any b)
    left_below_any (ref n) = refl

    later : (s m : List G.Token) (r : Option ℕ) → length m < length s → Known s r → Known m None
    later s m r lt k = (λ n i q. k.0 n i (omega arith), λ n q. k.0 n m lt)

    rhs_fine : (g : Rhs G.Nonterminal G.Limit) (s : List G.Token) (r : Option ℕ) → is_ll1 G T g ≡ true → left_below G T r g ≡ true → Known s r → Fine g s (read_rhs G T K g s) (read_rhs G T J g s)
    rhs_fine (token k m) s r l o kn = (token_fine k m (example G T c (token k m) l) s, refl)
    rhs_fine empty s r l o kn = (empty_accepts G T s, refl)
    rhs_fine (seq a b) s r l o kn =
        seq_fine a b (and_parts _ _ l).1 (example G T c b (and_parts _ _ (and_parts _ _ l).0).1) s (read_rhs G T K a s) (read_rhs G T J a s) (read_rhs G T K b) (read_rhs G T J b) (rhs_fine a s r (and_parts _ _ (and_parts _ _ l).0).0 (and_parts _ _ o).0 kn)
        (λ x m u. go (rhs_fine b) x m u.front u.split u.derived)
      where
        go : ((m : List G.Token) (r : Option ℕ) → is_ll1 G T b ≡ true → left_below G T r b ≡ true → Known m r → Fine b m (read_rhs G T K b m) (read_rhs G T J b m))
            → (x : Value G.Token G.Tree a) (m front : List G.Token) → s ≡ front ++ m → Derives G a (unmarked front) x → Fine b m (read_rhs G T K b m) (read_rhs G T J b m)
        go rec x m [] e d = subst (λ i. Fine b i (read_rhs G T K b i) (read_rhs G T J b i)) e (rec s r (and_parts _ _ (and_parts _ _ l).0).1 (implied _ _ (and_parts _ _ o).1 (begins G T c a [] x d)) kn)
        go rec x m (t ∷ front) e d = rec m None (and_parts _ _ (and_parts _ _ l).0).1 (left_below_any b) (later s m r (shorter_by s front m t e) kn)
    rhs_fine (alt a b) s r l o kn =
        alt_fine a b (and_parts _ _ l).1 s (has (first G T a) (lookahead G s)) refl _ _ _ _ (rhs_fine a s r (and_parts _ _ (and_parts _ _ l).0).0 (and_parts _ _ o).0 kn) (rhs_fine b s r (and_parts _ _ (and_parts _ _ l).0).1 (and_parts _ _ o).1 kn)
    rhs_fine (ref n) s r l o kn = kn.1 n o

  ref_fine : (n : G.Nonterminal) (s : List G.Token) (A B : Outcome G.Token G.Limit (Value G.Token G.Tree (G.rule n))) → Fine (G.rule n) s A B → Fine (ref n) s (outcome_map (G.action n) A) (outcome_map (G.action n) B)
  ref_fine n s (Ok x) B f = (ref_accepts G T c n s x.0 x.1 f.0, ap (outcome_map (G.action n)) f.1)
  ref_fine n s (Err e) B f = (ref_rejects G T c n s e.0 e.1 f.0, ap (outcome_map (G.action n)) f.1)

  enough : (x y r q t : ℕ) → x < y → r < t → x * t + r < y * t + q
  enough x y r q t h k = let z : suc x * t ≤ y * t = mul-le-mul_right t h in omega (arith, Rattle.std.proofs.Common.suc-mul x t)

  -- with steps enough, more change nothing
  within_fine : (k j : ℕ) (n : G.Nonterminal) (s : List G.Token) → length s * T.ranks + T.rank n < k → length s * T.ranks + T.rank n < j → Fine (ref n) s (parse_within G T k n s) (parse_within G T j n s)
  within_fine zero j n s h i = absurd (omega arith)
  within_fine (suc k) zero n s h i = absurd (omega arith)
  within_fine (suc k) (suc j) n s h i = ref_fine n s _ _ (rhs_fine (parse_within G T k) (parse_within G T j) (G.rule n) s (Some (T.rank n)) (c.decides n) (c.below n) (
    (λ m t lt. let z = enough (length t) (length s) (T.rank m) (T.rank n) T.ranks lt (c.ranked m) in within_fine k j m t (omega arith) (omega arith)),
    (λ m q. let z : T.rank m < T.rank n = ltb-true _ _ q in within_fine k j m s (omega arith) (omega arith)),
  ))

  -- what `parse` gives is right
  pub parse_exact : (n : G.Nonterminal) (s : List G.Token) → IsParse G T (ref n) s (parse G T n s)
  unfolding parse
  parse_exact n s = (within_fine (suc (length s * T.ranks + T.rank n)) (suc (length s * T.ranks + T.rank n)) n s (omega arith) (omega arith)).0

  parse_enough : (n : G.Nonterminal) (s : List G.Token) (k : ℕ) → length s * T.ranks + T.rank n < k → Fine (ref n) s (parse G T n s) (parse_within G T k n s)
  unfolding parse
  parse_enough n s k h = within_fine (suc (length s * T.ranks + T.rank n)) k n s (omega arith) h

  -- and it reads the right side of its production
  pub parse_step : (n : G.Nonterminal) (s : List G.Token) → parse G T n s ≡ outcome_map (G.action n) (read_rhs G T (parse G T) (G.rule n) s)
  parse_step n s =
      let big = length s * T.ranks + T.rank n in
      let z : Fine (ref n) s (parse G T n s) (parse_within G T (suc big) n s) = parse_enough n s (suc big) (omega arith) in
      let w : Fine (G.rule n) s (read_rhs G T (parse G T) (G.rule n) s) (read_rhs G T (parse_within G T big) (G.rule n) s) = rhs_fine (parse G T) (parse_within G T big) (G.rule n) s (Some (T.rank n)) (c.decides n) (c.below n) (
        (λ m t lt. let z = enough (length t) (length s) (T.rank m) (T.rank n) T.ranks lt (c.ranked m) in parse_enough m t big (omega arith)),
        (λ m q. let z : T.rank m < T.rank n = ltb-true _ _ q in parse_enough m s big (omega arith)),
      ) in
      sym z.1 ∙ ap (outcome_map (G.action n)) w.1
