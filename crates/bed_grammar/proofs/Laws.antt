-- How reading a right side is made of reading its parts.
use Rattle.std.proofs.Common.{◌≡◌, ℕ, true, false, ◌&&◌, not, nat_eq, List, [], ◌∷◌, ◌++◌, Option, Some, None, All, refl, ap, ap₂, sym, ◌∙◌, subst, append_assoc, inl, inr}
use Rattle.std.proofs.lemmas.List.{append_cancel_left}
use Rattle.bed_grammar.specs.Grammar.{Rhs, token, empty, seq, alt, ref, Value, Grammar, Marked, tokens_of, unmarked, Derives, shift, epsilon, sequence, left, right, expand}
use Rattle.bed_grammar.specs.Exact.{peek, offending, PassesAt}
use Rattle.bed_grammar.specs.Tables.{has, disjoint, class_at, lookahead, Tables, nullable, first, follow_last, IsLl1}
use Rattle.bed_grammar.specs.Parsing.{Accepts, Rejects}
use Rattle.std.proofs.lemmas.List.Elements.{All-nil, All-append}
use Rattle.std.proofs.lemmas.Bool.{and_parts, not-true}
use Rattle.bed_grammar.proofs.Sets.{both_ways, eq_refl, tokens_of-append, unmarked-append, tokens_of-unmarked, peek_append, tokens_of-append_more}
use Rattle.bed_grammar.proofs.Examples.{Example}
use Rattle.bed_grammar.proofs.Begins.{begins}
use Rattle.bed_grammar.proofs.Derivations.{token_parts, empty_parts, seq_parts, alt_parts, ref_parts}
use Rattle.bed_grammar.proofs.Parts.{stops_first, stops_second, stops_left, stops_right, stops_ref, not_first, not_second, same_look}

module _ (G : Grammar) (T : Tables G) where
  -- ---- tokens and nothing

  token_unique : (c : ℕ) (t : G.Token) (rest : List G.Token) (p : Marked G.Token G.Limit) (y : G.Token) (q r : List G.Token) → Derives G (token c None) p y
      → tokens_of p ++ q ≡ (t ∷ []) ++ r → (p ≡ (t, None) ∷ []) × (y ≡ t)
  token_unique c t rest p y q r d e =
      let k : p ≡ (y, None) ∷ [] = (token_parts G c None p y d).0 in
      let f : y ∷ q ≡ t ∷ r = subst (λ z. tokens_of z ++ q ≡ t ∷ r) k e in
      let g : y ≡ t = cc in
      (subst (λ z. p ≡ (z, None) ∷ []) g k, g)

  pub token_accepts : (c : ℕ) (t : G.Token) (rest : List G.Token) → G.class t ≡ c → Accepts G T (token c None) (t ∷ rest) t rest
  token_accepts c t rest e = record {
    front = t ∷ [];
    split = refl;
    derived = shift c None t e;
    unique = λ p y q r d s f h. token_unique c t rest p y q r d f;
  }

  -- a token that is there with a mark
  token_passes : (c : ℕ) (w : G.Limit) (t : G.Token) (rest : List G.Token) (p : Marked G.Token G.Limit) (y : G.Token) (q r : List G.Token) → Derives G (token c (Some w)) p y → tokens_of p ++ q ≡ r → peek r ≡ Some t
      → PassesAt (Some w) [] (t ∷ rest) p
  token_passes c w t rest p y q r d f h =
      let k : p ≡ (y, Some w) ∷ [] = (token_parts G c (Some w) p y d).0 in
      let f' : y ∷ q ≡ r = subst (λ z. tokens_of z ++ q ≡ r) k f in
      let g : Some y ≡ Some t = ap peek f' ∙ h in
      let e : y ≡ t = cc in
      ([], subst (λ z. p ≡ (z, Some w) ∷ []) e k)

  pub token_rejects_limit : (c : ℕ) (w : G.Limit) (t : G.Token) (rest : List G.Token) → G.class t ≡ c → Rejects G T (token c (Some w)) (t ∷ rest) (t ∷ rest) (Some w)
  token_rejects_limit c w t rest e = record {
    front = [];
    split = refl;
    at_token = tt;
    completion = [];
    lexemes = All-nil G.IsLexeme;
    value = t;
    viable = shift c (Some w) t e;
    passes = λ p y q r d s f h. token_passes c w t rest p y q r d f h;
  }

  token_other : {A : Type 0} (c : ℕ) (m : Option G.Limit) (s : List G.Token) → nat_eq (lookahead G s) c ≡ false → (p : Marked G.Token G.Limit) (y : G.Token) (q r : List G.Token) → Derives G (token c m) p y
      → tokens_of p ++ q ≡ r → peek r ≡ peek s → A
  token_other c m s n p y q r d f h =
      let k : p ≡ (y, m) ∷ [] = (token_parts G c m p y d).0 in
      let e : G.class y ≡ c = (token_parts G c m p y d).1 in
      let f' : y ∷ q ≡ r = subst (λ z. tokens_of z ++ q ≡ r) k f in
      let g : lookahead G s ≡ c = ap (class_at G.class) (sym (ap peek f' ∙ h)) ∙ e in
      both_ways (nat_eq c c) (eq_refl c) (subst (λ z. nat_eq z c ≡ false) g n)

  pub token_rejects : (c : ℕ) (m : Option G.Limit) (s : List G.Token) → Example G T (token c m) → nat_eq (lookahead G s) c ≡ false → Rejects G T (token c m) s s None
  token_rejects c m s x n = record {
    front = [];
    split = refl;
    at_token = tt;
    completion = x.0;
    lexemes = x.3;
    value = x.1;
    viable = x.2;
    passes = λ p y q r d t f h. token_other c m s n p y q r d f h;
  }

  token_past_end : {A : Type 0} (c : ℕ) (m : Option G.Limit) (p : Marked G.Token G.Limit) (y : G.Token) (q r : List G.Token) → Derives G (token c m) p y → tokens_of p ++ q ≡ r → peek r ≡ None → A
  token_past_end c m p y q r d f h =
      let k : p ≡ (y, m) ∷ [] = (token_parts G c m p y d).0 in
      let f' : y ∷ q ≡ r = subst (λ z. tokens_of z ++ q ≡ r) k f in
      let g : Some y ≡ None = ap peek f' ∙ h in cc

  pub token_rejects_end : (c : ℕ) (m : Option G.Limit) → Example G T (token c m) → Rejects G T (token c m) [] [] None
  token_rejects_end c m x = record {
    front = [];
    split = refl;
    at_token = tt;
    completion = x.0;
    lexemes = x.3;
    value = x.1;
    viable = x.2;
    passes = λ p y q r d t f h. token_past_end c m p y q r d f h;
  }

  pub empty_accepts : (s : List G.Token) → Accepts G T empty s tt s
  empty_accepts s = record {
    front = [];
    split = refl;
    derived = epsilon;
    unique = λ p y q r d t f h. (empty_parts G p y d, refl);
  }

  -- ---- one after the other

  regroup : (p p1 p2 : Marked G.Token G.Limit) (q f1 f2 r : List G.Token) → p ≡ p1 ++ p2 → tokens_of p ++ q ≡ (f1 ++ f2) ++ r → tokens_of p1 ++ (tokens_of p2 ++ q) ≡ f1 ++ (f2 ++ r)
  regroup p p1 p2 q f1 f2 r e f = sym (tokens_of-append_more p1 p2 q) ∙ ap (λ z. tokens_of z ++ q) (sym e) ∙ f ∙ append_assoc f1 f2 r

  -- the first part was read rightly, so the second begins where it began
  second : (p1 p2 : Marked G.Token G.Limit) (q f1 f r : List G.Token) → p1 ≡ unmarked f1 → tokens_of p1 ++ (tokens_of p2 ++ q) ≡ f1 ++ r → tokens_of p2 ++ q ≡ r
  second p1 p2 q f1 f r e h = append_cancel_left f1 _ _ (ap (λ z. z ++ (tokens_of p2 ++ q)) (sym (ap tokens_of e ∙ tokens_of-unmarked _ f1)) ∙ h)

  module _ (c : IsLl1 G T) (a b : Rhs G.Nonterminal G.Limit) (l : disjoint (follow_last G T a) (first G T b) ≡ true) where
    seq_unique : (s : List G.Token) (x : Value G.Token G.Tree a) (m : List G.Token) (y : Value G.Token G.Tree b) (rest : List G.Token) (u : Accepts G T a s x m) (w : Accepts G T b m y rest)
        → (p : Marked G.Token G.Limit) (v : Value G.Token G.Tree (seq a b)) (q r : List G.Token) → Derives G (seq a b) p v → has (follow_last G T (seq a b)) (lookahead G q) ≡ false
        → tokens_of p ++ q ≡ (u.front ++ w.front) ++ r → peek r ≡ peek rest → (p ≡ unmarked (u.front ++ w.front)) × (v ≡ (x, y))
    seq_unique s x m y rest u w p v q r d t f h =
        let (p1, p2, e, d1, d2) = seq_parts G a b p v d in
        let f1 : tokens_of p1 ++ (tokens_of p2 ++ q) ≡ u.front ++ (w.front ++ r) = regroup p p1 p2 q u.front w.front r e f in
        let h1 : peek (w.front ++ r) ≡ peek m = peek_append w.front r rest h ∙ sym (ap peek w.split) in
        let k1 : (p1 ≡ unmarked u.front) × (v.0 ≡ x) = u.unique p1 v.0 (tokens_of p2 ++ q) (w.front ++ r) d1 (stops_first G T a b p2 q l (begins G T c b p2 v.1 d2) t) f1 h1 in
        let f2 : tokens_of p2 ++ q ≡ w.front ++ r = second p1 p2 q u.front w.front (w.front ++ r) k1.0 f1 in
        let k2 : (p2 ≡ unmarked w.front) × (v.1 ≡ y) = w.unique p2 v.1 q r d2 (stops_second G T a b q t) f2 h in
        (e ∙ ap₂ (λ i j. i ++ j) k1.0 k2.0 ∙ sym (unmarked-append u.front w.front), ap₂ (λ i j. (i, j)) k1.1 k2.1)

    pub seq_accepts : (s : List G.Token) (x : Value G.Token G.Tree a) (m : List G.Token) (y : Value G.Token G.Tree b) (rest : List G.Token) → Accepts G T a s x m → Accepts G T b m y rest → Accepts G T (seq a b) s (x, y) rest
    seq_accepts s x m y rest u w = record {
      front = u.front ++ w.front;
      split = u.split ∙ ap (λ z. u.front ++ z) w.split ∙ sym (append_assoc u.front w.front rest);
      derived = subst (λ z. Derives G (seq a b) z (x, y)) (sym (unmarked-append u.front w.front)) (sequence a b (unmarked u.front) (unmarked w.front) x y u.derived w.derived);
      unique = seq_unique s x m y rest u w;
    }

    -- a limit that is passed in a part is passed in the whole
    passes_first : (w : Option G.Limit) (front rest : List G.Token) (p p1 p2 : Marked G.Token G.Limit) → p ≡ p1 ++ p2 → PassesAt w front rest p1 → PassesAt w front rest p
    passes_first None front rest p p1 p2 e h = h
    passes_first (Some w) front rest p p1 p2 e (more, h) = ((more ++ p2), e ∙ ap (λ z. z ++ p2) h ∙ append_assoc (unmarked front) _ p2 ∙ ap (λ z. unmarked front ++ z) (append_assoc (offending (Some w) rest) more p2))

    passes_second : (w : Option G.Limit) (f1 front rest : List G.Token) (p p1 p2 : Marked G.Token G.Limit) → p ≡ p1 ++ p2 → p1 ≡ unmarked f1 → PassesAt w front rest p2 → PassesAt w (f1 ++ front) rest p
    passes_second None f1 front rest p p1 p2 e k h = h
    passes_second (Some w) f1 front rest p p1 p2 e k (more, h) =
        (more, e ∙ ap₂ (λ i j. i ++ j) k h ∙ sym (append_assoc (unmarked f1) (unmarked front) _) ∙ ap (λ i. i ++ (offending (Some w) rest ++ more)) (sym (unmarked-append f1 front)))

    first_passes : (s rest : List G.Token) (w : Option G.Limit) (u : Rejects G T a s rest w)
        → (p : Marked G.Token G.Limit) (v : Value G.Token G.Tree (seq a b)) (q r : List G.Token) → Derives G (seq a b) p v → has (follow_last G T (seq a b)) (lookahead G q) ≡ false
        → tokens_of p ++ q ≡ u.front ++ r → peek r ≡ peek rest → PassesAt w u.front rest p
    first_passes s rest w u p v q r d t f h =
        let (p1, p2, e, d1, d2) = seq_parts G a b p v d in
        let f1 : tokens_of p1 ++ (tokens_of p2 ++ q) ≡ u.front ++ r = sym (tokens_of-append_more p1 p2 q) ∙ ap (λ z. tokens_of z ++ q) (sym e) ∙ f in
        passes_first w u.front rest p p1 p2 e (u.passes p1 v.0 (tokens_of p2 ++ q) r d1 (stops_first G T a b p2 q l (begins G T c b p2 v.1 d2) t) f1 h)

    pub seq_rejects_first : Example G T b → (s rest : List G.Token) (w : Option G.Limit) → Rejects G T a s rest w → Rejects G T (seq a b) s rest w
    seq_rejects_first x s rest w u =
        let (p2, y, d2, h2) = x in
        record {
          front = u.front;
          split = u.split;
          at_token = u.at_token;
          completion = u.completion ++ p2;
          lexemes = subst (All G.IsLexeme) (sym (tokens_of-append u.completion p2)) (All-append G.IsLexeme (tokens_of u.completion) (tokens_of p2) u.lexemes h2);
          value = (u.value, y);
          viable = subst (λ z. Derives G (seq a b) z (u.value, y)) (append_assoc (unmarked u.front) _ p2 ∙ ap (λ z. unmarked u.front ++ z) (append_assoc (offending w rest) u.completion p2))
              (sequence a b (unmarked u.front ++ (offending w rest ++ u.completion)) p2 u.value y u.viable d2);
          passes = first_passes s rest w u;
        }

    second_passes : (s : List G.Token) (x : Value G.Token G.Tree a) (m rest : List G.Token) (w : Option G.Limit) (u : Accepts G T a s x m) (z : Rejects G T b m rest w)
        → (p : Marked G.Token G.Limit) (v : Value G.Token G.Tree (seq a b)) (q r : List G.Token) → Derives G (seq a b) p v → has (follow_last G T (seq a b)) (lookahead G q) ≡ false
        → tokens_of p ++ q ≡ (u.front ++ z.front) ++ r → peek r ≡ peek rest → PassesAt w (u.front ++ z.front) rest p
    second_passes s x m rest w u z p v q r d t f h =
        let (p1, p2, e, d1, d2) = seq_parts G a b p v d in
        let f1 : tokens_of p1 ++ (tokens_of p2 ++ q) ≡ u.front ++ (z.front ++ r) = regroup p p1 p2 q u.front z.front r e f in
        let h1 : peek (z.front ++ r) ≡ peek m = peek_append z.front r rest h ∙ sym (ap peek z.split) in
        let k1 : (p1 ≡ unmarked u.front) × (v.0 ≡ x) = u.unique p1 v.0 (tokens_of p2 ++ q) (z.front ++ r) d1 (stops_first G T a b p2 q l (begins G T c b p2 v.1 d2) t) f1 h1 in
        let f2 : tokens_of p2 ++ q ≡ z.front ++ r = second p1 p2 q u.front z.front (z.front ++ r) k1.0 f1 in
        passes_second w u.front z.front rest p p1 p2 e k1.0 (z.passes p2 v.1 q r d2 (stops_second G T a b q t) f2 h)

    pub seq_rejects_second : (s : List G.Token) (x : Value G.Token G.Tree a) (m rest : List G.Token) (w : Option G.Limit) → Accepts G T a s x m → Rejects G T b m rest w → Rejects G T (seq a b) s rest w
    seq_rejects_second s x m rest w u z = record {
      front = u.front ++ z.front;
      split = u.split ∙ ap (λ i. u.front ++ i) z.split ∙ sym (append_assoc u.front z.front rest);
      at_token = z.at_token;
      completion = z.completion;
      lexemes = z.lexemes;
      value = (x, z.value);
      viable = subst (λ i. Derives G (seq a b) i (x, z.value)) (sym (append_assoc (unmarked u.front) (unmarked z.front) _) ∙ ap (λ i. i ++ (offending w rest ++ z.completion)) (sym (unmarked-append u.front z.front)))
          (sequence a b (unmarked u.front) (unmarked z.front ++ (offending w rest ++ z.completion)) x z.value u.derived z.viable);
      passes = second_passes s x m rest w u z;
    }

  -- ---- either

  module _ (c : IsLl1 G T) (a b : Rhs G.Nonterminal G.Limit) (l : (not (nullable G T a) && disjoint (first G T a) (first G T b)) ≡ true) where
    lone : nullable G T a ≡ false
    lone = not-true _ (and_parts _ _ l).0

    differ : disjoint (first G T a) (first G T b) ≡ true
    differ = (and_parts _ _ l).1

    module _ (s : List G.Token) (k : has (first G T a) (lookahead G s) ≡ true) where
      left_unique : (x : Value G.Token G.Tree a) (rest : List G.Token) (u : Accepts G T a s x rest) (p : Marked G.Token G.Limit) (v : Value G.Token G.Tree (alt a b)) (q r : List G.Token) → Derives G (alt a b) p v → has (follow_last G T (alt a b)) (lookahead G q) ≡ false
          → tokens_of p ++ q ≡ u.front ++ r → peek r ≡ peek rest → (p ≡ unmarked u.front) × (v ≡ inl x)
      left_unique x rest u p (inl y) q r d t f h =
          let z : (p ≡ unmarked u.front) × (y ≡ x) = u.unique p y q r (alt_parts G a b p (inl y) d) (stops_left G T a b q t) f h in
          (z.0, ap inl z.1)
      left_unique x rest u p (inr y) q r d t f h =
          not_second G T a b p q (lookahead G s) differ (begins G T c b p y (alt_parts G a b p (inr y) d)) t (same_look G T p s u.front rest q r u.split f h) k

      pub left_accepts : (x : Value G.Token G.Tree a) (rest : List G.Token) → Accepts G T a s x rest → Accepts G T (alt a b) s (inl x) rest
      left_accepts x rest u = record {
        front = u.front;
        split = u.split;
        derived = left a b (unmarked u.front) x u.derived;
        unique = left_unique x rest u;
      }

      left_passes : (rest : List G.Token) (w : Option G.Limit) (u : Rejects G T a s rest w) (p : Marked G.Token G.Limit) (v : Value G.Token G.Tree (alt a b)) (q r : List G.Token) → Derives G (alt a b) p v → has (follow_last G T (alt a b)) (lookahead G q) ≡ false
          → tokens_of p ++ q ≡ u.front ++ r → peek r ≡ peek rest → PassesAt w u.front rest p
      left_passes rest w u p (inl y) q r d t f h = u.passes p y q r (alt_parts G a b p (inl y) d) (stops_left G T a b q t) f h
      left_passes rest w u p (inr y) q r d t f h =
          not_second G T a b p q (lookahead G s) differ (begins G T c b p y (alt_parts G a b p (inr y) d)) t (same_look G T p s u.front rest q r u.split f h) k

      pub left_rejects : (rest : List G.Token) (w : Option G.Limit) → Rejects G T a s rest w → Rejects G T (alt a b) s rest w
      left_rejects rest w u = record {
        front = u.front;
        split = u.split;
        at_token = u.at_token;
        completion = u.completion;
        lexemes = u.lexemes;
        value = inl u.value;
        viable = left a b _ u.value u.viable;
        passes = left_passes rest w u;
      }

    module _ (s : List G.Token) (k : has (first G T a) (lookahead G s) ≡ false) where
      right_unique : (x : Value G.Token G.Tree b) (rest : List G.Token) (u : Accepts G T b s x rest) (p : Marked G.Token G.Limit) (v : Value G.Token G.Tree (alt a b)) (q r : List G.Token) → Derives G (alt a b) p v → has (follow_last G T (alt a b)) (lookahead G q) ≡ false
          → tokens_of p ++ q ≡ u.front ++ r → peek r ≡ peek rest → (p ≡ unmarked u.front) × (v ≡ inr x)
      right_unique x rest u p (inr y) q r d t f h =
          let z : (p ≡ unmarked u.front) × (y ≡ x) = u.unique p y q r (alt_parts G a b p (inr y) d) (stops_right G T a b q t) f h in
          (z.0, ap inr z.1)
      right_unique x rest u p (inl y) q r d t f h =
          not_first G T a p q (lookahead G s) lone (begins G T c a p y (alt_parts G a b p (inl y) d)) (same_look G T p s u.front rest q r u.split f h) k

      pub right_accepts : (x : Value G.Token G.Tree b) (rest : List G.Token) → Accepts G T b s x rest → Accepts G T (alt a b) s (inr x) rest
      right_accepts x rest u = record {
        front = u.front;
        split = u.split;
        derived = right a b (unmarked u.front) x u.derived;
        unique = right_unique x rest u;
      }

      right_passes : (rest : List G.Token) (w : Option G.Limit) (u : Rejects G T b s rest w) (p : Marked G.Token G.Limit) (v : Value G.Token G.Tree (alt a b)) (q r : List G.Token) → Derives G (alt a b) p v → has (follow_last G T (alt a b)) (lookahead G q) ≡ false
          → tokens_of p ++ q ≡ u.front ++ r → peek r ≡ peek rest → PassesAt w u.front rest p
      right_passes rest w u p (inr y) q r d t f h = u.passes p y q r (alt_parts G a b p (inr y) d) (stops_right G T a b q t) f h
      right_passes rest w u p (inl y) q r d t f h =
          not_first G T a p q (lookahead G s) lone (begins G T c a p y (alt_parts G a b p (inl y) d)) (same_look G T p s u.front rest q r u.split f h) k

      pub right_rejects : (rest : List G.Token) (w : Option G.Limit) → Rejects G T b s rest w → Rejects G T (alt a b) s rest w
      right_rejects rest w u = record {
        front = u.front;
        split = u.split;
        at_token = u.at_token;
        completion = u.completion;
        lexemes = u.lexemes;
        value = inr u.value;
        viable = right a b _ u.value u.viable;
        passes = right_passes rest w u;
      }

  -- ---- another production

  module _ (c : IsLl1 G T) (n : G.Nonterminal) where
    ref_unique : (s : List G.Token) (v : Value G.Token G.Tree (G.rule n)) (rest : List G.Token) (u : Accepts G T (G.rule n) s v rest) (p : Marked G.Token G.Limit) (y : G.Tree n) (q r : List G.Token) → Derives G (ref n) p y → has (follow_last G T (ref n)) (lookahead G q) ≡ false
        → tokens_of p ++ q ≡ u.front ++ r → peek r ≡ peek rest → (p ≡ unmarked u.front) × (y ≡ G.action n v)
    ref_unique s v rest u p y q r d t f h =
        let (v', e, d') = ref_parts G n p y d in
        let k : (p ≡ unmarked u.front) × (v' ≡ v) = u.unique p v' q r d' (stops_ref G T c n q t) f h in
        (k.0, e ∙ ap (G.action n) k.1)

    pub ref_accepts : (s : List G.Token) (v : Value G.Token G.Tree (G.rule n)) (rest : List G.Token) → Accepts G T (G.rule n) s v rest → Accepts G T (ref n) s (G.action n v) rest
    ref_accepts s v rest u = record {
      front = u.front;
      split = u.split;
      derived = expand n (unmarked u.front) v u.derived;
      unique = ref_unique s v rest u;
    }

    ref_passes : (s rest : List G.Token) (w : Option G.Limit) (u : Rejects G T (G.rule n) s rest w) (p : Marked G.Token G.Limit) (y : G.Tree n) (q r : List G.Token) → Derives G (ref n) p y → has (follow_last G T (ref n)) (lookahead G q) ≡ false
        → tokens_of p ++ q ≡ u.front ++ r → peek r ≡ peek rest → PassesAt w u.front rest p
    ref_passes s rest w u p y q r d t f h =
        let (v', e, d') = ref_parts G n p y d in
        u.passes p v' q r d' (stops_ref G T c n q t) f h

    pub ref_rejects : (s rest : List G.Token) (w : Option G.Limit) → Rejects G T (G.rule n) s rest w → Rejects G T (ref n) s rest w
    ref_rejects s rest w u = record {
      front = u.front;
      split = u.split;
      at_token = u.at_token;
      completion = u.completion;
      lexemes = u.lexemes;
      value = G.action n u.value;
      viable = expand n _ u.value u.viable;
      passes = ref_passes s rest w u;
    }
