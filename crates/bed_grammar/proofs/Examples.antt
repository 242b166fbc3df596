-- Each right side has a text, of tokens that a text can have.
use Rattle.std.proofs.Common.{◌≡◌, ℕ, zero, suc, ◌<◌, nat_lt, Bool, true, false, ◌||◌, [], ◌∷◌, ◌++◌, Option, All, refl, sym, subst, inl, inr, arith}
use Rattle.std.proofs.lemmas.List.Elements.{All-nil, All-cons, All-append}
use Rattle.std.proofs.lemmas.Bool.{ltb-true, and_parts}
use Rattle.bed_grammar.specs.Grammar.{Rhs, token, empty, seq, alt, ref, Value, Grammar, Marked, tokens_of, Derives, shift, epsilon, sequence, left, right, expand}
use Rattle.bed_grammar.specs.Tables.{Tables, IsLl1, is_lower, is_ll1}
use Rattle.bed_grammar.proofs.Sets.{tokens_of-append}

module _ (G : Grammar) (T : Tables G) where
  -- a text of a right side, of tokens that a text can have
  abbrev pub Example : Rhs G.Nonterminal G.Limit → Type 0
  Example g = (p : Marked G.Token G.Limit) × (v : Value G.Token G.Tree g) × Derives G g p v × All G.IsLexeme (tokens_of p)

  no_token : Example empty
  no_token = ([], tt, epsilon, All-nil G.IsLexeme)

  a_seq : (a b : Rhs G.Nonterminal G.Limit) → Example a → Example b → Example (seq a b)
  a_seq a b (p, x, d, h) (q, y, e, k) = ((p ++ q), (x, y), sequence a b p q x y d e, subst (All G.IsLexeme) (sym (tokens_of-append p q)) (All-append G.IsLexeme (tokens_of p) (tokens_of q) h k))

  a_left : (a b : Rhs G.Nonterminal G.Limit) → Example a → Example (alt a b)
  a_left a b (p, x, d, h) = (p, inl x, left a b p x d, h)

  a_right : (a b : Rhs G.Nonterminal G.Limit) → Example b → Example (alt a b)
  a_right a b (p, x, d, h) = (p, inr x, right a b p x d, h)

  a_ref : (n : G.Nonterminal) → Example (G.rule n) → Example (ref n)
  a_ref n (p, v, d, h) = (p, G.action n v, expand n p v d, h)

  module _ (c : IsLl1 G T) where
    a_token : (k : ℕ) (m : Option G.Limit) → T.is_terminal k ≡ true → Example (token k m)
    a_token k m l =
        let (t, e, x) = c.lexeme k l in
        (((t, m) ∷ []), t, shift k m t e, All-cons G.IsLexeme t [] x (All-nil G.IsLexeme))

    -- from texts of the nonterminals with derivation trees lower than k
    from_lower : (k : ℕ) → ((n : G.Nonterminal) → nat_lt (T.height n) k ≡ true → Example (ref n)) → (g : Rhs G.Nonterminal G.Limit) → is_lower G T k g ≡ true → Example g
    from_lower k known (token j m) l = a_token j m l
    from_lower k known empty l = no_token
    from_lower k known (seq a b) l = a_seq a b (from_lower k known a (and_parts _ _ l).0) (from_lower k known b (and_parts _ _ l).1)
    from_lower k known (alt a b) l = go (from_lower k known a) (from_lower k known b) (is_lower G T k a) refl l
      where
        go : (is_lower G T k a ≡ true → Example a) → (is_lower G T k b ≡ true → Example b) → (t : Bool) → is_lower G T k a ≡ t → (t || is_lower G T k b) ≡ true → Example (alt a b)
        go f h true e l = a_left a b (f e)
        go f h false e l = a_right a b (h l)
    from_lower k known (ref n) l = known n l

    below_height : (k : ℕ) (n : G.Nonterminal) → T.height n < k → Example (ref n)
    below_height zero n h = absurd (omega arith)
    below_height (suc k) n h = a_ref n (from_lower (T.height n) (λ m l. let z : T.height m < T.height n = ltb-true _ _ l in below_height k m (omega arith)) (G.rule n) (c.productive n))

    -- some text of each right side
    pub example : (g : Rhs G.Nonterminal G.Limit) → is_ll1 G T g ≡ true → Example g
    example (token k m) l = a_token k m l
    example empty l = no_token
    example (seq a b) l = a_seq a b (example a (and_parts _ _ (and_parts _ _ l).0).0) (example b (and_parts _ _ (and_parts _ _ l).0).1)
    example (alt a b) l = a_left a b (example a (and_parts _ _ (and_parts _ _ l).0).0)
    example (ref n) l = below_height (suc (T.height n)) n (omega arith)
