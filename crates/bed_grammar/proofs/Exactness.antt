-- What reading a nonterminal says of the language of its texts.
use Rattle.std.proofs.Common.{◌≡◌, ◌<◌, length, false, List, [], ◌∷◌, ◌++◌, Option, Some, Ok, Err, refl, ap, sym, ◌∙◌, subst, append-nil}
use Rattle.std.proofs.lemmas.List.{append_cancel_left}
use Rattle.std.proofs.lemmas.List.Elements.{All-nil}
use Rattle.bed_grammar.specs.Grammar.{Rhs, ref, Value, Grammar, Marked, tokens_of, unmarked, Derives}
use Rattle.bed_grammar.specs.Exact.{peek, Outcome, FirstError, IsExactPrefix, IsExact, to_end}
use Rattle.bed_grammar.specs.Tables.{has, end_class, Tables, follow_last, IsLl1}
use Rattle.bed_grammar.specs.Parsing.{parse, Accepts, Rejects, IsParse}
use Rattle.bed_grammar.proofs.Sets.{tokens_of-unmarked}
use Rattle.bed_grammar.proofs.Parsing.{parse_exact, shorter}
use Rattle.bed_grammar.proofs.Languages.{reads_text}

module _ (G : Grammar) (T : Tables G) where
  module _ (g : Rhs G.Nonterminal G.Limit) (k : has (follow_last G T g) end_class ≡ false) where
    accepts_longest : (s : List G.Token) (v : Value G.Token G.Tree g) (rest : List G.Token) (u : Accepts G T g s v rest) (p : Marked G.Token G.Limit) (y : Value G.Token G.Tree g) (t : G.Token) (r : List G.Token)
        → Derives G g p y → tokens_of p ≡ u.front ++ (t ∷ r) → peek rest ≡ Some t → ⊥
    accepts_longest s v rest u p y t r d f h =
        let z : (p ≡ unmarked u.front) × (y ≡ v) = u.unique p y [] (t ∷ r) d k (append-nil (tokens_of p) ∙ f) (sym h) in
        let e : [] ≡ t ∷ r = append_cancel_left u.front [] (t ∷ r) (append-nil u.front ∙ sym (tokens_of-unmarked _ u.front) ∙ sym (ap tokens_of z.0) ∙ f) in cc

    accepts_whole : (s : List G.Token) (v : Value G.Token G.Tree g) → Accepts G T g s v [] → IsExact G.IsLexeme (Derives G g) s (Ok v)
    accepts_whole s v u =
        let e : s ≡ u.front = u.split ∙ append-nil u.front in (
          subst (λ z. Derives G g (unmarked z) v) (sym e) u.derived,
          (λ p y d f. let z : (p ≡ unmarked u.front) × (y ≡ v) = u.unique p y [] [] d k (append-nil (tokens_of p) ∙ f ∙ u.split) refl in (z.0 ∙ ap unmarked (sym e), z.1)),
        )

    rejects_error : (s rest : List G.Token) (w : Option G.Limit) → Rejects G T g s rest w → FirstError G.IsLexeme (Derives G g) s rest w
    rejects_error s rest w u = record {
      front = u.front;
      split = u.split;
      at_token = u.at_token;
      completion = u.completion;
      lexemes = u.lexemes;
      value = u.value;
      viable = u.viable;
      passes = λ p y r d f h. u.passes p y [] r d k (append-nil (tokens_of p) ∙ f) h;
    }

    -- a part was read and something is left over
    leftover_error : (s : List G.Token) (v : Value G.Token G.Tree g) (t : G.Token) (rest : List G.Token) (u : Accepts G T g s v (t ∷ rest)) (p : Marked G.Token G.Limit) (y : Value G.Token G.Tree g) (r : List G.Token)
        → Derives G g p y → tokens_of p ≡ u.front ++ r → peek r ≡ Some t → ⊥
    leftover_error s v t rest u p y [] d f h = cc
    leftover_error s v t rest u p y (x ∷ r) d f h = accepts_longest s v (t ∷ rest) u p y x r d f (sym h)

    pub exact_to_end : (s : List G.Token) (a : Outcome G.Token G.Limit (Value G.Token G.Tree g)) → IsParse G T g s a → IsExact G.IsLexeme (Derives G g) s (to_end a)
    exact_to_end s (Ok (v, [])) u = accepts_whole s v u
    exact_to_end s (Ok (v, t ∷ rest)) u = record {
      front = u.front;
      split = u.split;
      at_token = tt;
      completion = [];
      lexemes = All-nil G.IsLexeme;
      value = v;
      viable = subst (λ z. Derives G g z v) (sym (append-nil (unmarked u.front))) u.derived;
      passes = λ p y r d f h. leftover_error s v t rest u p y r d f h;
    }
    exact_to_end s (Err e) u = rejects_error s e.0 e.1 u

  module _ (c : IsLl1 G T) (n : G.Nonterminal) where
    -- Reading all of a list of tokens is exact.
    pub whole_exact : (s : List G.Token) → IsExact G.IsLexeme (Derives G (ref n)) s (to_end (parse G T n s))
    whole_exact s = exact_to_end (ref n) (c.ends n) s (parse G T n s) (parse_exact G T c n s)

    -- A text within the limits has one value and no other marks.
    pub one_text : (s : List G.Token) (v : G.Tree n) → Derives G (ref n) (unmarked s) v → (p : Marked G.Token G.Limit) (y : G.Tree n) → Derives G (ref n) p y → tokens_of p ≡ s → (p ≡ unmarked s) × (y ≡ v)
    one_text s v d =
        let e : to_end (parse G T n s) ≡ Ok v = reads_text G.IsLexeme (Derives G (ref n)) s _ (whole_exact s) v d in
        (subst (IsExact G.IsLexeme (Derives G (ref n)) s) e (whole_exact s)).1

    -- The grammar is unambiguous.
    pub unambiguous : (s : List G.Token) (x y : G.Tree n) → Derives G (ref n) (unmarked s) x → Derives G (ref n) (unmarked s) y → x ≡ y
    unambiguous s x y d e = (one_text s y e (unmarked s) x d (tokens_of-unmarked _ s)).1

    outcome_exact : (s : List G.Token) (a : Outcome G.Token G.Limit (G.Tree n)) → IsParse G T (ref n) s a → IsExactPrefix G.IsLexeme (Derives G (ref n)) s a
    outcome_exact s (Ok (v, rest)) u = record {
      front = u.front;
      split = u.split;
      derived = u.derived;
      unique = one_text u.front v u.derived;
      longest = accepts_longest (ref n) (c.ends n) s v rest u;
    }
    outcome_exact s (Err (rest, w)) u = rejects_error (ref n) (c.ends n) s rest w u

    -- Reading as far as it goes is exact.
    pub prefix_exact : (s : List G.Token) → IsExactPrefix G.IsLexeme (Derives G (ref n)) s (parse G T n s)
    prefix_exact s = outcome_exact s (parse G T n s) (parse_exact G T c n s)

    -- A nonterminal whose texts aren't empty takes tokens.
    pub consumes : T.nullables n ≡ false → (s : List G.Token) (v : G.Tree n) (rest : List G.Token) → parse G T n s ≡ Ok (v, rest) → length rest < length s
    consumes k s v rest e = shorter G T c (ref n) s v rest (subst (IsParse G T (ref n) s) e (parse_exact G T c n s)) k
