-- Tokens are a proof text, or have a first wrong token: what is known after each token that is read.
use Rattle.std.proofs.Common.{◌≡◌, ℕ, zero, suc, ◌<◌, ◌≤◌, ◌^◌, length, length-append, nat_lt, nat_eq, Bool, true, false, List, [], ◌∷◌, ◌++◌, Option, Some, None, Result, Ok, Err, All, refl, ap, ap₂, sym, ◌∙◌, subst, ◌⊎◌, inl, inr, append-nil, append_assoc, lit<, arith}
use Rattle.std.proofs.lemmas.List.{append_cancel_left}
use Rattle.std.proofs.lemmas.List.Elements.{All-nil, All-cons, All-append}
use Rattle.std.proofs.lemmas.Bool.{ltb-true}
use Rattle.std.proofs.lemmas.Bool.Decides.{nat_tests}
use Rattle.bed_grammar.specs.Grammar.{ref, Marked, tokens_of, unmarked, Derives}
use Rattle.bed_grammar.specs.Exact.{peek, FirstError, StandsAtToken}
use Rattle.bed_grammar.specs.Parsing.{Accepts, Rejects, IsParse}
use Rattle.bed_grammar.proofs.Parsing.{parse_exact}
use Rattle.bed_grammar.proofs.Sets.{both_ways, eq_refl, eq_is, tokens_of-unmarked, tokens_of-append, unmarked-append}
use Rattle.bed_grammar.proofs.Examples.{example}
use Rattle.bed_lex.specs.declared.token.Token.{Token}
use Rattle.bed_lex.specs.declared.token.Kind.{Kind}
use Rattle.bed_lex.specs.declared.token.Kind.TheVariants as kind
use Rattle.bed_deriv.specs.declared.derivation.Deriv.{Deriv}
use Rattle.bed_proof_text.specs.Classes.{class, IsLexeme, PROOFS, CONDITION, COLON, SEMICOLON}
use Rattle.bed_proof_text.specs.Written.{Node, nodes}
use Rattle.bed_proof_text.specs.Tables.{tables, read}
use Rattle.bed_proof_text.specs.Texts.{IsNode, IsConditions, none, one, IsProofs, proofs, IsText}
use Rattle.bed_proof_text.proofs.Certificate.{certified}
use Rattle.bed_proof_text.proofs.TextLemmas.{semicolon_stops, one_node}

-- ---- what conditions begin with

-- the parts of conditions that aren't empty
pub record First (p : ℕ) (ts : List Token) (ds : List (ℕ × Deriv)) : Type 0 where
  pub n : ℕ
  pub word : Token
  pub number : Token
  pub colon : Token
  pub semicolon : Token
  pub tree : List Token
  pub rest : List Token
  pub d : Deriv
  pub more : List (ℕ × Deriv)
  pub tokens : ts ≡ word ∷ number ∷ colon ∷ (tree ++ semicolon ∷ rest)
  pub list : ds ≡ (n, d) ∷ more
  pub begins : class word ≡ CONDITION
  pub numbered : number.kind ≡ kind.Number n
  pub above : p < n
  pub within : n ≤ 16384
  pub parts : class colon ≡ COLON
  pub node : IsNode tree d
  pub ends : class semicolon ≡ SEMICOLON
  pub others : IsConditions n rest more

-- conditions are none, or have a first one
pub first_of : (p : ℕ) (ts : List Token) (ds : List (ℕ × Deriv)) → IsConditions p ts ds → ((ts ≡ []) × (ds ≡ [])) ⊎ First p ts ds
first_of p _ _ (none _) = inl (refl, refl)
first_of p _ _ (one _ n w k c s t r d ds hw hk lo hi hc x hs m) = inr (record {
  n = n;
  word = w;
  number = k;
  colon = c;
  semicolon = s;
  tree = t;
  rest = r;
  d = d;
  more = ds;
  tokens = refl;
  list = refl;
  begins = hw;
  numbered = hk;
  above = lo;
  within = hi;
  parts = hc;
  node = x;
  ends = hs;
  others = m;
})

-- the parts of a proof text's heading
pub record Heading (ts : List Token) (ds : List (ℕ × Deriv)) : Type 0 where
  pub word : Token
  pub version : Token
  pub semicolon : Token
  pub rest : List Token
  pub tokens : ts ≡ word ∷ version ∷ semicolon ∷ rest
  pub begins : class word ≡ PROOFS
  pub numbered : version.kind ≡ kind.Number 1
  pub ends : class semicolon ≡ SEMICOLON
  pub conditions : IsConditions 0 rest ds

pub heading_of : (ts : List Token) (ds : List (ℕ × Deriv)) → IsProofs ts ds → Heading ts ds
heading_of _ ds (proofs w v s r _ hw hv hs m) = record { word = w; version = v; semicolon = s; rest = r; tokens = refl; begins = hw; numbered = hv; ends = hs; conditions = m }

-- ---- what was read so far

-- after these tokens, with these derivations and the last number p, a text goes on with conditions, and no otherwise
pub record SoFar (p : ℕ) (front : List Token) (out : List (ℕ × Deriv)) : Type 0 where
  pub goes_on : (ts : List Token) (ds : List (ℕ × Deriv)) → IsConditions p ts ds → IsProofs (front ++ ts) (out ++ ds)
  pub only : (ts : List Token) (ds : List (ℕ × Deriv)) → IsProofs (front ++ ts) ds → (es : List (ℕ × Deriv)) × (ds ≡ out ++ es) × IsConditions p ts es

pub after_heading : (w v s : Token) → class w ≡ PROOFS → v.kind ≡ kind.Number 1 → class s ≡ SEMICOLON → SoFar 0 (w ∷ v ∷ s ∷ []) []
after_heading w v s hw hv hs = record {
  goes_on = λ ts ds m. proofs w v s ts ds hw hv hs m;
  only = λ ts ds is. let h = heading_of (w ∷ v ∷ s ∷ ts) ds is in let e : h.rest ≡ ts = tail3 h.word h.version h.semicolon h.rest w v s ts (sym h.tokens) in (ds, refl, subst (λ z. IsConditions 0 z ds) e h.conditions);
}
  where
    tail3 : (a b c : Token) (x : List Token) (d e f : Token) (y : List Token) → a ∷ b ∷ c ∷ x ≡ d ∷ e ∷ f ∷ y → x ≡ y
    tail3 a b c x d e f y h = cc

-- a whole text
pub complete : (p : ℕ) (front : List Token) (out : List (ℕ × Deriv)) → SoFar p front out → IsProofs front out
complete p front out s = subst (λ z. IsProofs z out) (append-nil front) (subst (λ z. IsProofs (front ++ []) z) (append-nil out) (s.goes_on [] [] (none p)))

-- one more condition
pub after_condition : (p n : ℕ) (front : List Token) (out : List (ℕ × Deriv)) (w k c s : Token) (tree : List Token) (d : Deriv) → SoFar p front out
    → class w ≡ CONDITION → k.kind ≡ kind.Number n → p < n → n ≤ 16384 → class c ≡ COLON → IsNode tree d → class s ≡ SEMICOLON
    → ((a : List Token) (e : Deriv) (t : Token) (ra rb : List Token) → IsNode a e → class t ≡ SEMICOLON → a ++ t ∷ ra ≡ tree ++ s ∷ rb → (e ≡ d) × (ra ≡ rb))
    → SoFar n (front ++ w ∷ k ∷ c ∷ (tree ++ s ∷ [])) (out ++ (n, d) ∷ [])
after_condition p n front out w k c s tree d so hw hk lo hi hc x hs alone = record { goes_on = on; only = back }
  where
    shape : (ts : List Token) → (front ++ w ∷ k ∷ c ∷ (tree ++ s ∷ [])) ++ ts ≡ front ++ w ∷ k ∷ c ∷ (tree ++ s ∷ ts)
    shape ts = append_assoc front (w ∷ k ∷ c ∷ (tree ++ s ∷ [])) ts ∙ ap (λ z. front ++ w ∷ k ∷ c ∷ z) (append_assoc tree (s ∷ []) ts)

    on : (ts : List Token) (ds : List (ℕ × Deriv)) → IsConditions n ts ds → IsProofs ((front ++ w ∷ k ∷ c ∷ (tree ++ s ∷ [])) ++ ts) ((out ++ (n, d) ∷ []) ++ ds)
    on ts ds m =
        subst (λ z. IsProofs z ((out ++ (n, d) ∷ []) ++ ds)) (sym (shape ts)) (subst (λ z. IsProofs (front ++ w ∷ k ∷ c ∷ (tree ++ s ∷ ts)) z) (sym (append_assoc out ((n, d) ∷ []) ds))
        (so.goes_on (w ∷ k ∷ c ∷ (tree ++ s ∷ ts)) ((n, d) ∷ ds) (one p n w k c s tree ts d ds hw hk lo hi hc x hs m)))

    same_number : (m : ℕ) (j : Token) → j ≡ k → j.kind ≡ kind.Number m → m ≡ n
    same_number m j e h = let z : kind.Number m ≡ kind.Number n = sym h ∙ ap (λ (t : Token). t.kind) e ∙ hk in cc

    from_first : (ts : List Token) (ds es : List (ℕ × Deriv)) → ds ≡ out ++ es → First p (w ∷ k ∷ c ∷ (tree ++ s ∷ ts)) es → (fs : List (ℕ × Deriv)) × (ds ≡ (out ++ (n, d) ∷ []) ++ fs) × IsConditions n ts fs
    from_first ts ds es e f =
        let t = f.tokens in
        let number : f.number ≡ k = cc in
        let tails : f.tree ++ f.semicolon ∷ f.rest ≡ tree ++ s ∷ ts = cc in
        let m : f.n ≡ n = same_number f.n f.number number f.numbered in
        let z : (f.d ≡ d) × (f.rest ≡ ts) = alone f.tree f.d f.semicolon f.rest ts f.node f.ends tails in
        let head : (f.n, f.d) ∷ f.more ≡ (n, d) ∷ f.more = ap₂ (λ i j. (i, j) ∷ f.more) m z.0 in (
          f.more,
          e ∙ ap (λ i. out ++ i) (f.list ∙ head) ∙ sym (append_assoc out ((n, d) ∷ []) f.more),
          subst (λ i. IsConditions i ts f.more) m (subst (λ i. IsConditions f.n i f.more) z.1 f.others),
        )

    not_empty : (ts : List Token) → w ∷ ts ≡ [] → ⊥
    not_empty ts e = cc

    back : (ts : List Token) (ds : List (ℕ × Deriv)) → IsProofs ((front ++ w ∷ k ∷ c ∷ (tree ++ s ∷ [])) ++ ts) ds → (fs : List (ℕ × Deriv)) × (ds ≡ (out ++ (n, d) ∷ []) ++ fs) × IsConditions n ts fs
    back ts ds is =
        let (es, e, m) = so.only (w ∷ k ∷ c ∷ (tree ++ s ∷ ts)) ds (subst (λ z. IsProofs z ds) (shape ts) is) in
        elim (first_of p (w ∷ k ∷ c ∷ (tree ++ s ∷ ts)) es m) [
          | inl h ↦ absurd (not_empty (k ∷ c ∷ (tree ++ s ∷ ts)) h.0)
          | inr f ↦ from_first ts ds es e f
        ]

-- ---- refusals

-- where the tokens so far go on in some way, but not with the first token of rest
pub refuse : (front rest more : List Token) (ds : List (ℕ × Deriv)) → IsProofs (front ++ more) ds → All IsLexeme more
    → ((r : List Token) (y : List (ℕ × Deriv)) → IsProofs (front ++ r) y → peek r ≡ peek rest → ⊥) → FirstError IsLexeme IsText (front ++ rest) rest None
refuse front rest more ds is lexemes refuted = record {
  front = front;
  split = refl;
  at_token = at_token rest;
  completion = unmarked more;
  lexemes = subst (All IsLexeme) (sym (tokens_of-unmarked ⊥ more)) lexemes;
  value = ds;
  viable = subst (λ z. IsProofs z ds) (sym (tokens_of-append (unmarked front) (unmarked more) ∙ ap₂ (λ i j. i ++ j) (tokens_of-unmarked ⊥ front) (tokens_of-unmarked ⊥ more))) is;
  passes = λ p y r d e h. refuted r y (subst (λ z. IsProofs z y) e d) h;
}
  where
    at_token : (rest : List Token) → StandsAtToken {L = ⊥} None rest
    at_token [] = tt
    at_token (t ∷ rest) = tt

-- ---- the first token that is wrong in a condition

-- no token of the language is past a limit
unmarked_all : (p : Marked Token ⊥) → unmarked (tokens_of p) ≡ p
unmarked_all [] = refl
unmarked_all ((t, None) ∷ p) = ap (λ z. (t, None) ∷ z) (unmarked_all p)
unmarked_all ((t, Some w) ∷ p) = absurd w

-- some derivation, as tokens that a text can have
abbrev ANode : Type 0
ANode = (tree : List Token) × (d : Deriv) × IsNode tree d × All IsLexeme tree

a_node : ANode
a_node =
    let (p, d, x, l) = example nodes tables certified (ref (Node 4095)) refl in
    (tokens_of p, d, subst (λ z. Derives nodes (ref (Node 4095)) z d) (sym (unmarked_all p)) x, l)

sign_of : (c : ℕ) → nat_lt c 92 ≡ true → (t : Token) × (class t ≡ c) × IsLexeme t
sign_of c h = certified.lexeme c h

-- a condition after those so far
one_more : (p n : ℕ) (front : List Token) (out : List (ℕ × Deriv)) (w k c s : Token) (tree : List Token) (d : Deriv) → SoFar p front out
    → class w ≡ CONDITION → k.kind ≡ kind.Number n → p < n → n ≤ 16384 → class c ≡ COLON → IsNode tree d → class s ≡ SEMICOLON
    → IsProofs (front ++ w ∷ k ∷ c ∷ (tree ++ s ∷ [])) (out ++ (n, d) ∷ [])
one_more p n front out w k c s tree d so hw hk lo hi hc x hs = so.goes_on (w ∷ k ∷ c ∷ (tree ++ s ∷ [])) ((n, d) ∷ []) (one p n w k c s tree [] d [] hw hk lo hi hc x hs (none n))

-- a text that goes on so has a first condition there
first_from : (p : ℕ) (front : List Token) (out : List (ℕ × Deriv)) (w : Token) (mid r : List Token) (y : List (ℕ × Deriv)) → SoFar p front out
    → IsProofs ((front ++ w ∷ mid) ++ r) y → (es : List (ℕ × Deriv)) × First p (w ∷ (mid ++ r)) es
first_from p front out w mid r y so is =
    let (es, e, m) = so.only (w ∷ (mid ++ r)) y (subst (λ z. IsProofs z y) (append_assoc front (w ∷ mid) r) is) in
    elim (first_of p (w ∷ (mid ++ r)) es m) [ inl h ↦ absurd (not_empty (mid ++ r) h.0) | inr f ↦ (es, f) ]
  where
    not_empty : (ts : List Token) → w ∷ ts ≡ [] → ⊥
    not_empty ts e = cc

-- the first token after the word isn't the number of a further condition
abbrev NoNumber : ℕ → List Token → Type 0
NoNumber p rest = (t : Token) (n : ℕ) → peek rest ≡ Some t → t.kind ≡ kind.Number n → p < n → n ≤ 16384 → ⊥

abbrev NoClass : ℕ → List Token → Type 0
NoClass c rest = (t : Token) → peek rest ≡ Some t → class t ≡ c → ⊥

no_condition : (p : ℕ) (front : List Token) (out : List (ℕ × Deriv)) (t : Token) (rest : List Token) → SoFar p front out → ((n : ℕ) → class t ≡ CONDITION → p < n → n ≤ 16384 → ⊥)
    → FirstError IsLexeme IsText (front ++ t ∷ rest) (t ∷ rest) None
no_condition p front out t rest so bad = refuse front (t ∷ rest) [] out (subst (λ z. IsProofs z out) (sym (append-nil front)) (complete p front out so)) (All-nil IsLexeme) refuted
  where
    from : (r : List Token) (es : List (ℕ × Deriv)) → ((r ≡ []) × (es ≡ [])) ⊎ First p r es → peek r ≡ Some t → ⊥
    from r es (inl h) e = let z : None ≡ Some t = sym (ap peek h.0) ∙ e in cc
    from r es (inr f) e =
        let z : Some f.word ≡ Some t = sym (ap peek f.tokens) ∙ e in
        let same : f.word ≡ t = cc in bad f.n (subst (λ i. class i ≡ CONDITION) same f.begins) f.above f.within

    refuted : (r : List Token) (y : List (ℕ × Deriv)) → IsProofs (front ++ r) y → peek r ≡ Some t → ⊥
    refuted r y is e = let (es, d, m) = so.only r y is in from r es (first_of p r es m) e

-- after `condition`
no_number : (p : ℕ) (front : List Token) (out : List (ℕ × Deriv)) (w : Token) (rest : List Token) → SoFar p front out → class w ≡ CONDITION → p < 16384 → NoNumber p rest
    → FirstError IsLexeme IsText ((front ++ w ∷ []) ++ rest) rest None
no_number p front out w rest so hw lo bad =
    let (c, hc, lc) = sign_of COLON refl in
    let (s, hs, ls) = sign_of SEMICOLON refl in
    let (tree, d, x, lt) = a_node in
    let k : Token = record { kind = kind.Number (suc p); at = 0 } in
    let small : suc p < 2 ^ 32 = small_number p lo in
    refuse (front ++ w ∷ []) rest (k ∷ c ∷ (tree ++ s ∷ [])) (out ++ (suc p, d) ∷ [])
    (subst (λ z. IsProofs z (out ++ (suc p, d) ∷ [])) (sym (append_assoc front (w ∷ []) (k ∷ c ∷ (tree ++ s ∷ [])))) (one_more p (suc p) front out w k c s tree d so hw refl (omega arith) (omega arith) hc x hs))
    (All-cons IsLexeme k (c ∷ (tree ++ s ∷ [])) small (All-cons IsLexeme c (tree ++ s ∷ []) lc (All-append IsLexeme tree (s ∷ []) lt (All-cons IsLexeme s [] ls (All-nil IsLexeme)))))
    refuted
  where
    small_number : (p : ℕ) → p < 16384 → suc p < 2 ^ 32
    small_number p h = let z : 16385 < 2 ^ 32 = lit< tt in omega (arith, z)

    refuted : (r : List Token) (y : List (ℕ × Deriv)) → IsProofs ((front ++ w ∷ []) ++ r) y → peek r ≡ peek rest → ⊥
    refuted r y is e =
        let (es, f) = first_from p front out w [] r y so is in
        let t = f.tokens in
        let tails : r ≡ f.number ∷ f.colon ∷ (f.tree ++ f.semicolon ∷ f.rest) = cc in
        bad f.number f.n (sym e ∙ ap peek tails) f.numbered f.above f.within

-- after the number
no_colon : (p n : ℕ) (front : List Token) (out : List (ℕ × Deriv)) (w k : Token) (rest : List Token) → SoFar p front out → class w ≡ CONDITION → k.kind ≡ kind.Number n → p < n → n ≤ 16384
    → NoClass COLON rest → FirstError IsLexeme IsText ((front ++ w ∷ k ∷ []) ++ rest) rest None
no_colon p n front out w k rest so hw hk lo hi bad =
    let (c, hc, lc) = sign_of COLON refl in
    let (s, hs, ls) = sign_of SEMICOLON refl in
    let (tree, d, x, lt) = a_node in
    refuse (front ++ w ∷ k ∷ []) rest (c ∷ (tree ++ s ∷ [])) (out ++ (n, d) ∷ [])
    (subst (λ z. IsProofs z (out ++ (n, d) ∷ [])) (sym (append_assoc front (w ∷ k ∷ []) (c ∷ (tree ++ s ∷ [])))) (one_more p n front out w k c s tree d so hw hk lo hi hc x hs))
    (All-cons IsLexeme c (tree ++ s ∷ []) lc (All-append IsLexeme tree (s ∷ []) lt (All-cons IsLexeme s [] ls (All-nil IsLexeme))))
    refuted
  where
    refuted : (r : List Token) (y : List (ℕ × Deriv)) → IsProofs ((front ++ w ∷ k ∷ []) ++ r) y → peek r ≡ peek rest → ⊥
    refuted r y is e =
        let (es, f) = first_from p front out w (k ∷ []) r y so is in
        let t = f.tokens in
        let tails : r ≡ f.colon ∷ (f.tree ++ f.semicolon ∷ f.rest) = cc in bad f.colon (sym e ∙ ap peek tails) f.parts

-- in the derivation
no_tree : (p n : ℕ) (front : List Token) (out : List (ℕ × Deriv)) (w k c : Token) (s rest : List Token) → SoFar p front out → class w ≡ CONDITION → k.kind ≡ kind.Number n → p < n → n ≤ 16384
    → class c ≡ COLON → (u : Rejects nodes tables (ref (Node 4095)) s rest None) → FirstError IsLexeme IsText ((front ++ w ∷ k ∷ c ∷ u.front) ++ rest) rest None
no_tree p n front out w k c s rest so hw hk lo hi hc u =
    let (t, ht, lt) = sign_of SEMICOLON refl in
    let more : List Token = tokens_of u.completion in
    let x : IsNode (u.front ++ more) u.value =
    subst (λ z. Derives nodes (ref (Node 4095)) z u.value) (ap (λ z. unmarked u.front ++ z) (sym (unmarked_all u.completion)) ∙ sym (unmarked-append u.front more)) u.viable in
    refuse (front ++ w ∷ k ∷ c ∷ u.front) rest (more ++ t ∷ []) (out ++ (n, u.value) ∷ [])
    (subst (λ z. IsProofs z (out ++ (n, u.value) ∷ [])) (shape more t) (one_more p n front out w k c t (u.front ++ more) u.value so hw hk lo hi hc x ht))
    (All-append IsLexeme more (t ∷ []) u.lexemes (All-cons IsLexeme t [] lt (All-nil IsLexeme)))
    refuted
  where
    shape : (more : List Token) (t : Token) → front ++ w ∷ k ∷ c ∷ ((u.front ++ more) ++ t ∷ []) ≡ (front ++ w ∷ k ∷ c ∷ u.front) ++ (more ++ t ∷ [])
    shape more t = ap (λ z. front ++ w ∷ k ∷ c ∷ z) (append_assoc u.front more (t ∷ [])) ∙ sym (append_assoc front (w ∷ k ∷ c ∷ u.front) (more ++ t ∷ []))

    refuted : (r : List Token) (y : List (ℕ × Deriv)) → IsProofs ((front ++ w ∷ k ∷ c ∷ u.front) ++ r) y → peek r ≡ peek rest → ⊥
    refuted r y is e =
        let (es, f) = first_from p front out w (k ∷ c ∷ u.front) r y so is in
        let t = f.tokens in
        let tails : u.front ++ r ≡ f.tree ++ f.semicolon ∷ f.rest = cc in
        u.passes (unmarked f.tree) f.d (f.semicolon ∷ f.rest) r f.node (semicolon_stops f.semicolon f.ends) (ap (λ z. z ++ f.semicolon ∷ f.rest) (tokens_of-unmarked ⊥ f.tree) ∙ sym tails) e

-- after the derivation
no_semicolon : (p n : ℕ) (front : List Token) (out : List (ℕ × Deriv)) (w k c : Token) (s : List Token) (d : Deriv) (rest : List Token) → SoFar p front out → class w ≡ CONDITION → k.kind ≡ kind.Number n → p < n → n ≤ 16384
    → class c ≡ COLON → (u : Accepts nodes tables (ref (Node 4095)) s d rest) → NoClass SEMICOLON rest → FirstError IsLexeme IsText ((front ++ w ∷ k ∷ c ∷ u.front) ++ rest) rest None
no_semicolon p n front out w k c s d rest so hw hk lo hi hc u bad =
    let (t, ht, lt) = sign_of SEMICOLON refl in
    refuse (front ++ w ∷ k ∷ c ∷ u.front) rest (t ∷ []) (out ++ (n, d) ∷ [])
    (subst (λ z. IsProofs z (out ++ (n, d) ∷ [])) (sym (append_assoc front (w ∷ k ∷ c ∷ u.front) (t ∷ []))) (one_more p n front out w k c t u.front d so hw hk lo hi hc u.derived ht))
    (All-cons IsLexeme t [] lt (All-nil IsLexeme))
    refuted
  where
    refuted : (r : List Token) (y : List (ℕ × Deriv)) → IsProofs ((front ++ w ∷ k ∷ c ∷ u.front) ++ r) y → peek r ≡ peek rest → ⊥
    refuted r y is e =
        let (es, f) = first_from p front out w (k ∷ c ∷ u.front) r y so is in
        let t = f.tokens in
        let tails : u.front ++ r ≡ f.tree ++ f.semicolon ∷ f.rest = cc in
        let z : (unmarked {L = ⊥} f.tree ≡ unmarked u.front) × (f.d ≡ d) =
        u.unique (unmarked f.tree) f.d (f.semicolon ∷ f.rest) r f.node (semicolon_stops f.semicolon f.ends) (ap (λ z. z ++ f.semicolon ∷ f.rest) (tokens_of-unmarked ⊥ f.tree) ∙ sym tails) e in
        let same : f.tree ≡ u.front = sym (tokens_of-unmarked ⊥ f.tree) ∙ ap tokens_of z.0 ∙ tokens_of-unmarked ⊥ u.front in
        let left : r ≡ f.semicolon ∷ f.rest = append_cancel_left u.front r (f.semicolon ∷ f.rest) (tails ∙ ap (λ i. i ++ f.semicolon ∷ f.rest) same) in
        bad f.semicolon (sym e ∙ ap peek left) f.ends

-- ---- the heading

no_heading : (rest : List Token) → NoClass PROOFS rest → FirstError IsLexeme IsText rest rest None
no_heading rest bad =
    let (w, hw, lw) = sign_of PROOFS refl in
    let (s, hs, ls) = sign_of SEMICOLON refl in
    refuse [] rest (w ∷ one_token ∷ s ∷ []) [] (proofs w one_token s [] [] hw refl hs (none 0))
    (All-cons IsLexeme w (one_token ∷ s ∷ []) lw (All-cons IsLexeme one_token (s ∷ []) (lit< tt) (All-cons IsLexeme s [] ls (All-nil IsLexeme))))
    (λ r y is e. let h = heading_of r y is in bad h.word (sym e ∙ ap peek h.tokens) h.begins)
  where
    one_token : Token
    one_token = record { kind = kind.Number 1; at = 0 }

no_version : (w : Token) (rest : List Token) → class w ≡ PROOFS → ((t : Token) → peek rest ≡ Some t → t.kind ≡ kind.Number 1 → ⊥) → FirstError IsLexeme IsText (w ∷ rest) rest None
no_version w rest hw bad =
    let (s, hs, ls) = sign_of SEMICOLON refl in
    refuse (w ∷ []) rest (one_token ∷ s ∷ []) [] (proofs w one_token s [] [] hw refl hs (none 0)) (All-cons IsLexeme one_token (s ∷ []) (lit< tt) (All-cons IsLexeme s [] ls (All-nil IsLexeme)))
    (λ r y is e. let h = heading_of (w ∷ r) y is in let t = h.tokens in let z : r ≡ h.version ∷ h.semicolon ∷ h.rest = cc in bad h.version (sym e ∙ ap peek z) h.numbered)
  where
    one_token : Token
    one_token = record { kind = kind.Number 1; at = 0 }

no_end : (w v : Token) (rest : List Token) → class w ≡ PROOFS → v.kind ≡ kind.Number 1 → NoClass SEMICOLON rest → FirstError IsLexeme IsText (w ∷ v ∷ rest) rest None
no_end w v rest hw hv bad =
    let (s, hs, ls) = sign_of SEMICOLON refl in
    refuse (w ∷ v ∷ []) rest (s ∷ []) [] (proofs w v s [] [] hw hv hs (none 0)) (All-cons IsLexeme s [] ls (All-nil IsLexeme))
    (λ r y is e. let h = heading_of (w ∷ v ∷ r) y is in let t = h.tokens in let z : r ≡ h.semicolon ∷ h.rest = cc in bad h.semicolon (sym e ∙ ap peek z) h.ends)

-- ---- every list of tokens has an answer

abbrev pub Answer : List Token → Type 0
Answer s = ((ds : List (ℕ × Deriv)) × IsProofs s ds) ⊎ ((rest : List Token) × FirstError IsLexeme IsText s rest None)

refused : (s t rest : List Token) → t ≡ s → FirstError IsLexeme IsText t rest None → Answer s
refused s t rest e u = inr (rest, subst (λ z. FirstError IsLexeme IsText z rest None) e u)

-- conditions of fewer tokens have answers
abbrev Known : ℕ → Type 0
Known k = (p : ℕ) (front ts : List Token) (out : List (ℕ × Deriv)) → length ts ≤ k → SoFar p front out → Answer (front ++ ts)

class_of_some : (c : ℕ) (t : Token) (rest : List Token) → nat_eq (class t) c ≡ false → NoClass c (t ∷ rest)
class_of_some c t rest h u e f = let same : t ≡ u = cc in let z : nat_eq (class t) c ≡ true = rw (ap class same ∙ f) (eq_refl c) in both_ways (nat_eq (class t) c) z h

class_of_none : (c : ℕ) → NoClass c []
class_of_none c u e f = cc

module _ (k p n : ℕ) (front : List Token) (out : List (ℕ × Deriv)) (w j c : Token) (s : List Token) (known : Known k) (so : SoFar p front out)
    (hw : class w ≡ CONDITION) (hj : j.kind ≡ kind.Number n) (lo : p < n) (hi : n ≤ 16384) (hc : class c ≡ COLON) (short : length s ≤ k) where
  whole : (f left : List Token) → s ≡ f ++ left → (front ++ w ∷ j ∷ c ∷ f) ++ left ≡ front ++ w ∷ j ∷ c ∷ s
  whole f left e = append_assoc front (w ∷ j ∷ c ∷ f) left ∙ ap (λ z. front ++ w ∷ j ∷ c ∷ z) (sym e)

  fewer : (f rest : List Token) (t : Token) → s ≡ f ++ t ∷ rest → length rest ≤ k
  fewer f rest t e = omega (arith, short, ap length e, length-append f (t ∷ rest))

  after_tree : (d : Deriv) (left : List Token) (u : Accepts nodes tables (ref (Node 4095)) s d left) → Answer (front ++ w ∷ j ∷ c ∷ s)
  after_tree d [] u = refused _ _ [] (whole u.front [] u.split) (no_semicolon p n front out w j c s d [] so hw hj lo hi hc u (class_of_none SEMICOLON))
  after_tree d (t ∷ left) u = go (nat_eq (class t) SEMICOLON) refl
    where
      shape : (front ++ w ∷ j ∷ c ∷ (u.front ++ t ∷ [])) ++ left ≡ front ++ w ∷ j ∷ c ∷ s
      shape = append_assoc front (w ∷ j ∷ c ∷ (u.front ++ t ∷ [])) left ∙ ap (λ z. front ++ w ∷ j ∷ c ∷ z) (append_assoc u.front (t ∷ []) left ∙ sym u.split)

      go : (b : Bool) → nat_eq (class t) SEMICOLON ≡ b → Answer (front ++ w ∷ j ∷ c ∷ s)
      go false e = refused _ _ (t ∷ left) (whole u.front (t ∷ left) u.split) (no_semicolon p n front out w j c s d (t ∷ left) so hw hj lo hi hc u (class_of_some SEMICOLON t left e))
      go true e =
          let ht : class t ≡ SEMICOLON = eq_is _ _ e in
          subst Answer shape (known n (front ++ w ∷ j ∷ c ∷ (u.front ++ t ∷ [])) left (out ++ (n, d) ∷ []) (fewer u.front left t u.split)
          (after_condition p n front out w j c t u.front d so hw hj lo hi hc u.derived ht (λ a e t2 ra rb x h same. one_node a u.front ra rb t2 t e d x u.derived h ht same)))

  at_tree : Answer (front ++ w ∷ j ∷ c ∷ s)
  at_tree = go (read (Node 4095) s) (parse_exact nodes tables certified (Node 4095) s)
    where
      go : (a : Result (Deriv × List Token) (List Token × Option ⊥)) → IsParse nodes tables (ref (Node 4095)) s a → Answer (front ++ w ∷ j ∷ c ∷ s)
      go (Ok (d, left)) u = after_tree d left u
      go (Err (left, None)) u = refused _ _ left (whole u.front left u.split) (no_tree p n front out w j c s left so hw hj lo hi hc u)
      go (Err (left, Some x)) u = absurd x

module _ (k p n : ℕ) (front : List Token) (out : List (ℕ × Deriv)) (w j : Token) (known : Known k) (so : SoFar p front out)
    (hw : class w ≡ CONDITION) (hj : j.kind ≡ kind.Number n) (lo : p < n) (hi : n ≤ 16384) where
  at_colon : (ts : List Token) → length ts ≤ k → Answer (front ++ w ∷ j ∷ ts)
  at_colon [] short = refused _ _ [] (append_assoc front (w ∷ j ∷ []) []) (no_colon p n front out w j [] so hw hj lo hi (class_of_none COLON))
  at_colon (c ∷ s) short = go (nat_eq (class c) COLON) refl
    where
      go : (b : Bool) → nat_eq (class c) COLON ≡ b → Answer (front ++ w ∷ j ∷ c ∷ s)
      go true e = at_tree k p n front out w j c s known so hw hj lo hi (eq_is _ _ e) (omega (arith, short))
      go false e = refused _ _ (c ∷ s) (append_assoc front (w ∷ j ∷ []) (c ∷ s)) (no_colon p n front out w j (c ∷ s) so hw hj lo hi (class_of_some COLON c s e))

-- a token is a number, or none
number_or_not : (k : Kind) → ((n : ℕ) × (k ≡ kind.Number n)) ⊎ ((n : ℕ) → k ≡ kind.Number n → ⊥)
number_or_not (kind.Number n) = inl (n, refl)
number_or_not (kind.Name x) = inr (λ n e. cc)
number_or_not (kind.Word i) = inr (λ n e. cc)
number_or_not (kind.Fresh i) = inr (λ n e. cc)

module _ (k p : ℕ) (front : List Token) (out : List (ℕ × Deriv)) (w : Token) (known : Known k) (so : SoFar p front out) (hw : class w ≡ CONDITION) (room : p < 16384) where
  number_refused : (rest : List Token) → NoNumber p rest → Answer (front ++ w ∷ rest)
  number_refused rest bad = refused _ _ rest (append_assoc front (w ∷ []) rest) (no_number p front out w rest so hw room bad)

  at_number : (ts : List Token) → length ts ≤ k → Answer (front ++ w ∷ ts)
  at_number [] short = number_refused [] (λ t n e i lo hi. cc)
  at_number (j ∷ ts) short = elim (number_or_not j.kind) [ inl h ↦ numbered h.0 h.1 | inr h ↦ number_refused (j ∷ ts) (λ t n e i lo hi. other t n h e i) ]
    where
      other : (t : Token) (n : ℕ) → ((n : ℕ) → j.kind ≡ kind.Number n → ⊥) → Some j ≡ Some t → t.kind ≡ kind.Number n → ⊥
      other t n h e i = let same : j ≡ t = cc in h n (ap (λ (z : Token). z.kind) same ∙ i)

      equal : (t : Token) (n m : ℕ) → j.kind ≡ kind.Number n → Some j ≡ Some t → t.kind ≡ kind.Number m → n ≡ m
      equal t n m h e i = let same : j ≡ t = cc in let z : kind.Number n ≡ kind.Number m = sym h ∙ ap (λ (z : Token). z.kind) same ∙ i in cc

      out_of_range : (n : ℕ) → j.kind ≡ kind.Number n → (p < n → n ≤ 16384 → ⊥) → Answer (front ++ w ∷ j ∷ ts)
      out_of_range n h bad = number_refused (j ∷ ts) (λ t m e i lo hi. let z = equal t n m h e i in bad (omega (arith, z, lo)) (omega (arith, z, hi)))

      numbered : (n : ℕ) → j.kind ≡ kind.Number n → Answer (front ++ w ∷ j ∷ ts)
      numbered n h = go (nat_lt p n) (nat_lt 16384 n) refl refl
        where
          go : (a b : Bool) → nat_lt p n ≡ a → nat_lt 16384 n ≡ b → Answer (front ++ w ∷ j ∷ ts)
          go false b e f = out_of_range n h (λ lo hi. let z : n ≤ p = grind (arith, nat_tests) in absurd (omega arith))
          go true true e f = out_of_range n h (λ lo hi. let z : 16384 < n = ltb-true _ _ f in absurd (omega arith))
          go true false e f = let hi : n ≤ 16384 = grind (arith, nat_tests) in at_colon k p n front out w j known so hw h (ltb-true _ _ e) hi ts (omega (arith, short))

none_left : (p : ℕ) → p < 16384 → nat_lt p 16384 ≡ false → ⊥
none_left p l f = let z : 16384 ≤ p = grind (arith, nat_tests) in omega arith

-- where the next token isn't known to begin a condition
at_condition : (k p : ℕ) (front : List Token) (w : Token) (ts : List Token) (out : List (ℕ × Deriv)) → Known k → length ts ≤ k → SoFar p front out → Answer (front ++ w ∷ ts)
at_condition k p front w ts out known short so = go (nat_eq (class w) CONDITION) (nat_lt p 16384) refl refl
  where
    go : (a b : Bool) → nat_eq (class w) CONDITION ≡ a → nat_lt p 16384 ≡ b → Answer (front ++ w ∷ ts)
    go false b e f = inr ((w ∷ ts), no_condition p front out w ts so (λ n c lo hi. both_ways (nat_eq (class w) CONDITION) (rw c refl) e))
    go true false e f = inr ((w ∷ ts), no_condition p front out w ts so (λ n c lo hi. none_left p (omega arith) f))
    go true true e f = at_number k p front out w known so (eq_is _ _ e) (ltb-true _ _ f) ts short

conditions_answer : (k : ℕ) → Known k
conditions_answer k p front [] out h so = inl (out, subst (λ z. IsProofs z out) (sym (append-nil front)) (complete p front out so))
conditions_answer zero p front (w ∷ ts) out h so = absurd (omega (arith, h))
conditions_answer (suc k) p front (w ∷ ts) out h so = at_condition k p front w ts out (conditions_answer k) (omega (arith, h)) so

module _ (w : Token) (hw : class w ≡ PROOFS) where
  at_end : (v : Token) (ts : List Token) → v.kind ≡ kind.Number 1 → Answer (w ∷ v ∷ ts)
  at_end v [] hv = inr ([], no_end w v [] hw hv (class_of_none SEMICOLON))
  at_end v (s ∷ ts) hv = go (nat_eq (class s) SEMICOLON) refl
    where
      go : (b : Bool) → nat_eq (class s) SEMICOLON ≡ b → Answer (w ∷ v ∷ s ∷ ts)
      go true e = conditions_answer (length ts) 0 (w ∷ v ∷ s ∷ []) ts [] (omega arith) (after_heading w v s hw hv (eq_is _ _ e))
      go false e = inr ((s ∷ ts), no_end w v (s ∷ ts) hw hv (class_of_some SEMICOLON s ts e))

  at_version : (ts : List Token) → Answer (w ∷ ts)
  at_version [] = inr ([], no_version w [] hw (λ t e i. cc))
  at_version (v ∷ ts) = elim (number_or_not v.kind) [ inl h ↦ numbered h.0 h.1 | inr h ↦ inr ((v ∷ ts), no_version w (v ∷ ts) hw (λ t e i. let same : v ≡ t = cc in h 1 (ap (λ (z : Token). z.kind) same ∙ i))) ]
    where
      other : (n : ℕ) → v.kind ≡ kind.Number n → (n ≡ 1 → ⊥) → (t : Token) → Some v ≡ Some t → t.kind ≡ kind.Number 1 → ⊥
      other n h bad t e i = let same : v ≡ t = cc in let z : kind.Number n ≡ kind.Number 1 = sym h ∙ ap (λ (z : Token). z.kind) same ∙ i in bad (cc)

      numbered : (n : ℕ) → v.kind ≡ kind.Number n → Answer (w ∷ v ∷ ts)
      numbered n h = go (nat_eq n 1) refl
        where
          go : (b : Bool) → nat_eq n 1 ≡ b → Answer (w ∷ v ∷ ts)
          go true e = at_end v ts (h ∙ ap (λ z. kind.Number z) (eq_is _ _ e))
          go false e = inr ((v ∷ ts), no_version w (v ∷ ts) hw (other n h (λ z. both_ways (nat_eq n 1) (rw z refl) e)))

-- tokens are a proof text, or have a first wrong one
pub an_answer : (ts : List Token) → Answer ts
an_answer [] = inr ([], no_heading [] (class_of_none PROOFS))
an_answer (w ∷ ts) = go (nat_eq (class w) PROOFS) refl
  where
    go : (b : Bool) → nat_eq (class w) PROOFS ≡ b → Answer (w ∷ ts)
    go true e = at_version w (eq_is _ _ e) ts
    go false e = inr ((w ∷ ts), no_heading (w ∷ ts) (class_of_some PROOFS w ts e))
