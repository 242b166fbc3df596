-- A text is the proof text of one list of derivations at most, and of none where it is bad; it is bad at one place at most.
use Rattle.std.proofs.Common.{◌≡◌, ℕ, length, false, List, [], ◌∷◌, ◌++◌, Option, Some, None, Result, Ok, Err, refl, ap, ap₂, sym, ◌∙◌, subst, inl, inr}
use Rattle.std.proofs.lemmas.List.{append_cancel_left}
use Rattle.bed_grammar.specs.Grammar.{ref, tokens_of, unmarked}
use Rattle.bed_grammar.specs.Exact.{FirstError}
use Rattle.bed_grammar.specs.Tables.{has, follow_last}
use Rattle.bed_grammar.specs.Parsing.{Accepts, Rejects, IsParse}
use Rattle.bed_grammar.proofs.Sets.{tokens_of-unmarked, tokens_of-append}
use Rattle.bed_grammar.proofs.Parsing.{parse_exact}
use Rattle.bed_grammar.proofs.Refusals.{one_first_error, refused_before}
use Rattle.bed_lex.specs.declared.token.Token.{Token}
use Rattle.bed_lex.specs.declared.token.Kind.TheVariants as kind
use Rattle.bed_lex.specs.declared.token.LexError.{LexError}
use Rattle.bed_deriv.specs.declared.derivation.Deriv.{Deriv}
use Rattle.bed_proof_lex.proofs.ScanLemmas.{one_scan}
use Rattle.bed_proof_text.specs.Classes.{class, IsLexeme, SEMICOLON}
use Rattle.bed_proof_text.specs.Written.{Node, nodes}
use Rattle.bed_proof_text.specs.Tables.{tables, read}
use Rattle.bed_proof_text.specs.Texts.{IsNode, IsConditions, none, one, IsProofs, proofs, IsText, BeginsProofs, place, fault_place, IsFirstFault, IsBeforeFault, IsFirstWrong, OneList, IsNotBad, OnePlace}
use Rattle.bed_proof_text.proofs.Certificate.{certified}

-- no refusal passes a limit, as there is none
no_limit : {A : Type 0} → ⊥ → A
no_limit x = absurd x

-- where a derivation is followed by a token that can't continue it, reading gives it, and the rest
pub reads_node : (tree rest : List Token) (t : Token) (d : Deriv) → IsNode tree d → has (follow_last nodes tables (ref (Node 4095))) (class t) ≡ false
    → read (Node 4095) (tree ++ t ∷ rest) ≡ Ok (d, t ∷ rest)
reads_node tree rest t d is stops = go (read (Node 4095) (tree ++ t ∷ rest)) refl (parse_exact nodes tables certified (Node 4095) (tree ++ t ∷ rest))
  where
    same : tokens_of (unmarked {L = ⊥} tree) ++ t ∷ rest ≡ tree ++ t ∷ rest
    same = ap (λ z. z ++ t ∷ rest) (tokens_of-unmarked ⊥ tree)

    accepted : (v : Deriv) (left : List Token) (u : Accepts nodes tables (ref (Node 4095)) (tree ++ t ∷ rest) v left) → ◌≡◌ {A = Deriv × List Token} (v, left) (d, t ∷ rest)
    accepted v left u =
        let z : (unmarked {L = ⊥} tree ≡ unmarked u.front) × (d ≡ v) = u.unique (unmarked tree) d (t ∷ rest) left is stops (same ∙ u.split) refl in
        let f : tree ≡ u.front = sym (tokens_of-unmarked ⊥ tree) ∙ ap tokens_of z.0 ∙ tokens_of-unmarked ⊥ u.front in
        let k : u.front ++ left ≡ u.front ++ t ∷ rest = sym u.split ∙ ap (λ i. i ++ t ∷ rest) f in
        ap₂ (λ i j. (i, j)) (sym z.1) (append_cancel_left u.front left (t ∷ rest) k)

    rejected : (left : List Token) (w : Option ⊥) → Rejects nodes tables (ref (Node 4095)) (tree ++ t ∷ rest) left w → ⊥
    rejected left None u = u.passes (unmarked tree) d (t ∷ rest) left is stops (same ∙ u.split) refl
    rejected left (Some w) u = w

    go : (a : Result (Deriv × List Token) (List Token × Option ⊥)) → read (Node 4095) (tree ++ t ∷ rest) ≡ a → IsParse nodes tables (ref (Node 4095)) (tree ++ t ∷ rest) a → a ≡ Ok (d, t ∷ rest)
    go (Ok x) e u = ap Ok (accepted x.0 x.1 u)
    go (Err x) e u = absurd (rejected x.0 x.1 u)

pub semicolon_stops : (t : Token) → class t ≡ SEMICOLON → has (follow_last nodes tables (ref (Node 4095))) (class t) ≡ false
semicolon_stops t h = rw h refl

ok_value : (x y : Deriv × List Token) → ◌≡◌ {A = Result (Deriv × List Token) (List Token × Option ⊥)} (Ok x) (Ok y) → x ≡ y
ok_value x y h = cc

same_rest : (s t : Token) (ra rb : List Token) → s ∷ ra ≡ t ∷ rb → ra ≡ rb
same_rest s t ra rb h = cc

-- a derivation that a `;` follows is one, and ends there
pub one_node : (a b ra rb : List Token) (s t : Token) (d e : Deriv) → IsNode a d → IsNode b e → class s ≡ SEMICOLON → class t ≡ SEMICOLON → a ++ s ∷ ra ≡ b ++ t ∷ rb → (d ≡ e) × (ra ≡ rb)
one_node a b ra rb s t d e x y hs ht same =
    let first : read (Node 4095) (a ++ s ∷ ra) ≡ Ok (d, s ∷ ra) = reads_node a ra s d x (semicolon_stops s hs) in
    let second : read (Node 4095) (b ++ t ∷ rb) ≡ Ok (e, t ∷ rb) = reads_node b rb t e y (semicolon_stops t ht) in
    let both : ◌≡◌ {A = Deriv × List Token} (d, s ∷ ra) (e, t ∷ rb) = ok_value (d, s ∷ ra) (e, t ∷ rb) (sym first ∙ ap (read (Node 4095)) same ∙ second) in
    (ap (λ z. z.0) both, same_rest s t ra rb (ap (λ z. z.1) both))

pub one_conditions : (p : ℕ) (ts us : List Token) (ds es : List (ℕ × Deriv)) → ts ≡ us → IsConditions p ts ds → IsConditions p us es → ds ≡ es
one_conditions p _ _ _ _ e (none _) (none _) = refl
one_conditions p _ _ _ _ e (none _) (one _ m x j c t b rb f fs hx hj lo hi hc y ht more) = absurd (cc)
one_conditions p _ _ _ _ e (one _ n w k k2 s a ra d ds hw hk lo hi hk2 x hs more) (none _) = absurd (cc)
one_conditions p _ _ _ _ e (one _ n w k k2 s a ra d ds hw hk lo hi hk2 x hs more) (one _ m w2 j j2 t b rb f fs hw2 hj lo2 hi2 hj2 y ht more2) =
    let tokens : k ≡ j = cc in
    let tails : a ++ s ∷ ra ≡ b ++ t ∷ rb = cc in
    let numbers : n ≡ m = same_number n m k j tokens hk hj in
    let node : (d ≡ f) × (ra ≡ rb) = one_node a b ra rb s t d f x y hs ht tails in
    let rest : ds ≡ fs = one_conditions n ra rb ds fs node.1 more (subst (λ z. IsConditions z rb fs) (sym numbers) more2) in
    ap₂ (λ i j. i ∷ j) (ap₂ (λ i j. (i, j)) numbers node.0) rest
  where
    same_number : (n m : ℕ) (k j : Token) → k ≡ j → k.kind ≡ kind.Number n → j.kind ≡ kind.Number m → n ≡ m
    same_number n m k j e h i = let z : kind.Number n ≡ kind.Number m = sym h ∙ ap (λ (t : Token). t.kind) e ∙ i in cc

pub one_proofs : (ts us : List Token) (ds es : List (ℕ × Deriv)) → ts ≡ us → IsProofs ts ds → IsProofs us es → ds ≡ es
one_proofs _ _ ds es e (proofs w v s rest _ hw hv hs more) (proofs w2 v2 s2 rest2 _ hw2 hv2 hs2 more2) =
    let rests : rest ≡ rest2 = cc in one_conditions 0 rest rest2 ds es rests more more2

pub one_list : (text : List ℕ) → OneList text
one_list text ds es (ts, lexed, is) (us, again, also) = one_proofs ts us ds es (one_scan 0 text ts us None None lexed again).0 is also

-- tokens without marks, and some more
tokens_with : (ts more : List Token) → tokens_of (unmarked {L = ⊥} ts ++ unmarked more) ≡ ts ++ more
tokens_with ts more = tokens_of-append (unmarked ts) (unmarked more) ∙ ap₂ (λ i j. i ++ j) (tokens_of-unmarked ⊥ ts) (tokens_of-unmarked ⊥ more)

as_text : (ts : List Token) (ds : List (ℕ × Deriv)) → IsProofs ts ds → IsText (unmarked ts) ds
as_text ts ds is = subst (λ z. IsProofs z ds) (sym (tokens_of-unmarked ⊥ ts)) is

-- a proof text has no first error
no_error : (ts rest : List Token) (ds : List (ℕ × Deriv)) → IsProofs ts ds → FirstError IsLexeme IsText ts rest None → ⊥
no_error ts rest ds is u = u.passes (unmarked ts) ds rest (as_text ts ds is) (tokens_of-unmarked ⊥ ts ∙ u.split) refl

pub not_bad : (text : List ℕ) → IsNotBad text
not_bad text ds at (ts, lexed, is) (inl (us, e, again, p, b)) = let z : None ≡ Some e = (one_scan 0 text ts us None (Some e) lexed again).1 in cc
not_bad text ds at (ts, lexed, is) (inr (us, o, rest, again, before, p, u)) =
    let same : ts ≡ us = (one_scan 0 text ts us None o lexed again).0 in no_error us rest ds (subst (λ z. IsProofs z ds) same is) u

-- where the tokens before a fault begin a proof text, none of them is wrong
none_wrong : (ts rest : List Token) (e : LexError) → BeginsProofs ts → IsBeforeFault rest (Some e) → FirstError IsLexeme IsText ts rest None → ⊥
none_wrong ts [] e b h u = h
none_wrong ts (t ∷ rest) e (more, lexemes, (ds, d)) h u =
    refused_before IsLexeme IsText ts (t ∷ rest) None u t rest rest (unmarked more) ds refl
    (subst (λ z. IsProofs z ds) (sym (tokens_with (u.front ++ t ∷ rest) more)) (subst (λ z. IsProofs (z ++ more) ds) u.split d))

not_both : (text : List ℕ) (at other : ℕ) → IsFirstFault text at → IsFirstWrong text other → ⊥
not_both text at other (ts, e, l, p, b) (us, o, rest, k, before, q, u) =
    let same : ts ≡ us = (one_scan 0 text ts us (Some e) o l k).0 in
    let is : Some e ≡ o = (one_scan 0 text ts us (Some e) o l k).1 in
    none_wrong us rest e (subst (λ z. BeginsProofs z) same b) (subst (λ z. IsBeforeFault rest z) (sym is) before) u

pub one_place : (text : List ℕ) → OnePlace text
one_place text at other (inl (ts, e, l, p, b)) (inl (us, f, k, q, c)) =
    let is : Some e ≡ Some f = (one_scan 0 text ts us (Some e) (Some f) l k).1 in
    let same : e ≡ f = cc in p ∙ ap fault_place same ∙ sym q
one_place text at other (inl x) (inr y) = absurd (not_both text at other x y)
one_place text at other (inr x) (inl y) = absurd (not_both text other at y x)
one_place text at other (inr (ts, o, rest, l, before, p, u)) (inr (us, f, left, k, after, q, v)) =
    let same : ts ≡ us = (one_scan 0 text ts us o f l k).0 in
    let one = one_first_error IsLexeme IsText us rest left None None (subst (λ s. FirstError IsLexeme IsText s rest None) same u) v in
    p ∙ ap (place (length text)) one.0 ∙ sym q
