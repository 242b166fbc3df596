-- One step of the scan: what was read so far goes on with what stands at the front of the rest.
use Rattle.std.proofs.Common.{◌≡◌, ℕ, ◌+◌, ◌-◌, ◌≤◌, List, [], ◌∷◌, ◌++◌, Option, Some, None, refl, ap, sym, ◌∙◌, subst, append_assoc, append-nil, length, take, drop, length-drop, arith}
use Rattle.std.proofs.lemmas.Grind.{common_steps}
use Rattle.bed_lex.specs.declared.token.Token.{Token}
use Rattle.bed_lex.specs.declared.token.LexError.{LexError}
use Rattle.bed_proof_lex.specs.declared.piece.Piece.{Piece}
use Rattle.bed_proof_lex.specs.declared.piece.Piece.TheVariants as piece
use Rattle.bed_proof_lex.specs.Tokens.{piece_at, ProofLexed, stops, blanks, token}

rest_is : (t : List ℕ) (at : ℕ) → take (length t - at) (drop at t) ≡ drop at t
rest_is t at = grind (arith, common_steps)

further : (t : List ℕ) (at n : ℕ) → drop n (drop at t) ≡ drop (at + n) t
further t at n = grind (arith, common_steps)

here : (t : List ℕ) (at : ℕ) (p : Piece) → p ≡ piece_at at (take (length t - at) (drop at t)) → piece_at at (drop at t) ≡ p
here t at p h = sym (ap (piece_at at) (rest_is t at)) ∙ sym h

pub fits : (t : List ℕ) (at n : ℕ) → at ≤ length t → n ≤ length (take (length t - at) (drop at t)) → at + n ≤ length t
fits t at n h k = omega (arith, ap length (rest_is t at), length-drop at t)

-- what the tokens so far are for the whole text
abbrev pub SoFar : List ℕ → ℕ → List Token → Type 0
SoFar t at out = (ts : List Token) (e : Option LexError) → ProofLexed at (drop at t) ts e → ProofLexed 0 t (out ++ ts) e

pub at_stop : (t : List ℕ) (at : ℕ) (out : List Token) (e : Option LexError) → SoFar t at out → piece.Stop e ≡ piece_at at (take (length t - at) (drop at t)) → ProofLexed 0 t out e
at_stop t at out e s h = subst (λ z. ProofLexed 0 t z e) (append-nil out) (s [] e (stops at (drop at t) e (here t at (piece.Stop e) h)))

pub at_blank : (t : List ℕ) (at n : ℕ) (out : List Token) → SoFar t at out → piece.Blank n ≡ piece_at at (take (length t - at) (drop at t)) → SoFar t (at + n) out
at_blank t at n out s h ts e l = s ts e (blanks at n (drop at t) ts e (here t at (piece.Blank n) h) (subst (λ z. ProofLexed (at + n) z ts e) (sym (further t at n)) l))

pub at_token : (t : List ℕ) (at n : ℕ) (k : Token) (out pushed : List Token) → SoFar t at out → piece.Token k n ≡ piece_at at (take (length t - at) (drop at t)) → pushed ≡ out ++ k ∷ [] → SoFar t (at + n) pushed
at_token t at n k out pushed s h p ts e l =
    subst (λ z. ProofLexed 0 t (z ++ ts) e) (sym p) (subst (λ z. ProofLexed 0 t z e) (sym (append_assoc out (k ∷ []) ts))
    (s (k ∷ ts) e (token at n (drop at t) k ts e (here t at (piece.Token k n) h) (subst (λ z. ProofLexed (at + n) z ts e) (sym (further t at n)) l))))

-- a text has one list of tokens, and one first place that stands in none
pub one_scan : (at : ℕ) (t : List ℕ) (ts us : List Token) (e f : Option LexError) → ProofLexed at t ts e → ProofLexed at t us f → (ts ≡ us) × (e ≡ f)
one_scan at t ts us e f (stops _ _ _ h) (stops _ _ _ k) = let same : e ≡ f = cc in (refl, same)
one_scan at t ts us e f (stops _ _ _ h) (blanks _ m _ _ _ k d) = absurd (cc)
one_scan at t ts us e f (stops _ _ _ h) (token _ m _ u _ _ k d) = absurd (cc)
one_scan at t ts us e f (blanks _ n _ _ _ h c) (stops _ _ _ k) = absurd (cc)
one_scan at t ts us e f (blanks _ n _ _ _ h c) (blanks _ m _ _ _ k d) =
    let same : n ≡ m = cc in one_scan (at + n) (drop n t) ts us e f c (subst (λ i. ProofLexed (at + i) (drop i t) us f) (sym same) d)
one_scan at t ts us e f (blanks _ n _ _ _ h c) (token _ m _ u _ _ k d) = absurd (cc)
one_scan at t ts us e f (token _ n _ x _ _ h c) (stops _ _ _ k) = absurd (cc)
one_scan at t ts us e f (token _ n _ x _ _ h c) (blanks _ m _ _ _ k d) = absurd (cc)
one_scan at t ts us e f (token _ n _ x rs _ h c) (token _ m _ u ss _ k d) =
    let same : n ≡ m = cc in
    let tokens : x ≡ u = cc in
    let rest = one_scan (at + n) (drop n t) rs ss e f c (subst (λ i. ProofLexed (at + i) (drop i t) ss f) (sym same) d) in
    let lists : rs ≡ ss = rest.0 in (cc, rest.1)
