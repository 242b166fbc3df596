-- A text is a proof text, or is bad at a place.
use Rattle.std.proofs.Common.{◌≡◌, ℕ, length, List, [], ◌∷◌, ◌++◌, Option, Some, None, refl, ap, sym, ◌∙◌, subst, ◌⊎◌, inl, inr, append-nil}
use Rattle.std.proofs.lemmas.List.Elements.{All-nil}
use Rattle.bed_grammar.specs.Grammar.{tokens_of, unmarked}
use Rattle.bed_grammar.specs.Exact.{FirstError}
use Rattle.bed_grammar.proofs.Sets.{tokens_of-unmarked, tokens_of-append}
use Rattle.bed_lex.specs.declared.token.Token.{Token}
use Rattle.bed_lex.specs.declared.token.LexError.{LexError}
use Rattle.bed_deriv.specs.declared.derivation.Deriv.{Deriv}
use Rattle.bed_proof_lex.specs.Tokens.{ProofLexed}
use Rattle.bed_proof_text.specs.Classes.{IsLexeme}
use Rattle.bed_proof_text.specs.Texts.{IsProofs, IsProofText, IsBadAt, IsText, BeginsProofs, fault_place, HasAnswer}
use Rattle.bed_proof_text.proofs.Outcomes.{Answer, an_answer}

whole_begins : (ts : List Token) (ds : List (ℕ × Deriv)) → IsProofs ts ds → BeginsProofs ts
whole_begins ts ds is = ([], All-nil IsLexeme, (ds, subst (λ z. IsProofs z ds) (sym (append-nil ts)) is))

-- tokens that end too early begin a proof text
early_begins : (ts : List Token) → FirstError IsLexeme IsText ts [] None → BeginsProofs ts
early_begins ts u =
    let e : u.front ≡ ts = sym (u.split ∙ append-nil u.front) in (
      tokens_of u.completion,
      u.lexemes,
      (u.value, subst (λ z. IsProofs z u.value) (tokens_of-append (unmarked u.front) u.completion ∙ ap (λ z. z ++ tokens_of u.completion) (tokens_of-unmarked ⊥ u.front ∙ e)) u.viable),
    )

pub text_answer : (text : List ℕ) → HasAnswer text
text_answer text ts o l = go o l (an_answer ts)
  where
    go : (o : Option LexError) → ProofLexed 0 text ts o → Answer ts → ((ds : List (ℕ × Deriv)) × IsProofText text ds) ⊎ ((at : ℕ) × IsBadAt text at)
    go None l (inl (ds, is)) = inl (ds, (ts, l, is))
    go None l (inr ([], u)) = inr (length text, inr (ts, None, [], l, tt, refl, u))
    go None l (inr (t ∷ rest, u)) = inr (t.at, inr (ts, None, (t ∷ rest), l, tt, refl, u))
    go (Some x) l (inl (ds, is)) = inr (fault_place x, inl (ts, x, l, refl, whole_begins ts ds is))
    go (Some x) l (inr ([], u)) = inr (fault_place x, inl (ts, x, l, refl, early_begins ts u))
    go (Some x) l (inr (t ∷ rest, u)) = inr (t.at, inr (ts, Some x, (t ∷ rest), l, tt, refl, u))
