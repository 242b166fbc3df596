-- Proof texts: the derivations of conditions, each with the number of its condition.
--   proofs = "proofs" "1" ";" ("condition" number ":" node ";")*
use Rattle.std.specs.Prelude.{◌≡◌, ℕ, ◌<◌, ◌≤◌, length, List, [], ◌∷◌, ◌++◌, Option, Some, None, All, ◌⊎◌}
use Rattle.bed_grammar.specs.Grammar.{ref, Marked, Derives, tokens_of, unmarked}
use Rattle.bed_grammar.specs.Exact.{FirstError}
use Rattle.bed_lex.specs.declared.token.Token.{Token}
use Rattle.bed_lex.specs.declared.token.Kind.TheVariants as kind
use Rattle.bed_lex.specs.declared.token.LexError.{LexError}
use Rattle.bed_lex.specs.declared.token.LexError.TheVariants as fault
use Rattle.bed_deriv.specs.declared.derivation.Deriv.{Deriv}
use Rattle.bed_proof_lex.specs.Tokens.{ProofLexed}
use Rattle.bed_proof_text.specs.Classes.{class, IsLexeme, PROOFS, CONDITION, COLON, SEMICOLON}
use Rattle.bed_proof_text.specs.Written.{Node, nodes}

-- the tokens are a derivation, in which at most 4096 nodes are nested
abbrev pub IsNode : List Token → Deriv → Type 0
IsNode ts d = Derives nodes (ref (Node 4095)) (unmarked ts) d

-- The tokens are the derivations of conditions with these numbers, which rise from above p, and are at most 16384.
pub data IsConditions : ℕ → List Token → List (ℕ × Deriv) → Type 0 where
  none : (p : ℕ) → IsConditions p [] []
  one : (p n : ℕ) (word number colon semicolon : Token) (tree rest : List Token) (d : Deriv) (ds : List (ℕ × Deriv))
      → class word ≡ CONDITION → number.kind ≡ kind.Number n → p < n → n ≤ 16384 → class colon ≡ COLON → IsNode tree d → class semicolon ≡ SEMICOLON
      → IsConditions n rest ds → IsConditions p (word ∷ number ∷ colon ∷ (tree ++ semicolon ∷ rest)) ((n, d) ∷ ds)

-- The tokens are a proof text with these derivations.
pub data IsProofs : List Token → List (ℕ × Deriv) → Type 0 where
  proofs : (word version semicolon : Token) (rest : List Token) (ds : List (ℕ × Deriv)) → class word ≡ PROOFS → version.kind ≡ kind.Number 1 → class semicolon ≡ SEMICOLON
      → IsConditions 0 rest ds → IsProofs (word ∷ version ∷ semicolon ∷ rest) ds

-- the text has tokens that are a proof text with these derivations
abbrev pub IsProofText : List ℕ → List (ℕ × Deriv) → Type 0
IsProofText text ds = (ts : List Token) × ProofLexed 0 text ts None × IsProofs ts ds

-- the same for tokens with marks, of which this language has none
abbrev pub IsText : Marked Token ⊥ → List (ℕ × Deriv) → Type 0
IsText p ds = IsProofs (tokens_of p) ds

-- some proof text begins with these tokens
abbrev pub BeginsProofs : List Token → Type 0
BeginsProofs ts = (more : List Token) × All IsLexeme more × ((ds : List (ℕ × Deriv)) × IsProofs (ts ++ more) ds)

-- the place of the next token, or the end
abbrev pub place : ℕ → List Token → ℕ
place end [] = end
place end (t ∷ ts) = t.at

-- the place of a fault
abbrev pub fault_place : LexError → ℕ
fault_place (fault.BadByte at) = at
fault_place (fault.Number at) = at
fault_place (fault.LongName at) = at
fault_place fault.Memory = 0

-- The text has a token at this place that is none of the language, and some proof text begins with the tokens before it.
abbrev pub IsFirstFault : List ℕ → ℕ → Type 0
IsFirstFault text at = (ts : List Token) × (e : LexError) × ProofLexed 0 text ts (Some e) × (at ≡ fault_place e) × BeginsProofs ts

-- a refusal is at a token, or the text has no fault at which it would stop before its end
abbrev pub IsBeforeFault : List Token → Option LexError → Type 0
IsBeforeFault (t ∷ rest) e = Unit {0}
IsBeforeFault [] None = Unit {0}
IsBeforeFault [] (Some e) = ⊥

-- At this place stands the first token such that no proof text begins with the tokens up to it, or the text's end, where it
-- ends too early.
abbrev pub IsFirstWrong : List ℕ → ℕ → Type 0
IsFirstWrong text at = (ts : List Token) × (e : Option LexError) × (rest : List Token)
    × ProofLexed 0 text ts e × IsBeforeFault rest e × (at ≡ place (length text) rest) × FirstError IsLexeme IsText ts rest None

-- the text is no proof text, and this is where
abbrev pub IsBadAt : List ℕ → ℕ → Type 0
IsBadAt text at = IsFirstFault text at ⊎ IsFirstWrong text at

-- a text is the proof text of one list of derivations at most
abbrev pub OneList : List ℕ → Type 0
OneList text = (ds es : List (ℕ × Deriv)) → IsProofText text ds → IsProofText text es → ds ≡ es

-- and of none where it is bad
abbrev pub IsNotBad : List ℕ → Type 0
IsNotBad text = (ds : List (ℕ × Deriv)) (at : ℕ) → IsProofText text ds → IsBadAt text at → ⊥

-- a text is bad at one place at most
abbrev pub OnePlace : List ℕ → Type 0
OnePlace text = (at other : ℕ) → IsBadAt text at → IsBadAt text other → at ≡ other

-- a text with these tokens is a proof text, or is bad at a place
abbrev pub HasAnswer : List ℕ → Type 0
HasAnswer text = (ts : List Token) (e : Option LexError) → ProofLexed 0 text ts e → ((ds : List (ℕ × Deriv)) × IsProofText text ds) ⊎ ((at : ℕ) × IsBadAt text at)
