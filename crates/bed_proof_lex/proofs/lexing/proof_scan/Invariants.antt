use Rattle.std.proofs.Common.{◌≤◌, ◌-◌, ◌++◌, List, Option, length, drop}
use Rattle.bed_lex.specs.declared.token.Token.{Token}
use Rattle.bed_lex.specs.declared.token.LexError.{LexError}
use Rattle.bed_proof_lex.specs.Tokens.{ProofLexed}
use Rattle.bed_proof_lex.proofs.lexing.proof_scan.Given as goal

abbrev pub invariant-loop-tokens : goal.invariant-loop-tokens
invariant-loop-tokens l = record {
  within : l.place ≤ length l.text;
  so_far : (ts : List Token) (e : Option LexError) → ProofLexed l.place (drop l.place l.text) ts e → ProofLexed 0 l.text (l.tokens ++ ts) e;
}

abbrev pub decreases-loop-tokens : goal.decreases-loop-tokens
decreases-loop-tokens l = length l.text - l.place
