-- The tokens of a proof text: those of module texts, and fresh variables.
use Rattle.std.specs.Prelude.{◌≡◌, ℕ, ◌+◌, ◌<◌, ◌≤◌, Bool, false, nat_eq, List, [], ◌∷◌, length, take, drop, Option, Some, None, Result, Ok, Err, if◌then◌else◌}
use Rattle.bed_lex.specs.declared.token.Token.{Token}
use Rattle.bed_lex.specs.declared.token.Kind.TheVariants as kind
use Rattle.bed_lex.specs.declared.token.LexError.{LexError}
use Rattle.bed_lex.specs.declared.token.LexError.TheVariants as error
use Rattle.bed_lex.specs.declared.lexing.Scanned.{Scanned}
use Rattle.bed_lex.specs.declared.front.Front.{Front}
use Rattle.bed_lex.specs.declared.front.Front.TheVariants as front
use Rattle.bed_lex.specs.Numbers.{digits_value, that_fits}
use Rattle.bed_lex.specs.Tokens.{is_digit, run_length, front_of}
use Rattle.bed_proof_lex.specs.declared.piece.Piece.{Piece}
use Rattle.bed_proof_lex.specs.declared.piece.Piece.TheVariants as piece

-- the fresh variable with n digits of this value, after a `#` at the place `at`; a bad number where they have none
abbrev pub fresh_of : ℕ → ℕ → Option ℕ → Piece
fresh_of at n None = piece.Stop (Some (error.Number at))
fresh_of at n (Some v) = piece.Token (record { kind = kind.Fresh v; at = at }) (n + 1)

-- what a `#` at the place `at` begins, with these bytes after it: a digit begins the variable's number, which is the longest
-- run of bytes of names, all of them decimal digits; no other byte may follow
abbrev pub fresh_piece : ℕ → List ℕ → Piece
fresh_piece at [] = piece.Stop (Some (error.BadByte at))
fresh_piece at (b ∷ rest) =
    if is_digit b then fresh_of at (length (take (run_length (b ∷ rest)) (b ∷ rest))) (that_fits (digits_value false 0 (take (run_length (b ∷ rest)) (b ∷ rest))))
    else piece.Stop (Some (error.BadByte at))

-- what stands at the place `at`, where this is at the front of the text from there on
abbrev pub front_piece : ℕ → List ℕ → Front → Piece
front_piece at text front.End = piece.Stop None
front_piece at text (front.Skip n) = piece.Blank n
front_piece at text (front.Word i n) = piece.Token (record { kind = kind.Word i; at = at }) n
front_piece at text (front.Number v n) = piece.Token (record { kind = kind.Number v; at = at }) n
front_piece at text (front.Name n) = piece.Token (record { kind = kind.Name (record { bytes = take n text; at = at }); at = at }) n
front_piece at text front.BadByte = piece.Stop (Some (error.BadByte at))
front_piece at text front.BadNumber = piece.Stop (Some (error.Number at))
front_piece at text front.LongName = piece.Stop (Some (error.LongName at))

-- what stands at the place `at`, as in module texts
abbrev pub plain_piece : ℕ → List ℕ → Piece
plain_piece at text = front_piece at text (front_of text)

-- what stands at the place `at` of a proof text, which goes on so from there: a `#` may begin a fresh variable, and all else
-- is as in module texts
unfoldable pub piece_at : ℕ → List ℕ → Piece
piece_at at [] = plain_piece at []
piece_at at (b ∷ rest) = if nat_eq b 35 then fresh_piece at rest else plain_piece at (b ∷ rest)

-- From the place `at` on the text has these tokens and then ends, or it has these and then a place that stands in none.
pub data ProofLexed : ℕ → List ℕ → List Token → Option LexError → Type 0 where
  stops : (at : ℕ) (text : List ℕ) (e : Option LexError) → piece_at at text ≡ piece.Stop e → ProofLexed at text [] e
  blanks : (at n : ℕ) (text : List ℕ) (ts : List Token) (e : Option LexError) → piece_at at text ≡ piece.Blank n
      → ProofLexed (at + n) (drop n text) ts e → ProofLexed at text ts e
  token : (at n : ℕ) (text : List ℕ) (t : Token) (ts : List Token) (e : Option LexError) → piece_at at text ≡ piece.Token t n
      → ProofLexed (at + n) (drop n text) ts e → ProofLexed at text (t ∷ ts) e

-- the answer of `proof_scan`: the tokens before the first place that stands in none, and that place
abbrev pub IsProofScan : List ℕ → Scanned → Type 0
IsProofScan text scanned = ProofLexed 0 text scanned.tokens scanned.fault

-- the answer of `proof_tokens`: all tokens of the text, or the first place that stands in none
abbrev pub ProofTokenizes : List ℕ → Result (List Token) LexError → Type 0
ProofTokenizes text (Ok ts) = ProofLexed 0 text ts None
ProofTokenizes text (Err error.Memory) = Unit {0}
ProofTokenizes text (Err (error.BadByte at)) = (ts : List Token) × ProofLexed 0 text ts (Some (error.BadByte at))
ProofTokenizes text (Err (error.Number at)) = (ts : List Token) × ProofLexed 0 text ts (Some (error.Number at))
ProofTokenizes text (Err (error.LongName at)) = (ts : List Token) × ProofLexed 0 text ts (Some (error.LongName at))

-- a piece of a text of this length, which goes on within it
abbrev pub Extends : Piece → ℕ → Type 0
Extends (piece.Blank n) most = (0 < n) × (n ≤ most)
Extends (piece.Token t n) most = (0 < n) × (n ≤ most)
Extends (piece.Stop e) most = Unit {0}

-- a text has one list of tokens, and one first place that stands in none
abbrev pub OneProofScan : List ℕ → Type 0
OneProofScan text = (ts us : List Token) (e f : Option LexError) → ProofLexed 0 text ts e → ProofLexed 0 text us f → (ts ≡ us) × (e ≡ f)
