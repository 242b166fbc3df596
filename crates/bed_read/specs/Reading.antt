-- What reading a module text promises.
use Rattle.std.specs.Prelude.{◌≡◌, ◌≤◌, ℕ, length, List, [], ◌∷◌, ◌++◌, Option, Some, None, Result, Ok, Err, All, ◌⊎◌}
use Rattle.bed_grammar.specs.Grammar.{ref, Marked, Derives, tokens_of, unmarked}
use Rattle.bed_grammar.specs.Exact.{IsExact, FirstError}
use Rattle.bed_grammar.specs.declared.refusal.Refusal.{Refusal}
use Rattle.bed_grammar.specs.declared.refusal.Refusal.TheVariants as refusal
use Rattle.bed_lang.specs.declared.module.Module as modules
use Rattle.bed_lex.specs.declared.token.Token.{Token}
use Rattle.bed_lex.specs.declared.token.LexError.{LexError}
use Rattle.bed_lex.specs.declared.token.LexError.TheVariants as fault
use Rattle.bed_lex.specs.Tokens.{Lexed}
use Rattle.bed_lang.specs.declared.limit.Which.{Which}
use Rattle.bed_lang.specs.declared.limit.Which.TheVariants as limit
use Rattle.bed_read.specs.declared.whole.ReadError.{ReadError}
use Rattle.bed_read.specs.declared.whole.ReadError.TheVariants as error
use Rattle.bed_read.specs.Classes.{IsLexeme}
use Rattle.bed_read.specs.Written.{written, Module}

-- the marked tokens are this module, as the grammar is written
abbrev pub IsText : Marked Token Which → modules.Module → Type 0
IsText p m = Derives written (ref Module) p m

-- the text has tokens that are this module, within the limits
abbrev pub IsModule : List ℕ → modules.Module → Type 0
IsModule text m = (ts : List Token) × Lexed 0 text ts None × IsText (unmarked ts) m

-- some module begins with these tokens, which are within the limits
abbrev pub BeginsModule : List Token → Type 0
BeginsModule ts = (more : Marked Token Which) × All IsLexeme (tokens_of more) × ((m : modules.Module) × IsText (unmarked ts ++ more) m)

-- the place of the next token, or the end
abbrev pub place : ℕ → List Token → ℕ
place end [] = end
place end (t ∷ ts) = t.at

-- The text has this fault, and some module begins with the tokens before it.
abbrev pub IsFirstFault : List ℕ → LexError → Type 0
IsFirstFault text e = (ts : List Token) × Lexed 0 text ts (Some e) × BeginsModule ts

-- a refusal is at a token, or the text has no fault at which it would stop before its end
abbrev pub IsBeforeFault : List Token → Option LexError → Type 0
IsBeforeFault (t ∷ rest) e = Unit {0}
IsBeforeFault [] None = Unit {0}
IsBeforeFault [] (Some e) = ⊥

-- At this place stands the first wrong token of the text, or its end where it ends too early; if it is refused for a limit,
-- the first token past that limit.
abbrev pub IsFirstWrong : List ℕ → Option Which → ℕ → Type 0
IsFirstWrong text w at = (ts : List Token) × (e : Option LexError) × (rest : List Token)
    × Lexed 0 text ts e × IsBeforeFault rest e × (at ≡ place (length text) rest) × FirstError IsLexeme IsText ts rest w

-- The answer of `read_module`: the module of the text, whose tokens have no other tree, not even past a limit; or the first refusal.
abbrev pub ReadsModule : List ℕ → Result modules.Module ReadError → Type 0
ReadsModule text (Ok m) = (ts : List Token) × Lexed 0 text ts None × IsExact IsLexeme IsText ts (Ok m)
ReadsModule text (Err (error.BadByte at)) = IsFirstFault text (fault.BadByte at)
ReadsModule text (Err (error.Number at)) = IsFirstFault text (fault.Number at)
ReadsModule text (Err (error.Unexpected at)) = IsFirstWrong text None at
ReadsModule text (Err (error.Limit w at)) = ((w ≡ limit.Name) × IsFirstFault text (fault.LongName at)) ⊎ IsFirstWrong text (Some w) at
ReadsModule text (Err error.Memory) = Unit {0}

-- The counts of a module's declarations keep their limits: a signature has at most 60 parameters and 60 logical variables,
-- and reserves at most 4096 words; a predicate has at most 60 parameters, a function at most 60 locals.
pub record KeepsCounts (m : modules.Module) : Type 0 where
  pub signatures : All (λ s. (length s.params ≤ 60) × (length s.logical ≤ 60) × (s.reserve ≤ 4096)) m.signatures
  pub predicates : All (λ p. length p.params ≤ 60) m.predicates
  pub functions : All (λ f. length f.locals ≤ 60) m.functions

-- the error for a fault
abbrev pub fault_error : LexError → ReadError
fault_error (fault.BadByte at) = error.BadByte at
fault_error (fault.Number at) = error.Number at
fault_error (fault.LongName at) = error.Limit limit.Name at
fault_error fault.Memory = error.Memory

-- the error at a token, or at the end
abbrev pub error_at : ℕ → Option Which → ReadError
error_at at None = error.Unexpected at
error_at at (Some w) = error.Limit w at

-- the error with the least place
abbrev pub first_error : ℕ → List Token → Option Which → Option LexError → ReadError
first_error end [] w None = error_at end w
first_error end [] w (Some e) = fault_error e
first_error end (t ∷ rest) w e = error_at t.at w

-- A function that reads all tokens returned what reading to the end gives, unless memory ran out.
abbrev pub GivesWhole : Result modules.Module (Refusal Token Which) → Result modules.Module (List Token × Option Which) → Type 0
GivesWhole (Ok m) outcome = outcome ≡ Ok m
GivesWhole (Err refusal.Memory) outcome = Unit {0}
GivesWhole (Err (refusal.At rest w)) outcome = outcome ≡ Err (rest.now, w)
