-- Words that are no command, the answers to words, and that there is one.
use Rattle.std.specs.Prelude.{◌≡◌, ℕ, ◌+◌, ◌<◌, ◌⊎◌, List, ◌++◌, length, take, None, Some, Result, Ok, Err}
use Rattle.bed_words.specs.declared.command.Command.{Command}
use Rattle.bed_words.specs.declared.command.CommandError.{CommandError}
use Rattle.bed_words.specs.declared.command.CommandError.TheVariants as error
use Rattle.bed_lang.specs.declared.limit.Which.{Which}
use Rattle.bed_words.specs.Commands.{IsCommand}
use Rattle.bed_words.specs.Limits.{limit_of}

-- some command begins with these words
abbrev pub Begins : List (List ℕ) → Type 0
Begins words = (more : List (List ℕ)) × ((c : Command) × IsCommand (words ++ more) c)

-- the words are no command, and i, from 0, is the first word such that no command begins with the words up to it, or the
-- number of words: some command begins with the words before it
pub record IsUsage (words : List (List ℕ)) (i : ℕ) : Type 0 where
  pub none : (c : Command) → IsCommand words c → ⊥
  pub before : Begins (take i words)
  pub place : (i ≡ length words) ⊎ ((i < length words) × (Begins (take (i + 1) words) → ⊥))

-- the words are a command, and this is the first limit that it passes
abbrev pub PassesLimit : List (List ℕ) → Which → Type 0
PassesLimit words which = (c : Command) × (IsCommand words c × (limit_of c ≡ Some which))

-- what is answered to words, want of memory aside: the command where it passes no limit, the first limit that it passes,
-- or the first wrong word
abbrev pub Answers : List (List ℕ) → Result Command CommandError → Type 0
Answers words (Ok c) = IsCommand words c × (limit_of c ≡ None)
Answers words (Err (error.Usage i)) = IsUsage words i
Answers words (Err (error.Limit which)) = PassesLimit words which
Answers words (Err error.Memory) = ⊥

-- any other answer is this one
abbrev pub OneAnswer : List (List ℕ) → Type 0
OneAnswer words = (a b : Result Command CommandError) → Answers words a → Answers words b → a ≡ b

-- words are at most one command
abbrev pub OneCommand : List (List ℕ) → Type 0
OneCommand words = (a b : Command) → IsCommand words a → IsCommand words b → a ≡ b

-- words have an answer
abbrev pub HasAnswer : List (List ℕ) → Type 0
HasAnswer words = (a : Result Command CommandError) × Answers words a
