-- How words are read, from the left: the command, or the first wrong word.
use Rattle.std.specs.Prelude.{◌≡◌, ℕ, ◌+◌, Bool, true, false, ◌&&◌, ◌||◌, not, is_some, if◌then◌else◌, List, [], ◌∷◌, ◌++◌, codes, bytes_eq, Option, None, Some, Result, Ok, Err}
use Rattle.bed_words.specs.declared.command.Command.{Command}
use Rattle.bed_words.specs.declared.command.CommandError.{CommandError}
use Rattle.bed_words.specs.declared.command.CommandError.TheVariants as error
use Rattle.bed_words.specs.declared.verb.Verb.{Verb}
use Rattle.bed_words.specs.declared.verb.Verb.TheVariants as verb
use Rattle.bed_words.specs.Values.{size_of}
use Rattle.bed_words.specs.Options.{is_option, takes, required, repeats, fits, is_given}
use Rattle.bed_words.specs.Commands.{command_of}

-- the command that a first word names
abbrev pub verb_of : List ℕ → Option Verb
verb_of w =
    if bytes_eq w (codes "link") then Some verb.Link else (
    if bytes_eq w (codes "check") then Some verb.Check else (
    if bytes_eq w (codes "run") then Some verb.Run else (
    if bytes_eq w (codes "exec") then Some verb.Exec else (
    if bytes_eq w (codes "disasm") then Some verb.Disasm else (
    if bytes_eq w (codes "conditions") then Some verb.Conditions else (
    if bytes_eq w (codes "gen") then Some verb.Gen else None))))))

-- an option may come after these options
abbrev pub may_come : Verb → List (List ℕ) → List ℕ → Bool
may_come v before o = takes v o && (repeats o || not (is_given o before))

-- the option that the command must have isn't among these
abbrev pub lacks : Verb → List (List ℕ) → Bool
lacks v options = absent (required v)
  where
    absent : Option (List ℕ) → Bool
    absent None = false
    absent (Some name) = not (is_given name options)

-- where plain words aren't as many as the command takes: how many of them some command of this kind begins with
abbrev pub lawful_plain : Verb → List (List ℕ) → ℕ
lawful_plain verb.Link [] = 0
lawful_plain verb.Link (out ∷ rest) = 1
lawful_plain verb.Check plain = 0
lawful_plain verb.Run [] = 0
lawful_plain verb.Run (f ∷ rest) = 1
lawful_plain verb.Exec [] = 0
lawful_plain verb.Exec (image ∷ []) = 1
lawful_plain verb.Exec (image ∷ f ∷ rest) = 2
lawful_plain verb.Disasm [] = 0
lawful_plain verb.Disasm (image ∷ rest) = 1
lawful_plain verb.Conditions plain = 0
lawful_plain verb.Gen [] = 0
lawful_plain verb.Gen (k ∷ rest) = if is_some (size_of k) then 1 else 0

abbrev pub or_wrong : Option Command → ℕ → Result Command ℕ
or_wrong None i = Err i
or_wrong (Some c) i = Ok c

-- the command with these options and plain words, or the first wrong one of the plain words
abbrev pub read_plain : Verb → List (List ℕ) → List (List ℕ) → Result Command ℕ
read_plain v options plain = or_wrong (command_of v options plain) (lawful_plain v plain)

-- the same, where the option that the command must have may be missing
abbrev pub read_files : Verb → List (List ℕ) → List (List ℕ) → Result Command ℕ
read_files v options plain = if lacks v options then Err 0 else read_plain v options plain

-- the same, where the wrong word is counted from n words earlier
abbrev pub later : ℕ → Result Command ℕ → Result Command ℕ
later n (Ok c) = Ok c
later n (Err i) = Err (i + n)

-- a last word: an option without a value, or the first plain word
abbrev pub read_last : Bool → Bool → Result Command ℕ → Result Command ℕ
read_last false may plain = plain
read_last true false plain = Err 0
read_last true true plain = Err 1

-- a word and the next one: an option and its value, or the first plain words
abbrev pub read_two : Bool → Bool → Bool → Result Command ℕ → Result Command ℕ → Result Command ℕ
read_two false may fitting further plain = plain
read_two true false fitting further plain = Err 0
read_two true true false further plain = Err 1
read_two true true true further plain = later 2 further

-- the words after these options, to the end
unfoldable pub read_options : Verb → List (List ℕ) → List (List ℕ) → Result Command ℕ
read_options v before [] = read_files v before []
read_options v before (w ∷ []) = read_last (is_option w) (may_come v before w) (read_files v before (w ∷ []))
read_options v before (w ∷ value ∷ rest) =
    read_two (is_option w) (may_come v before w) (fits w value) (read_options v (before ++ w ∷ value ∷ []) rest)
    (read_files v before (w ∷ value ∷ rest))

abbrev pub read_after : Option Verb → List (List ℕ) → Result Command ℕ
read_after None rest = Err 0
read_after (Some v) rest = later 1 (read_options v [] rest)

-- all words
abbrev pub read_words : List (List ℕ) → Result Command ℕ
read_words [] = Err 0
read_words (w ∷ rest) = read_after (verb_of w) rest

-- an answer that is the reading's, or want of memory
abbrev pub Gives : Result Command ℕ → Result Command CommandError → Type 0
Gives reading (Ok c) = reading ≡ Ok c
Gives reading (Err (error.Usage i)) = reading ≡ Err i
Gives reading (Err (error.Limit which)) = ⊥
Gives reading (Err error.Memory) = Unit {0}

-- the wrong word that a refusal names; 0 where it names none
abbrev pub wrong_word : CommandError → ℕ
wrong_word (error.Usage i) = i
wrong_word (error.Limit which) = 0
wrong_word error.Memory = 0

-- a refusal whose wrong word is counted from n words earlier
abbrev pub moved : CommandError → ℕ → CommandError
moved (error.Usage i) n = error.Usage (i + n)
moved (error.Limit which) n = error.Limit which
moved error.Memory n = error.Memory
