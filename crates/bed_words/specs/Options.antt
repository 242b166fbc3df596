-- The options of the commands: which command takes which, with what values, and how often.
use Rattle.std.specs.Prelude.{◌≡◌, ℕ, ◌+◌, ◌≤◌, Bool, true, false, ◌||◌, nat_eq, nat_lt, is_some, IsTrue, if◌then◌else◌, List, [], ◌∷◌, codes, bytes_eq, Option, None, Some, IfSome}
use Rattle.std.specs.List.{starts_with}
use Rattle.bed_words.specs.declared.verb.Verb.{Verb}
use Rattle.bed_words.specs.declared.verb.Verb.TheVariants as verb
use Rattle.bed_words.specs.Values.{number_of, import_of, block_of}

-- a word that begins with `--`
abbrev pub is_option : List ℕ → Bool
is_option word = starts_with nat_eq word (codes "--")

-- the options that each command takes
abbrev pub takes : Verb → List ℕ → Bool
takes verb.Link o =
    bytes_eq o (codes "--base") || (bytes_eq o (codes "--import") || (bytes_eq o (codes "--proof") || bytes_eq o (codes "--write-proof")))
takes verb.Check o = bytes_eq o (codes "--proof")
takes verb.Run o =
    bytes_eq o (codes "--steps") || (bytes_eq o (codes "--base") || (bytes_eq o (codes "--import") || (bytes_eq o (codes "--proof")
    || (bytes_eq o (codes "--arg") || (bytes_eq o (codes "--stack") || bytes_eq o (codes "--trace"))))))
takes verb.Exec o =
    bytes_eq o (codes "--steps") || (bytes_eq o (codes "--arg") || (bytes_eq o (codes "--stack") || (bytes_eq o (codes "--words")
    || (bytes_eq o (codes "--block") || bytes_eq o (codes "--trace")))))
takes _ o = false

-- the option that a command must have
abbrev pub required : Verb → Option (List ℕ)
required verb.Check = Some (codes "--proof")
required verb.Run = Some (codes "--steps")
required verb.Exec = Some (codes "--steps")
required _ = None

-- an option that may come more than once
abbrev pub repeats : List ℕ → Bool
repeats o = bytes_eq o (codes "--import") || bytes_eq o (codes "--arg")

-- an option whose value is a file; every word is one
abbrev pub names_file : List ℕ → Bool
names_file o = bytes_eq o (codes "--proof") || bytes_eq o (codes "--write-proof")

-- a value that an option may have: an import, a block, a file, or else a number
abbrev pub fits : List ℕ → List ℕ → Bool
fits o value =
    if bytes_eq o (codes "--import") then is_some (import_of value) else (
    if bytes_eq o (codes "--block") then is_some (block_of value) else (
    if names_file o then true else is_some (number_of value)))

-- words in pairs, each an option of the command with a value that it may have
abbrev pub AreOptions : Verb → List (List ℕ) → Type 0
AreOptions v [] = Unit {0}
AreOptions v (o ∷ []) = ⊥
AreOptions v (o ∷ value ∷ rest) =
    IsTrue (is_option o) × IsTrue (takes v o) × IsTrue (fits o value) × AreOptions v rest

-- how many times an option stands among options with their values
abbrev pub times : List ℕ → List (List ℕ) → ℕ
times name [] = 0
times name (o ∷ []) = 0
times name (o ∷ value ∷ rest) = (if bytes_eq o name then 1 else 0) + times name rest

abbrev pub is_given : List ℕ → List (List ℕ) → Bool
is_given name options = nat_lt 0 (times name options)

-- no option is given twice but those that may be
abbrev pub IsOnceEach : List (List ℕ) → Type 0
IsOnceEach options = (name : List ℕ) → repeats name ≡ false → times name options ≤ 1

-- the option that the command must have is given
abbrev pub HasRequired : Verb → List (List ℕ) → Type 0
HasRequired v options = IfSome (required v) (λ name. IsTrue (is_given name options))
