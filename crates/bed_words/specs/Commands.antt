-- The commands, as relations between the words after the program's name and what they ask for.
use Rattle.std.specs.Prelude.{◌≡◌, ℕ, false, if◌then◌else◌, List, [], ◌∷◌, ◌++◌, codes, bytes_eq, Option, None, Some, unwrap_or, option_and_then}
use Rattle.std.specs.List.{filter_map}
use Rattle.bed_lang.specs.declared.word.Name.{Name}
use Rattle.bed_words.specs.declared.command.Command.{Command}
use Rattle.bed_words.specs.declared.command.Command.TheVariants as command
use Rattle.bed_words.specs.declared.command.Job.{Job}
use Rattle.bed_words.specs.declared.command.Start.{Start}
use Rattle.bed_words.specs.declared.verb.Verb.{Verb}
use Rattle.bed_words.specs.declared.verb.Verb.TheVariants as verb
use Rattle.bed_words.specs.Values.{number_of, import_of, block_of, size_of, named}
use Rattle.bed_words.specs.Options.{is_option, AreOptions, IsOnceEach, HasRequired}

-- the first word of each command
abbrev pub word_of : Verb → List ℕ
word_of verb.Link = codes "link"
word_of verb.Check = codes "check"
word_of verb.Run = codes "run"
word_of verb.Exec = codes "exec"
word_of verb.Disasm = codes "disasm"
word_of verb.Conditions = codes "conditions"
word_of verb.Gen = codes "gen"

-- the first value of an option, among options with their values
abbrev pub value_of : List ℕ → List (List ℕ) → Option (List ℕ)
value_of name [] = None
value_of name (o ∷ []) = None
value_of name (o ∷ value ∷ rest) = if bytes_eq o name then Some value else value_of name rest

-- all values of an option, in order
abbrev pub values_of : List ℕ → List (List ℕ) → List (List ℕ)
values_of name [] = []
values_of name (o ∷ []) = []
values_of name (o ∷ value ∷ rest) = if bytes_eq o name then value ∷ values_of name rest else values_of name rest

-- the number that an option gives
abbrev pub given_number : List ℕ → List (List ℕ) → Option ℕ
given_number name options = option_and_then number_of (value_of name options)

abbrev pub imports_of : List (List ℕ) → List (Name × ℕ)
imports_of options = filter_map import_of (values_of (codes "--import") options)

abbrev pub arguments_of : List (List ℕ) → List ℕ
arguments_of options = filter_map number_of (values_of (codes "--arg") options)

-- what is read, linked and written, by the options and files of a command; the base is 0x00400000 where none is given
abbrev pub job_of : List (List ℕ) → Option (List ℕ) → List (List ℕ) → Job
job_of options out modules = record {
  base = unwrap_or (given_number (codes "--base") options) 0x00400000;
  imports = imports_of options;
  proof = value_of (codes "--proof") options;
  write_proof = value_of (codes "--write-proof") options;
  out = out;
  modules = modules;
}

-- how a function is started: where no option says otherwise, the stack is at 0x80000000, the frame has 64 words and no
-- instruction is traced. `--steps` is always given
abbrev pub start_of : List (List ℕ) → List ℕ → Start
start_of options function = record {
  steps = unwrap_or (given_number (codes "--steps") options) 0;
  stack = unwrap_or (given_number (codes "--stack") options) 0x80000000;
  args = arguments_of options;
  trace = unwrap_or (given_number (codes "--trace") options) 0;
  words = unwrap_or (given_number (codes "--words") options) 64;
  block = option_and_then block_of (value_of (codes "--block") options);
  function = named function;
}

abbrev pub generates : Option ℕ → Option Command
generates None = None
generates (Some k) = Some (command.Gen k)

-- the command with these options and these plain words, where they are as many as it takes:
-- link out m.., check m.., run f m.., exec image f, disasm image, conditions m.., gen k
abbrev pub command_of : Verb → List (List ℕ) → List (List ℕ) → Option Command
command_of verb.Link o (out ∷ m ∷ ms) = Some (command.Link (job_of o (Some out) (m ∷ ms)))
command_of verb.Check o (m ∷ ms) = Some (command.Check (job_of o None (m ∷ ms)))
command_of verb.Run o (f ∷ m ∷ ms) = Some (command.Run (job_of o None (m ∷ ms)) (start_of o f))
command_of verb.Exec o (image ∷ f ∷ []) = Some (command.Exec image (start_of o f))
command_of verb.Disasm o (image ∷ []) = Some (command.Disasm image)
command_of verb.Conditions o (m ∷ ms) = Some (command.Conditions (job_of o None (m ∷ ms)))
command_of verb.Gen o (k ∷ []) = generates (size_of k)
command_of _ _ _ = None

-- the first plain word doesn't look like an option
abbrev pub IsPlain : List (List ℕ) → Type 0
IsPlain [] = Unit {0}
IsPlain (w ∷ ws) = is_option w ≡ false

-- words that are a command: its first word, options in any order, and then plain words
pub record IsCommand (words : List (List ℕ)) (c : Command) : Type 0 where
  pub verb : Verb
  pub options : List (List ℕ)
  pub plain : List (List ℕ)
  pub stands : words ≡ word_of verb ∷ (options ++ plain)
  pub listed : AreOptions verb options
  pub once : IsOnceEach options
  pub needed : HasRequired verb options
  pub begins : IsPlain plain
  pub means : command_of verb options plain ≡ Some c
