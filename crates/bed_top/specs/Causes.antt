-- What the words and the texts are, and what is wrong with them.
use Rattle.std.specs.Prelude.{◌≡◌, ◌≢◌, ℕ, ◌+◌, ◌⊎◌, Bool, List, [], ◌∷◌, length, nat_lt, slice_get, Option, Some, None, Err, unwrap_or, if◌then◌else◌}
use Rattle.bed_lang.specs.declared.module.Module.{Module}
use Rattle.bed_read.specs.Reading.{IsModule, ReadsModule}
use Rattle.bed_read.specs.declared.whole.ReadError.{ReadError}
use Rattle.bed_read.specs.declared.whole.ReadError.TheVariants as read
use Rattle.bed_names.specs.Faults.{refusal}
use Rattle.bed_names.specs.Modules.{faults}
use Rattle.bed_names.specs.declared.error.NameError.{NameError}
use Rattle.bed_words.specs.declared.command.Command.{Command}
use Rattle.bed_words.specs.declared.command.Command.TheVariants as command
use Rattle.bed_words.specs.declared.command.Job.{Job}
use Rattle.bed_words.specs.Commands.{IsCommand}
use Rattle.bed_words.specs.Limits.{limit_of}
use Rattle.bed_words.specs.Options.{is_option}
use Rattle.bed_top.specs.Returns.{module_is_built, broken_condition}

-- a text has at most so many bytes
abbrev pub most_text : ℕ
most_text = 1048576

abbrev pub is_long : List ℕ → Bool
is_long text = nat_lt most_text (length text)

-- the modules of a command have at most so many functions
abbrev pub most_functions : ℕ
most_functions = 1024

-- word i, from 0; no bytes where there is none
abbrev pub word_at : List (List ℕ) → ℕ → List ℕ
word_at words i = unwrap_or (slice_get words i) []

-- of the words of a command, the first one that isn't built: of `link` every option, and every other command
abbrev pub unbuilt_word : List (List ℕ) → Command → Option (List ℕ)
unbuilt_word words (command.Link job) = if is_option (word_at words 1) then Some (word_at words 1) else None
unbuilt_word words _ = Some (word_at words 0)

-- the words ask for this link, which passes no limit of words and has no option
pub record Asks (words : List (List ℕ)) (job : Job) : Type 0 where
  pub stands : IsCommand words (command.Link job)
  pub within : limit_of (command.Link job) ≡ None
  pub built : unbuilt_word words (command.Link job) ≡ None

-- each text is that of the module
abbrev pub AreModules : List (List ℕ) → List Module → Type 0
AreModules [] [] = Unit {0}
AreModules (t ∷ ts) (m ∷ ms) = IsModule t m × AreModules ts ms
AreModules _ _ = ⊥

-- the text with this number, where the first one has number k, is the first that is no module within the limits, and this is
-- its refusal
abbrev pub FirstRefused : ℕ → List (List ℕ) → ℕ → List ℕ → ReadError → Type 0
FirstRefused k [] file text e = ⊥
FirstRefused k (t ∷ ts) file text e =
    ((file ≡ k) × (text ≡ t) × (e ≢ read.Memory) × ReadsModule t (Err e)) ⊎ ((m : Module) × IsModule t m × FirstRefused (k + 1) ts file text e)

abbrev pub function_count : List Module → ℕ
function_count [] = 0
function_count (m ∷ ms) = length m.functions + function_count ms

abbrev pub or_later : ℕ → Option NameError → Option (ℕ × NameError) → Option (ℕ × NameError)
or_later k None later = later
or_later k (Some e) later = Some (k, e)

-- the number, where the first module has number k, of the first module that breaks a rule of names, and its refusal
abbrev pub first_misnamed : ℕ → List Module → Option (ℕ × NameError)
first_misnamed k [] = None
first_misnamed k (m ∷ ms) = or_later k (refusal (faults m)) (first_misnamed (k + 1) ms)

-- The file of the first module that isn't built: each module after the first one isn't.
abbrev pub unbuilt_file : List (List ℕ) → List Module → Option (List ℕ)
unbuilt_file files [] = None
unbuilt_file files (m ∷ []) = if module_is_built m then None else Some (word_at files 0)
unbuilt_file files (m ∷ n ∷ ms) = if module_is_built m then Some (word_at files 1) else Some (word_at files 0)

-- the number of the first condition that doesn't hold, of the one module
abbrev pub broken_of : List Module → Option ℕ
broken_of [] = None
broken_of (m ∷ ms) = broken_condition m
