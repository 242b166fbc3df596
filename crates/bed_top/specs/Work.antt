-- The stages of the work.
use Rattle.std.specs.Prelude.{◌≡◌, ◌⊎◌, ℕ, nat_lt, List, [], ◌∷◌, length, map, Option, Some, None, if◌then◌else◌}
use Rattle.std.specs.List.{list_any}
use Rattle.std.proofs.Common.{inl, inr}
use Rattle.bed_lang.specs.declared.limit.Which.{Which}
use Rattle.bed_lang.specs.declared.limit.Which.TheVariants as which
use Rattle.bed_lang.specs.declared.module.Module.{Module}
use Rattle.bed_table.specs.Image.{image}
use Rattle.bed_table.specs.Layout.{code_length}
use Rattle.bed_names.specs.Resolved.{resolved}
use Rattle.bed_names.specs.declared.error.NameError.{NameError}
use Rattle.bed_names.specs.declared.error.NameError.TheVariants as name
use Rattle.bed_read.specs.declared.whole.ReadError.{ReadError}
use Rattle.bed_read.specs.declared.whole.ReadError.TheVariants as read
use Rattle.bed_words.specs.declared.command.Command.{Command}
use Rattle.bed_words.specs.declared.command.Command.TheVariants as command
use Rattle.bed_words.specs.declared.command.Job.{Job}
use Rattle.bed_words.specs.Commands.{IsCommand}
use Rattle.bed_words.specs.Limits.{limit_of}
use Rattle.bed_words.specs.Usage.{IsUsage, PassesLimit}
use Rattle.bed_top.specs.Views.{View, Written, End, Refusal, refusal_of, Source, source}
use Rattle.bed_top.specs.Causes.{is_long, most_functions, word_at, unbuilt_word, AreModules, FirstRefused, function_count, first_misnamed, unbuilt_file, broken_of}
use Rattle.bed_top.specs.Files.{out_file}
use Rattle.bed_top.specs.Lines.{usage_line, syntax_line, names_line, limit_line, condition_line, not_built_line, memory_line, linked_line}
use Rattle.bed_top.specs.Places.{place_of}
use Rattle.bed_top.specs.declared.status.SyntaxKind.{SyntaxKind}
use Rattle.bed_top.specs.declared.status.SyntaxKind.TheVariants as syntax
use Rattle.bed_top.specs.declared.status.NameKind.{NameKind}
use Rattle.bed_top.specs.declared.status.NameKind.TheVariants as rule
use Rattle.bed_top.specs.declared.status.Status.TheVariants.{Done, No, Usage, Syntax, Names, Limit, Memory, NotBuilt}

-- the address of an image's first byte
abbrev pub base : ℕ
base = 0x00400000

-- the refusals, each with its line

abbrev pub wrong_word : ℕ → Refusal
wrong_word i = refusal_of (Usage i) (usage_line i)

abbrev pub past_limit : Which → Refusal
past_limit w = refusal_of (Limit w) (limit_line w)

abbrev pub not_built : List ℕ → Refusal
not_built what = refusal_of (NotBuilt what) (not_built_line what)

abbrev pub broken_promise : ℕ → Refusal
broken_promise k = refusal_of (No k None) (condition_line k)

-- of the file with this number and this name, at this line and column of its text
abbrev pub syntax_refusal : ℕ → List ℕ → SyntaxKind → (ℕ × ℕ) → Refusal
syntax_refusal file called kind place = refusal_of (Syntax file place.0 place.1 kind) (syntax_line called place.0 place.1 kind)

abbrev pub names_refusal : ℕ → List ℕ → NameKind → (ℕ × ℕ) → Refusal
names_refusal file called kind place = refusal_of (Names file place.0 place.1 kind) (names_line called place.0 place.1 kind)

abbrev pub unread : ℕ → List ℕ → List ℕ → ReadError → Refusal
unread file called text (read.BadByte at) = syntax_refusal file called syntax.Byte (place_of text at)
unread file called text (read.Unexpected at) = syntax_refusal file called syntax.Token (place_of text at)
unread file called text (read.Number at) = syntax_refusal file called syntax.Number (place_of text at)
unread file called text (read.Limit w at) = past_limit w
unread file called text read.Memory = refusal_of Memory memory_line

-- where a rule of names is broken, and the rule; none for want of memory
abbrev pub rule_of : NameError → Option (ℕ × NameKind)
rule_of (name.Unknown at) = Some (at, rule.Unknown)
rule_of (name.Twice at) = Some (at, rule.Twice)
rule_of (name.Sort at) = Some (at, rule.Sort)
rule_of (name.Arity at) = Some (at, rule.Arity)
rule_of (name.FallsOff at) = Some (at, rule.FallsOff)
rule_of (name.MissingJoin at) = Some (at, rule.MissingJoin)
rule_of (name.Dead at) = Some (at, rule.Dead)
rule_of (name.StackRoom at needs has) = Some (at, rule.StackRoom needs has)
rule_of name.Memory = None

abbrev pub misnamed_by : ℕ → List ℕ → List ℕ → Option (ℕ × NameKind) → Refusal
misnamed_by file called text (Some broken) = names_refusal file called broken.1 (place_of text broken.0)
misnamed_by file called text None = refusal_of Memory memory_line

abbrev pub misnamed : ℕ → List ℕ → List ℕ → NameError → Refusal
misnamed file called text e = misnamed_by file called text (rule_of e)

-- a refusal where something was found, and else what goes on
abbrev pub or_refuse : {X B : Type 0} → (X → Refusal) → Option X → B → Refusal ⊎ B
or_refuse f None b = inr b
or_refuse f (Some x) b = inl (f x)

-- the words are no command, or a command that passes a limit, or a command
pub data IsCommanded (v : View) (a : Unit {0}) (r : Refusal ⊎ Command) : Type 0 where
  no_command : (i : ℕ) → IsUsage v.words i → r ≡ inl (wrong_word i) → IsCommanded v a r
  passes_limit : (w : Which) → PassesLimit v.words w → r ≡ inl (past_limit w) → IsCommanded v a r
  is_command : (c : Command) → IsCommand v.words c → limit_of c ≡ None → r ≡ inr c → IsCommanded v a r

-- a word of the command isn't built, or it is a link
pub data IsAsked (v : View) (c : Command) (r : Refusal ⊎ Job) : Type 0 where
  unbuilt : (what : List ℕ) → unbuilt_word v.words c ≡ Some what → r ≡ inl (not_built what) → IsAsked v c r
  asks : (job : Job) → c ≡ command.Link job → unbuilt_word v.words c ≡ None → r ≡ inr job → IsAsked v c r

-- the lengths of the texts
abbrev pub lengths_of : View → Job → Refusal ⊎ Job
lengths_of v job = if list_any is_long v.texts then inl (past_limit which.Text) else inr job

-- the reader: a text is the first that is no module, or all are modules
pub data IsRead (v : View) (job : Job) (r : Refusal ⊎ Source) : Type 0 where
  not_read : (file : ℕ) (text : List ℕ) (e : ReadError) → FirstRefused 0 v.texts file text e
      → r ≡ inl (unread file (word_at job.modules file) text e) → IsRead v job r
  all_read : (ms : List Module) → AreModules v.texts ms → r ≡ inr (source job ms) → IsRead v job r

-- the number of functions
abbrev pub counted_of : View → Source → Refusal ⊎ Source
counted_of v s = if nat_lt most_functions (function_count s.modules) then inl (past_limit which.Functions) else inr s

-- the rules of names; the modules go on with their names resolved
abbrev pub misnamed_in : View → Job → (ℕ × NameError) → Refusal
misnamed_in v job at = misnamed at.0 (word_at job.modules at.0) (word_at v.texts at.0) at.1

abbrev pub scoped_of : View → Source → Refusal ⊎ Source
scoped_of v s = or_refuse (misnamed_in v s.job) (first_misnamed 0 s.modules) (source s.job (map resolved s.modules))

-- what isn't built of the modules
abbrev pub built_of : View → Source → Refusal ⊎ Source
built_of v s = or_refuse not_built (unbuilt_file s.job.modules s.modules) s

-- the conditions
abbrev pub judged_of : View → Source → Refusal ⊎ Source
judged_of v s = or_refuse broken_promise (broken_of s.modules) s

-- the image of modules, under the name that the job gives it
abbrev pub image_write : Job → List Module → Written
image_write job modules = record { name = out_file job; bytes = image modules base [] }

-- all was well: one file is written, and one line is put
abbrev pub done_with : Written → List ℕ → End
done_with write line = record { status = Done; writes = write ∷ []; lines = line ∷ [] }

-- the end of a link: the image is written
abbrev pub link_end : View → Source → End
link_end v s = done_with (image_write s.job s.modules) (linked_line (length s.modules) (function_count s.modules) (code_length s.modules))
