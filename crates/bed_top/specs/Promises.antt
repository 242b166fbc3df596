-- What the top call promises: the whole of a run, and what is read off it.
use Rattle.std.specs.Prelude.{◌≡◌, ◌⊎◌, ℕ, ◌≤◌, ◌<◌, true, false, IsTrue, List, [], ◌∷◌, ◌++◌, length, map, None, Some}
use Rattle.std.specs.List.{list_any}
use Rattle.bed_lang.specs.declared.limit.Which.{Which}
use Rattle.bed_lang.specs.declared.module.Module.{Module}
use Rattle.bed_table.specs.Image.{image}
use Rattle.bed_io.specs.Counts.{Rose}
use Rattle.bed_io.specs.Files.{FilesState, GoesOn, SameFiles, bytes_of}
use Rattle.bed_io.specs.Sink.{SinkState}
use Rattle.bed_names.specs.Resolved.{resolved}
use Rattle.bed_sat.specs.Linking.{linked}
use Rattle.bed_sat.specs.Runs.{Outside}
use Rattle.bed_sat.specs.Sound.{IsOutsideOf, IsSound, Linked}
use Rattle.bed_words.specs.declared.command.Job.{Job}
use Rattle.bed_words.specs.Usage.{IsUsage, PassesLimit}
use Rattle.bed_top.specs.Views.{view, End}
use Rattle.bed_top.specs.Causes.{is_long, most_functions, word_at, Asks, AreModules, function_count, first_misnamed, unbuilt_file, broken_of}
use Rattle.bed_top.specs.Files.{out_file, HasRead, IsAbsent, KeepsCalm}
use Rattle.bed_top.specs.Lines.{read_fault_line, write_fault_line}
use Rattle.bed_top.specs.Writes.{Wrote, Stopped}
use Rattle.bed_top.specs.Puts.{Owed, owes, owes_memory, Pays, SinkGoesOn}
use Rattle.bed_top.specs.Work.{base}
use Rattle.bed_top.specs.Chains.{Due}
use Rattle.bed_top.specs.declared.status.Status.{Status}
use Rattle.bed_top.specs.declared.status.Status.TheVariants.{Done, Usage, Limit, ReadFault, WriteFault, Memory}

-- the end is due by the words and the texts that were read
pub record IsDue (words texts : List (List ℕ)) (old : FilesState) (e : End) : Type 0 where
  pub read : (job : Job) → Asks words job → HasRead job texts old
  pub due : Due (view words texts) e

-- of a link that the words ask for, the first module file without a text couldn't be read
pub record Unread (words texts : List (List ℕ)) (old new : FilesState) (line : List ℕ) : Type 0 where
  pub job : Job
  pub asked : Asks words job
  pub fewer : length texts < length job.modules
  pub is : line ≡ read_fault_line (word_at job.modules (length texts))
  pub rose : Rose old.read_faults new.read_faults
  pub absent : IsAbsent old new (word_at job.modules (length texts))

-- What the work comes to before the lines: an end, all of whose writes were made; a read that failed; a write that failed; or want
-- of memory, before the writes or in one.
pub data Worked (words texts : List (List ℕ)) (old new : FilesState) (owed : Owed) : Type 0 where
  ended : (e : End) → IsDue words texts old e → Wrote e.writes old new → owed ≡ owes e.status e.lines → Worked words texts old new owed
  unread : (line : List ℕ) → Unread words texts old new line → SameFiles old new → owed ≡ owes ReadFault (line ∷ []) → Worked words texts old new owed
  unwritten : (e : End) → IsDue words texts old e → (s : Stopped e.writes old new) → Rose old.write_faults new.write_faults
      → owed ≡ owes (WriteFault false) (write_fault_line s.tried.name ∷ []) → Worked words texts old new owed
  short : SameFiles old new → owed ≡ owes_memory → Worked words texts old new owed
  short_of : (e : End) → IsDue words texts old e → Stopped e.writes old new → owed ≡ owes_memory → Worked words texts old new owed

-- one run: the texts that were read, what the work came to, and what was put
pub record Ran (words : List (List ℕ)) (old new : FilesState) (sink_old sink_new : SinkState) (result : Status) : Type 0 where
  pub texts : List (List ℕ)
  pub owed : Owed
  pub worked : Worked words texts old new owed
  pub pays : Pays owed sink_old sink_new result
  pub goes_on : GoesOn old new
  pub sink_goes_on : SinkGoesOn sink_old sink_new
  pub calm : KeepsCalm words old new

-- what the module files of a link hold, an absent one nothing
abbrev pub contents : FilesState → Job → List (List ℕ)
contents files job = map (bytes_of files) job.modules

-- the bytes of an image end with this code
abbrev pub HasCode : List ℕ → Linked → Type 0
HasCode bytes l = (head : List ℕ) × (bytes ≡ head ++ l.code.bytes)

-- Where the files tell their contents: the texts in the module files are those of modules, none of which breaks a rule of names;
-- the image's file has the bytes of the table for these modules, with their names resolved or as they were read, which is the same;
-- and the code in it is sound for them: from every start at an exported function that meets its precondition, for every number of
-- turns and every honest outside, no fault occurs, every function, loop head and outside address is reached only in a state that
-- meets what is written of it, the starter's other memory stays, and a return meets the postcondition. There is an outside for the
-- code, so that this says something.
pub record Links (words : List (List ℕ)) (old new : FilesState) : Type 0 where
  pub job : Job
  pub asked : Asks words job
  pub modules : List Module
  pub read : AreModules (contents old job) modules
  pub scoped : first_misnamed 0 modules ≡ None
  pub written : new.held (out_file job) ≡ Some (image (map resolved modules) base [])
  pub as_read : image (map resolved modules) base [] ≡ image modules base []
  pub has_code : HasCode (image (map resolved modules) base []) (linked (map resolved modules) base [])
  pub sound : IsSound (linked (map resolved modules) base [])
  pub outside : (X : Outside) × IsOutsideOf (linked (map resolved modules) base []) X

abbrev pub Headline : List (List ℕ) → FilesState → FilesState → Status → Type 0
Headline words old new result = result ≡ Done → IsTrue old.tells → Links words old new

-- no count of faults rose
pub record NoFault (old new : FilesState) (sink_old sink_new : SinkState) : Type 0 where
  pub reads : Rose old.read_faults new.read_faults → ⊥
  pub writes : Rose old.write_faults new.write_faults → ⊥
  pub puts : Rose sink_old.faults sink_new.faults → ⊥

-- the texts are what the module files hold, where the words ask for a link
abbrev pub Hold : List (List ℕ) → FilesState → List (List ℕ) → Type 0
Hold words old texts = (job : Job) → Asks words job → texts ≡ contents old job

-- an end is due by the words and the contents of the module files
abbrev pub IsDueFor : List (List ℕ) → FilesState → End → Type 0
IsDueFor words old e = (texts : List (List ℕ)) × Hold words old texts × Due (view words texts) e

-- Where the files tell their contents and no count of faults rises, the answer is the status of each end that is due by the words
-- and the contents of the module files, or want of memory; and there is such an end.
pub record Exactly (words : List (List ℕ)) (old new : FilesState) (sink_old sink_new : SinkState) (result : Status) : Type 0 where
  pub due : (e : End) × IsDueFor words old e
  pub only : IsTrue old.tells → NoFault old new sink_old sink_new → (e : End) → IsDueFor words old e → (result ≡ e.status) ⊎ (result ≡ Memory)

-- these modules of a job are linked: no text is too long, they aren't too many functions, no rule of names is broken, all is built,
-- and each condition holds
pub record IsLinkable (job : Job) (texts : List (List ℕ)) (modules : List Module) : Type 0 where
  pub fits : list_any is_long texts ≡ false
  pub read : AreModules texts modules
  pub few : function_count modules ≤ most_functions
  pub scoped : first_misnamed 0 modules ≡ None
  pub built : unbuilt_file job.modules (map resolved modules) ≡ None
  pub kept : broken_of (map resolved modules) ≡ None

-- Where the files tell their contents and no count of faults rises, a link whose modules can be linked is done, or memory ran out.
abbrev pub Complete : List (List ℕ) → FilesState → FilesState → SinkState → SinkState → Status → Type 0
Complete words old new sink_old sink_new result =
    IsTrue old.tells → NoFault old new sink_old sink_new → (job : Job) → (modules : List Module) → Asks words job
    → IsLinkable job (contents old job) modules → (result ≡ Done) ⊎ (result ≡ Memory)

-- the due status, but for want of memory and a fault of the sink
abbrev pub Yields : Status → Status → Type 0
Yields result due = (result ≡ due) ⊎ ((result ≡ Memory) ⊎ (result ≡ WriteFault true))

-- Words that are no command give Usage, and nothing else does; words that pass a limit give that limit.
pub record Words (words : List (List ℕ)) (result : Status) : Type 0 where
  pub usage_only : (word : ℕ) → result ≡ Usage word → IsUsage words word
  pub usage : (word : ℕ) → IsUsage words word → Yields result (Usage word)
  pub limit : (which : Which) → PassesLimit words which → Yields result (Limit which)

-- Faults come only where the count of their kind rose.
pub record Faults (old new : FilesState) (sink_old sink_new : SinkState) (result : Status) : Type 0 where
  pub read : result ≡ ReadFault → Rose old.read_faults new.read_faults
  pub write : result ≡ WriteFault false → Rose old.write_faults new.write_faults
  pub sink : result ≡ WriteFault true → Rose sink_old.faults sink_new.faults
