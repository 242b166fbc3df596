-- What the parts of the call give.
use Rattle.std.specs.Prelude.{◌≡◌, ℕ, ◌+◌, ◌≤◌, ◌<◌, IsTrue, IsSome, All, Bool, false, List, [], ◌∷◌, length, map, Result, OnOk, OnErr, IsErrOf, Vec}
use Rattle.std.specs.declared.alloc.Global.{Global}
use Rattle.bed_io.specs.Counts.{Rose}
use Rattle.bed_io.specs.Files.{FilesState, GoesOn, SameFiles, bytes_of, up_to}
use Rattle.bed_io.specs.declared.files.FileRefusal.{FileRefusal}
use Rattle.bed_io.specs.declared.files.FileRefusal.TheVariants.{Failed}
use Rattle.bed_read.specs.declared.whole.ReadError.{ReadError}
use Rattle.bed_read.specs.declared.whole.ReadError.TheVariants as read
use Rattle.bed_top.specs.Causes.{most_text, is_long, word_at, FirstRefused}
use Rattle.bed_top.specs.Files.{IsAbsent}
use Rattle.bed_top.specs.Views.{End}
use Rattle.bed_top.specs.Lines.{text_of, write_fault_line}
use Rattle.bed_top.specs.Writes.{Wrote, Stopped}
use Rattle.bed_top.specs.Puts.{Owed, owes, owes_memory}
use Rattle.bed_top.specs.declared.call.Outcome.{Outcome}
use Rattle.bed_top.specs.declared.call.Outcome.TheVariants as outcome
use Rattle.bed_top.specs.declared.plan.Fault.{Fault}
use Rattle.bed_top.specs.declared.plan.Fault.TheVariants as fault
use Rattle.bed_top.specs.declared.plan.Stop.{Stop}
use Rattle.bed_top.specs.declared.plan.Stop.TheVariants as stop
use Rattle.bed_top.specs.declared.status.Status.{Status}
use Rattle.bed_top.specs.declared.status.Status.TheVariants.{WriteFault}

-- no text is longer than what a read gives
abbrev pub AreCut : List (List ℕ) → Type 0
AreCut [] = Unit {0}
AreCut (text ∷ texts) = (length text ≤ most_text + 1) × AreCut texts

abbrev pub holds_long : Vec ℕ Global → Bool
holds_long buffer = is_long buffer.items

-- What the reads of these files do; where all are read, these are their texts.
pub record ReadsTexts {T : Type 0} (old new : FilesState) (names texts : List (List ℕ)) (result : Result T FileRefusal) : Type 0 where
  pub goes_on : GoesOn old new
  pub same : SameFiles old new
  pub each : OnOk result (length texts ≡ length names)
  pub told : OnOk result (IsTrue old.tells → texts ≡ map (λ file. up_to most_text (bytes_of old file)) names)
  pub fewer : OnErr result (length texts < length names)
  pub failed : IsErrOf result Failed → Rose old.read_faults new.read_faults
  -- the first file without a text is the one whose read failed
  pub absent : IsErrOf result Failed → IsAbsent old new (word_at names (length texts))
  pub writes_stay : new.write_faults ≡ old.write_faults
  pub stays_calm : IsTrue old.tells → IsTrue old.calm → All (λ file. IsSome (old.held file)) names → new.read_faults ≡ old.read_faults

-- the refusal of the reader for the first of these texts that is no module, where the first text has number k
abbrev pub IsRefusedFrom : ℕ → List (List ℕ) → (ℕ × ReadError) → Type 0
IsRefusedFrom k texts at = (at.1 ≡ read.Memory → ⊥) → (text : List ℕ) × FirstRefused k texts at.0 text at.1

-- a fault of a file has this line, or memory ran out
abbrev pub IsFault : Fault → List ℕ → Type 0
IsFault (fault.Failed l) line = text_of l ≡ line
IsFault fault.Memory line = Unit {0}

abbrev pub owed_of : Outcome → Owed
owed_of (outcome.Ended status lines) = owes status (map text_of lines.items)
owed_of outcome.Memory = owes_memory

-- this status with one line, or want of memory
pub data IsLine (owed : Owed) (s : Status) (line : List ℕ) : Type 0 where
  line_is : owed ≡ owes s (line ∷ []) → IsLine owed s line
  no_line : owed ≡ owes_memory → IsLine owed s line

-- the writes of an end were made, or one failed, or memory ran out
pub data Acts (e : End) (old new : FilesState) (owed : Owed) : Type 0 where
  acted : Wrote e.writes old new → owed ≡ owes e.status e.lines → Acts e old new owed
  failed_at : (s : Stopped e.writes old new) → Rose old.write_faults new.write_faults → IsLine owed (WriteFault false) (write_fault_line s.tried.name) → Acts e old new owed
  stopped_at : Stopped e.writes old new → owed ≡ owes_memory → Acts e old new owed

-- a fault of the files, as it is owed; and a refusal
abbrev pub GivesUp : Status → Fault → Owed → Type 0
GivesUp s (fault.Failed line) owed = IsLine owed s (text_of line)
GivesUp s fault.Memory owed = owed ≡ owes_memory

abbrev pub IsStopped : Stop → Owed → Type 0
IsStopped (stop.Refused s line) owed = IsLine owed s (text_of line)
IsStopped stop.Memory owed = owed ≡ owes_memory
