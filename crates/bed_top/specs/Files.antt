-- What a link does to the files.
use Rattle.std.specs.Prelude.{◌≡◌, ℕ, ◌-◌, ◌^◌, ◌<◌, ◌≤◌, Bool, true, false, IsTrue, IsSome, None, List, [], length, map, All, unwrap_or}
use Rattle.bed_io.specs.Files.{FilesState, SameFiles, SameFilesBut, bytes_of, up_to}
use Rattle.bed_words.specs.declared.command.Job.{Job}
use Rattle.bed_top.specs.Causes.{most_text, Asks}
use Rattle.bed_top.specs.declared.status.Status.{Status}
use Rattle.bed_top.specs.declared.status.Status.TheVariants.{Done, WriteFault, Memory}

-- the file that the image goes to
abbrev pub out_file : Job → List ℕ
out_file job = unwrap_or job.out []

-- these texts were read: where the files tell their contents, those of the module files, or their first bytes where they are
-- too long for a text
pub record HasRead (job : Job) (texts : List (List ℕ)) (old : FilesState) : Type 0 where
  pub each : length texts ≡ length job.modules
  pub some : 1 ≤ length texts
  pub told : IsTrue old.tells → texts ≡ map (λ file. up_to most_text (bytes_of old file)) job.modules

-- of calm files, one whose read fails is absent, unless the count of such faults stands at its end
abbrev pub IsAbsent : FilesState → FilesState → List ℕ → Type 0
IsAbsent old new file = IsTrue old.tells → IsTrue old.calm → new.read_faults < 2 ^ 64 - 1 → old.held file ≡ None

-- every file is as before but the image's, where the words ask for a link
pub record LeavesBut (words : List (List ℕ)) (old new : FilesState) : Type 0 where
  pub others : (job : Job) → Asks words job → SameFilesBut (out_file job) old new
  pub refused : ((job : Job) → Asks words job → ⊥) → SameFiles old new

-- the statuses of the call that leave every file: all but those of a write
abbrev pub keeps_files : Status → Bool
keeps_files Done = false
keeps_files (WriteFault sink) = false
keeps_files Memory = false
keeps_files _ = true

-- a refusal, and a fault in a read, leave every file as before; no status changes another file than the image's
pub record Leaves (words : List (List ℕ)) (old new : FilesState) (result : Status) : Type 0 where
  pub same : keeps_files result ≡ true → SameFiles old new
  pub but : LeavesBut words old new

-- no count of faults changed
pub record SameCounts (old new : FilesState) : Type 0 where
  pub reads : new.read_faults ≡ old.read_faults
  pub writes : new.write_faults ≡ old.write_faults

-- Words that ask for no link touch no file, and calm files that have every file that the words ask to be read keep their counts.
pub record KeepsCalm (words : List (List ℕ)) (old new : FilesState) : Type 0 where
  pub link : IsTrue old.calm → (job : Job) → Asks words job → All (λ file. IsSome (old.held file)) job.modules → SameCounts old new
  pub untouched : ((job : Job) → Asks words job → ⊥) → new ≡ old
