-- What files are seen as, and what a call on them does.
use Rattle.std.specs.Prelude.{◌≡◌, ◌≢◌, ℕ, ◌+◌, ◌≤◌, Bool, false, IsTrue, List, [], length, take, Option, IsSome, unwrap_or, Some, None, Result, Ok, Err, OnOk, OnErr, IsErrOf}
use Rattle.bed_io.specs.Counts.{one_more, Rose}
use Rattle.bed_io.specs.declared.files.FileRefusal.{FileRefusal}
use Rattle.bed_io.specs.declared.files.FileRefusal.TheVariants.{Failed, Memory}

-- files as their callers see them
pub record FilesState : Type 0 where
  -- whether the contents are told
  pub tells : Bool
  -- whether no call fails but the read of an absent file
  pub calm : Bool
  -- the contents by the bytes of a name, where they are told; None is an absent file
  pub held : List ℕ → Option (List ℕ)
  -- the faults of reads, and those of writes and appends
  pub read_faults : ℕ
  pub write_faults : ℕ

-- files that tell nothing of their contents
abbrev pub untold_files : ℕ → ℕ → FilesState
untold_files reads writes = record { tells = false; calm = false; held = λ _. None; read_faults = reads; write_faults = writes }

-- the contents of a file, where an absent one is empty
abbrev pub bytes_of : FilesState → List ℕ → List ℕ
bytes_of files name = unwrap_or (files.held name) []

-- the bytes, or their first `most + 1` where they are longer
unfoldable pub up_to : ℕ → List ℕ → List ℕ
up_to most bytes = take (most + 1) bytes

-- every file is as before
abbrev pub SameFiles : FilesState → FilesState → Type 0
SameFiles old new = IsTrue old.tells → (name : List ℕ) → new.held name ≡ old.held name

-- every file but this one is as before
abbrev pub SameFilesBut : List ℕ → FilesState → FilesState → Type 0
SameFilesBut name old new = IsTrue old.tells → (other : List ℕ) → other ≢ name → new.held other ≡ old.held other

-- no fault was counted
pub record NoFaults (files : FilesState) : Type 0 where
  pub reads : files.read_faults ≡ 0
  pub writes : files.write_faults ≡ 0

-- every call keeps whether the contents are told and whether the files are calm, and no count falls
pub record GoesOn (old new : FilesState) : Type 0 where
  pub tells : new.tells ≡ old.tells
  pub calm : new.calm ≡ old.calm
  pub reads : old.read_faults ≤ new.read_faults
  pub writes : old.write_faults ≤ new.write_faults

-- a read of this file, of at most so many bytes and one more
pub record Reads {T : Type 0} (old new : FilesState) (name : List ℕ) (most : ℕ) (into : List ℕ) (result : Result T FileRefusal) : Type 0 where
  pub goes_on : GoesOn old new
  -- no file is changed, also where the read fails
  pub same : SameFiles old new
  pub bytes : OnOk result (IsTrue old.tells → into ≡ up_to most (bytes_of old name))
  pub short : length into ≤ most + 1
  pub empty : OnErr result (into ≡ [])
  pub failed : IsErrOf result Failed → Rose old.read_faults new.read_faults
  pub writes_stay : new.write_faults ≡ old.write_faults
  -- calm files count a fault only where the file is absent
  pub stays_calm : IsTrue old.calm → IsSome (old.held name) → new.read_faults ≡ old.read_faults

-- a write or an append, after which this file is to hold these bytes
pub record Puts {T : Type 0} (old new : FilesState) (name wanted : List ℕ) (result : Result T FileRefusal) : Type 0 where
  pub goes_on : GoesOn old new
  -- no other file is changed, also where the call fails
  pub others : SameFilesBut name old new
  pub bytes : OnOk result (IsTrue old.tells → new.held name ≡ Some wanted)
  pub failed : IsErrOf result Failed → Rose old.write_faults new.write_faults
  pub reads_stay : new.read_faults ≡ old.read_faults
  -- calm files count no fault
  pub stays_calm : IsTrue old.calm → new.write_faults ≡ old.write_faults

-- a file is set to these bytes by hand: no call, so nothing is counted and nothing else changes
pub record Sets {T E : Type 0} (old new : FilesState) (name wanted : List ℕ) (result : Result T E) : Type 0 where
  pub tells : new.tells ≡ old.tells
  pub calm : new.calm ≡ old.calm
  pub reads : new.read_faults ≡ old.read_faults
  pub writes : new.write_faults ≡ old.write_faults
  pub others : (other : List ℕ) → other ≢ name → new.held other ≡ old.held other
  pub bytes : OnOk result (new.held name ≡ Some wanted)

-- the count of faults after a call with this answer, where each Failed counts and nothing else does
abbrev pub faults_after : {T : Type 0} → ℕ → Result T FileRefusal → ℕ
faults_after count (Ok _) = count
faults_after count (Err Failed) = one_more count
faults_after count (Err Memory) = count
