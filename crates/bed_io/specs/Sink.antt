-- What a sink of bytes is seen as, and what a put does.
use Rattle.std.specs.Prelude.{◌≡◌, ℕ, ◌≤◌, Bool, false, IsTrue, List, [], ◌++◌, length, take, Result, Ok, Err, OnOk, OnErr}
use Rattle.bed_io.specs.Counts.{one_more, Rose}

-- a sink as its callers see it
pub record SinkState : Type 0 where
  -- whether the bytes taken are told
  pub tells : Bool
  -- the bytes taken, in their order, where they are told
  pub taken : List ℕ
  -- the puts that failed
  pub faults : ℕ

-- a sink that tells nothing of the bytes taken
abbrev pub untold_sink : ℕ → SinkState
untold_sink faults = record { tells = false; taken = []; faults = faults }

-- a put of these bytes: all are taken, or the count rose and a prefix of them may have been taken
pub record Takes {T E : Type 0} (old new : SinkState) (bytes : List ℕ) (result : Result T E) : Type 0 where
  pub tells : new.tells ≡ old.tells
  pub later : old.faults ≤ new.faults
  pub all : OnOk result (IsTrue old.tells → new.taken ≡ old.taken ++ bytes)
  pub some : OnErr result (IsTrue old.tells → (count : ℕ) × (count ≤ length bytes) × (new.taken ≡ old.taken ++ take count bytes))
  pub failed : OnErr result (Rose old.faults new.faults)

-- the count of faults after a put with this answer, where each refusal counts
abbrev pub faults_after_put : {T E : Type 0} → ℕ → Result T E → ℕ
faults_after_put count (Ok _) = count
faults_after_put count (Err _) = one_more count
