-- Writes, as they are made in order.
use Rattle.std.specs.Prelude.{◌≡◌, ◌≢◌, ℕ, IsTrue, bytes_eq, if◌then◌else◌, List, [], ◌∷◌, ◌++◌, Option, Some, Result, Ok, Err}
use Rattle.bed_io.specs.Counts.{Rose}
use Rattle.bed_io.specs.Files.{FilesState, GoesOn}
use Rattle.bed_top.specs.Views.{Written}
use Rattle.bed_top.specs.Lines.{text_of, write_fault_line}
use Rattle.bed_top.specs.declared.plan.Fault.{Fault}
use Rattle.bed_top.specs.declared.plan.Fault.TheVariants.{Failed, Memory}

-- the contents by name after one write, and after some
abbrev pub after : (List ℕ → Option (List ℕ)) → Written → List ℕ → Option (List ℕ)
after held w name = if bytes_eq name w.name then Some w.bytes else held name

abbrev pub held_after : List Written → (List ℕ → Option (List ℕ)) → List ℕ → Option (List ℕ)
held_after [] held name = held name
held_after (w ∷ ws) held name = held_after ws (after held w) name

-- all of these were made, and nothing else
pub record Wrote (ws : List Written) (old new : FilesState) : Type 0 where
  pub held : IsTrue old.tells → (name : List ℕ) → new.held name ≡ held_after ws old.held name

-- some of these were made, then one was tried, and nothing else: of that one's file nothing is known
pub record Stopped (ws : List Written) (old new : FilesState) : Type 0 where
  pub made : List Written
  pub tried : Written
  pub left : List Written
  pub parts : ws ≡ made ++ (tried ∷ left)
  pub held : IsTrue old.tells → (name : List ℕ) → name ≢ tried.name → new.held name ≡ held_after made old.held name

-- the files after the writes: all were made; or one failed, the count rose and the line names it; or memory ran out at one
abbrev pub WriteOutcome : {T : Type 0} → List Written → FilesState → FilesState → Result T Fault → Type 0
WriteOutcome ws old new (Ok x) = Wrote ws old new
WriteOutcome ws old new (Err (Failed line)) =
    (s : Stopped ws old new) × (text_of line ≡ write_fault_line s.tried.name) × Rose old.write_faults new.write_faults
WriteOutcome ws old new (Err Memory) = Stopped ws old new

pub record Writes {T : Type 0} (ws : List Written) (old new : FilesState) (result : Result T Fault) : Type 0 where
  pub outcome : WriteOutcome ws old new result
  pub goes_on : GoesOn old new
  pub reads_stay : new.read_faults ≡ old.read_faults
  pub stays_calm : IsTrue old.calm → new.write_faults ≡ old.write_faults
