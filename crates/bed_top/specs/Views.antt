-- What the work sees, and what it comes to.
use Rattle.std.specs.Prelude.{ℕ, List, [], ◌∷◌}
use Rattle.bed_lang.specs.declared.module.Module.{Module}
use Rattle.bed_words.specs.declared.command.Job.{Job}
use Rattle.bed_top.specs.declared.status.Status.{Status}

-- the words, and the texts of the module files in their order
pub record View : Type 0 where
  pub words : List (List ℕ)
  pub texts : List (List ℕ)

abbrev pub view : List (List ℕ) → List (List ℕ) → View
view words texts = record { words = words; texts = texts }

-- a file that is written whole
pub record Written : Type 0 where
  pub name : List ℕ
  pub bytes : List ℕ

-- what is due at the end: the status, the writes in their order, and the lines
pub record End : Type 0 where
  pub status : Status
  pub writes : List Written
  pub lines : List (List ℕ)

-- a refusal has no place for writes, so that it leaves every file
pub record Refusal : Type 0 where
  pub status : Status
  pub lines : List (List ℕ)

abbrev pub refusal_of : Status → List ℕ → Refusal
refusal_of s line = record { status = s; lines = line ∷ [] }

abbrev pub refused : Refusal → End
refused r = record { status = r.status; writes = []; lines = r.lines }

-- what is linked: the job, and its modules as far as they have come
pub record Source : Type 0 where
  pub job : Job
  pub modules : List Module

abbrev pub source : Job → List Module → Source
source job modules = record { job = job; modules = modules }
