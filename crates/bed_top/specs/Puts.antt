-- The printed lines, each put once.
use Rattle.std.specs.Prelude.{◌≡◌, ◌⊎◌, ℕ, ◌≤◌, IsTrue, true, List, [], ◌∷◌, ◌++◌}
use Rattle.bed_io.specs.Counts.{Rose}
use Rattle.bed_io.specs.Sink.{SinkState}
use Rattle.bed_top.specs.Lines.{memory_line}
use Rattle.bed_top.specs.declared.status.Status.{Status}
use Rattle.bed_top.specs.declared.status.Status.TheVariants.{WriteFault, Memory}

-- the bytes of lines one after the other
abbrev pub joined : List (List ℕ) → List ℕ
joined [] = []
joined (line ∷ lines) = line ++ joined lines

-- these bytes were put, where the sink tells them
abbrev pub Took : SinkState → SinkState → List ℕ → Type 0
Took old new bytes = IsTrue old.tells → new.taken ≡ old.taken ++ bytes

-- the sink failed: its count rose, and the first of these bytes were put
pub record Broke (old new : SinkState) (bytes : List ℕ) : Type 0 where
  pub rose : Rose old.faults new.faults
  pub told : IsTrue old.tells → (first : List ℕ) × (rest : List ℕ) × (bytes ≡ first ++ rest) × (new.taken ≡ old.taken ++ first)

-- the line of want of memory was put, or the sink failed in it
pub data PutMemory (old new : SinkState) (result : Status) : Type 0 where
  said : result ≡ Memory → Took old new memory_line → PutMemory old new result
  unsaid : result ≡ WriteFault true → Broke old new memory_line → PutMemory old new result

-- some first lines, and want of memory in place of the next one
pub record Cut (lines : List (List ℕ)) (bytes : List ℕ) : Type 0 where
  pub first : List (List ℕ)
  pub next : List ℕ
  pub rest : List (List ℕ)
  pub parts : lines ≡ first ++ (next ∷ rest)
  pub is : bytes ≡ joined first ++ memory_line

-- What comes of the lines of a status: all were put, and it is the answer; or memory ran out in one of them; or the sink failed,
-- and a prefix of one of these was put.
pub data Put (lines : List (List ℕ)) (due : Status) (old new : SinkState) (result : Status) : Type 0 where
  all : result ≡ due → Took old new (joined lines) → Put lines due old new result
  short : result ≡ Memory → (bytes : List ℕ) → Cut lines bytes → Took old new bytes → Put lines due old new result
  failed : result ≡ WriteFault true → (bytes : List ℕ) → (bytes ≡ joined lines) ⊎ Cut lines bytes → Broke old new bytes → Put lines due old new result

-- what is owed at the end: a status with its lines, or the line of want of memory
pub data Owed : Type 0 where
  owes : Status → List (List ℕ) → Owed
  owes_memory : Owed

abbrev pub Pays : Owed → SinkState → SinkState → Status → Type 0
Pays (owes s lines) old new result = Put lines s old new result
Pays owes_memory old new result = PutMemory old new result

-- no put makes a sink tell other bytes, and its count never falls
pub record SinkGoesOn (old new : SinkState) : Type 0 where
  pub tells : new.tells ≡ old.tells
  pub later : old.faults ≤ new.faults
