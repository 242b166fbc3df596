-- What the definitions give: statements of laws.
use Rattle.std.specs.Prelude.{◌≡◌, ◌↔◌, ℕ, ◌+◌, ◌*◌, ◌<◌, ◌≤◌, IsTrue, Some, Result, List, ◌++◌, length, slice_index, slice_set}
use Rattle.bed_machine.specs.declared.machine.Fault.{Fault}
use Rattle.bed_lang.specs.Numbers.{wrap}
use Rattle.bed_machine.specs.Memory.{Memory, word_at, put_word}
use Rattle.bed_machine.specs.MachineCode.{MachineCode}
use Rattle.bed_machine.specs.Machine.{MachineState, IsState, IsStep}
use Rattle.bed_lang.specs.declared.word.Var.{Var}
use Rattle.bed_lang.specs.declared.word.Word.{Word}
use Rattle.bed_lang.specs.declared.logic.Term.{Term}
use Rattle.bed_lang.specs.declared.logic.Assertion.{Assertion}
use Rattle.bed_lang.specs.declared.module.Signature.{Signature}
use Rattle.bed_lang.specs.Same.{same_assertion, same_signature}
use Rattle.bed_lang.specs.Substitution.{replaced, HasValueWith}
use Rattle.bed_lang.specs.Values.{Values}
use Rattle.bed_sat.specs.Parts.{Joins}
use Rattle.bed_sat.specs.Cells.{IsCell, AreWordsAt, IsBlock}
use Rattle.bed_sat.specs.Assertions.{AreTrueTerms, World, meaning, Sat, Holds}
use Rattle.bed_sat.specs.Frames.{Enters, Returned}
use Rattle.bed_sat.specs.Runs.{Outside, Turn, IsRun}
use Rattle.bed_sat.specs.Sound.{Linked, IsSound, IsSoundFromAll}
use Rattle.bed_sat.specs.Returns.{IsReturnProgram}
use Rattle.bed_sat.specs.Scopes.{Scope, Agree, assertion_in}
use Rattle.bed_lang.specs.Instances.{Instance, values_with, terms_with}

-- the order of two parts doesn't matter
abbrev pub PartsCommute : Type 0
PartsCommute = (whole left right : Memory) → Joins whole left right → Joins whole right left

-- nor how three are grouped
abbrev pub PartsAssociate : Type 0
PartsAssociate =
    (whole first others second third : Memory) → Joins whole first others → Joins others second third
    → (both : Memory) × Joins whole both third × Joins both first second

-- a whole and a part have one rest
abbrev pub PartsCancel : Type 0
PartsCancel = (whole part a b : Memory) → Joins whole part a → Joins whole part b → a ≡ b

-- what is true at a depth is true at every greater one
abbrev pub DeeperIsTrue : Type 0
DeeperIsTrue = (w : World) (more depth : ℕ) (ν : Values) (h : Memory) (A : Assertion) → Sat w depth ν h A → Sat w (more + depth) ν h A

-- a word is read from a part as it is from the whole
abbrev pub PartIsRead : Type 0
PartIsRead = (whole part others : Memory) (a v : ℕ) → Joins whole part others → word_at part a ≡ Some v → word_at whole a ≡ Some v

-- a store to a cell makes it a cell of the new word, and keeps what stands beside it
abbrev pub CellIsStored : Type 0
CellIsStored =
    (whole part others : Memory) (a old v : ℕ) → v < 4294967296 → Joins whole part others → IsCell a old part
    → Joins (put_word whole a v) (put_word part a v) others × IsCell a v (put_word part a v)

-- so does a store to word i of a row of words, from 0
abbrev pub SlotIsStored : Type 0
SlotIsStored =
    (whole part others : Memory) (a : ℕ) (vs : List ℕ) (i v : ℕ) → i < length vs → v < 4294967296
    → Joins whole part others → AreWordsAt a vs part
    → Joins (put_word whole (wrap (a + 4 * i)) v) (put_word part (wrap (a + 4 * i)) v) others
    × AreWordsAt a (slice_set vs i v) (put_word part (wrap (a + 4 * i)) v)

-- and word i is read
abbrev pub SlotIsRead : Type 0
SlotIsRead =
    (whole part others : Memory) (a : ℕ) (vs : List ℕ) (i : ℕ) → i < length vs → Joins whole part others → AreWordsAt a vs part
    → word_at whole (wrap (a + 4 * i)) ≡ Some (slice_index vs i)

-- a row of words splits, and two rows, one right after the other, are one
abbrev pub RowSplits : Type 0
RowSplits =
    (a : ℕ) (vs us : List ℕ) (h : Memory) → a < 4294967296 → AreWordsAt a (vs ++ us) h
    → (front back : Memory) × Joins h front back × AreWordsAt a vs front × AreWordsAt (wrap (a + 4 * length vs)) us back

abbrev pub RowsJoin : Type 0
RowsJoin =
    (a : ℕ) (vs us : List ℕ) (h front back : Memory) → a < 4294967296 → Joins h front back → AreWordsAt a vs front
    → AreWordsAt (wrap (a + 4 * length vs)) us back → AreWordsAt a (vs ++ us) h

-- no memory has a block of more than 2^30 words
abbrev pub BlocksAreSmall : Type 0
BlocksAreSmall = (a n : ℕ) (h : Memory) → IsBlock a n h → n ≤ 1073741824

-- an assertion depends on the variables in its scope alone
abbrev pub ScopeDecides : Type 0
ScopeDecides =
    (w : World) (P : Scope) (ν μ : Values) (A : Assertion) (h : Memory)
    → Agree P ν μ → IsTrue (assertion_in P A) → Holds w ν h A → Holds w μ h A

-- and on no place in a text
abbrev pub PlacesAreAside : Type 0
PlacesAreAside =
    (w : World) (ν : Values) (A B : Assertion) (h : Memory) → IsTrue (same_assertion A B) → Holds w ν h A → Holds w ν h B

-- nor does it matter where the parts of a signature stand
abbrev pub SignaturesAreAside : Type 0
SignaturesAreAside =
    (w : World) (S T : Signature) (ν : Values) (s t : MachineState) (F : Memory) → IsTrue (same_signature S T)
    → (Enters w S ν s F → Enters w T ν s F) × (Returned w S ν s t F → Returned w T ν s t F)

-- a word with another in place of a variable has the value that the word has where the variable has the other's
abbrev pub SubstitutionAgrees : Type 0
SubstitutionAgrees = (v : Var) (by w : Word) → HasValueWith v by w (replaced v by w)

-- terms with others in place of their variables, all at once, are true where they are under the values of the others
abbrev pub InstancesAgree : Type 0
InstancesAgree =
    (w : World) (σ : Instance) (ν : Values) (depth : ℕ) (ts : List Term) (h : Memory)
    → AreTrueTerms w.codes w.labels (meaning w depth) ν (terms_with σ ts) h
    ↔ AreTrueTerms w.codes w.labels (meaning w depth) (values_with σ w.labels ν) ts h

-- the first turns of a run are a run
abbrev pub RunsBegin : Type 0
RunsBegin =
    (w : World) (c : MachineCode) (X : Outside) (r0 : ℕ) (s : MachineState) (ts us : List MachineState)
    → IsRun w c X r0 s (ts ++ us) → IsRun w c X r0 s ts

-- after a turn registers hold words and memory bytes, where they did before
abbrev pub TurnsKeepStates : Type 0
TurnsKeepStates =
    (w : World) (c : MachineCode) (X : Outside) (r0 : ℕ) (s t : MachineState) → IsState s → Turn w c X r0 s t → IsState t

-- a step has one result: the state after it, or its fault
abbrev pub StepsAreUnique : Type 0
StepsAreUnique = (c : MachineCode) (s : MachineState) (r q : Result MachineState Fault) → IsStep c s r → IsStep c s q → r ≡ q

-- code of functions that only return a value is sound, from its exported functions and from all
abbrev pub ReturnsAreSound : Type 0
ReturnsAreSound = (p : Linked) → IsReturnProgram p → IsSound p

abbrev pub ReturnsAreSoundFromAll : Type 0
ReturnsAreSoundFromAll = (p : Linked) → IsReturnProgram p → IsSoundFromAll p

-- code that is sound from all its functions is so from the exported ones
abbrev pub ExportedAreAmongAll : Type 0
ExportedAreAmongAll = (p : Linked) → IsSoundFromAll p → IsSound p
