-- One run of a function, from its entry to its return, as blocks see it: the states that belong to it.
use Rattle.std.specs.Prelude.{◌≡◌, ◌≢◌, ◌⊎◌, ℕ, ◌+◌, List, [], ◌∷◌, ◌++◌, length}
use Rattle.bed_machine.specs.Memory.{Memory, IsMemory}
use Rattle.bed_lang.specs.declared.word.Name.{Name}
use Rattle.bed_lang.specs.declared.module.Signature.{Signature}
use Rattle.bed_lang.specs.Values.{Values, Variable, Named}
use Rattle.bed_sat.specs.Parts.{Joins}
use Rattle.bed_sat.specs.Cells.{AreWordsAt}
use Rattle.bed_sat.specs.Frames.{frame_size}
use Rattle.bed_sat.specs.Conditions.{Site}
use Rattle.bed_il.specs.BlockMachine.{BlockState}

-- where code stands: a function of a module with its locals, and its signature
pub record FunctionSite : Type 0 where
  pub site : Site
  pub signature : Signature

-- where the frame is, the address to return to, the values at entry, and the memory beside it
pub record Activation : Type 0 where
  pub sp : ℕ
  pub back : ℕ
  pub values : Values
  pub rest : Memory

-- one of these names
abbrev pub IsAmong : List Name → List ℕ → Type 0
IsAmong [] x = ⊥
IsAmong (y ∷ ys) x = (y.bytes ≡ x) ⊎ IsAmong ys x

-- the names differ
abbrev pub AreDistinct : List Name → Type 0
AreDistinct [] = Unit {0}
AreDistinct (x ∷ xs) = (IsAmong xs x.bytes → ⊥) × AreDistinct xs

-- values differ from others at these names alone
pub record AgreeButAt (names : List Name) (ν μ : Values) : Type 0 where
  pub words : (x : Variable) → ((y : List ℕ) → IsAmong names y → x ≢ Named y) → ν.words x ≡ μ.words x
  pub lists : (x : Variable) → ν.lists x ≡ μ.lists x

-- the values of names
abbrev pub words_of : Values → List Name → List ℕ
words_of ν [] = []
words_of ν (x ∷ xs) = ν.words (Named x.bytes) ∷ words_of ν xs

-- A memory of an activation, where variables have the values ν and the function's heap is h: it is the disjoint union of the
-- frame, h, and the activation's rest. The frame has the return address, the words of the locals under ν, and an area for the frames of
-- callees. The values are those at entry but at the locals.
pub record IsMemoryOf (c : FunctionSite) (a : Activation) (ν : Values) (h m : Memory) : Type 0 where
  pub bytes : IsMemory m
  pub frame : Memory
  pub beside : Memory
  pub joins : Joins m frame beside
  pub parts : Joins beside h a.rest
  pub area : List ℕ
  pub size : 1 + (length c.site.locals + length area) ≡ frame_size c.signature
  pub is_frame : AreWordsAt a.sp (a.back ∷ (words_of ν c.site.locals ++ area)) frame
  pub agree : AgreeButAt c.site.locals ν a.values

-- a state of an activation
pub record IsStateOf (c : FunctionSite) (a : Activation) (ν : Values) (h : Memory) (s : BlockState) : Type 0 where
  pub sp : s.sp ≡ a.sp
  pub memory : IsMemoryOf c a ν h s.memory
