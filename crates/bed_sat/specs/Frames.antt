-- When a state meets a specification, by the conventions of the code: EBP is the address of the function's frame, ESI the
-- return address, EAX the answer. A signature with k arguments and reserve r has a frame of 1 + k + r words: word 0 is for the
-- return address, and words 1 to k hold the arguments.
use Rattle.std.specs.Prelude.{◌≡◌, ℕ, zero, suc, ◌+◌, Option, List, [], ◌∷◌, ◌++◌, length, unwrap_or}
use Rattle.bed_lang.specs.Numbers.{wrap}
use Rattle.bed_machine.specs.Memory.{Memory, word_at}
use Rattle.bed_machine.specs.Machine.{MachineState}
use Rattle.bed_lang.specs.declared.word.Name.{Name}
use Rattle.bed_lang.specs.declared.logic.Assertion.{Assertion}
use Rattle.bed_lang.specs.declared.module.Signature.{Signature}
use Rattle.bed_lang.specs.Lookups.{signature_named}
use Rattle.bed_lang.specs.Values.{Values, Named, Answer, set_word}
use Rattle.bed_sat.specs.Parts.{JoinsAll, Includes}
use Rattle.bed_sat.specs.Cells.{AreWordsAt, IsBlock}
use Rattle.bed_sat.specs.Assertions.{World, Holds}

-- the n words in a row at an address; 0 where there is none
abbrev pub words_at : Memory → ℕ → ℕ → List ℕ
words_at m address zero = []
words_at m address (suc n) = unwrap_or (word_at m address) 0 ∷ words_at m (wrap (address + 4)) n

-- names set to words, in order, as far as there are both
abbrev pub set_words : Values → List Name → List ℕ → Values
set_words ν [] vs = ν
set_words ν (x ∷ xs) [] = ν
set_words ν (x ∷ xs) (v ∷ vs) = set_words (set_word ν (Named x.bytes) v) xs vs

-- how many words a function's frame has
abbrev pub frame_size : Signature → ℕ
frame_size S = 1 + length S.params + S.reserve

-- the arguments in the frame at an address: its words 1 to k
abbrev pub arguments_at : Signature → ℕ → Memory → List ℕ
arguments_at S sp m = words_at m (wrap (sp + 4)) (length S.params)

-- the arguments in a state's frame
abbrev pub arguments : Signature → MachineState → List ℕ
arguments S s = arguments_at S s.regs.ebp s.memory

-- the first declared signature of a name
abbrev pub signature_of : World → List ℕ → Option Signature
signature_of w name = signature_named w.decls name

module _ (w : World) where
  -- A memory meets a precondition under these values, with these arguments, beside F: it is the disjoint union of the frame at
  -- sp with the arguments in its words 1 to k, of a part on which the precondition holds, its parameters set to the arguments,
  -- and of F.
  pub record EntersAt (S : Signature) (ν : Values) (sp : ℕ) (args : List ℕ) (m F : Memory) : Type 0 where
    pub frame : Memory
    pub heap : Memory
    pub parts : JoinsAll m (frame ∷ heap ∷ F ∷ [])
    pub back : ℕ
    pub area : List ℕ
    pub args_count : length args ≡ length S.params
    pub area_count : length area ≡ S.reserve
    pub is_frame : AreWordsAt sp (back ∷ (args ++ area)) frame
    pub pre : Holds w (set_words ν S.params args) heap S.pre

  -- A memory meets a postcondition under these values, with these arguments and this answer, beside F: it is the disjoint union
  -- of the frame at sp with any contents, of a part on which the postcondition holds, its parameters set to the arguments and
  -- `result` to the answer, and of F.
  pub record LeavesAt (S : Signature) (ν : Values) (sp : ℕ) (args : List ℕ) (answer : ℕ) (m F : Memory) : Type 0 where
    pub frame : Memory
    pub heap : Memory
    pub parts : JoinsAll m (frame ∷ heap ∷ F ∷ [])
    pub is_frame : IsBlock sp (frame_size S) frame
    pub post : Holds w (set_word (set_words ν S.params args) Answer answer) heap S.post

  -- a state meets a signature at its entry, with the arguments in the frame, beside F
  abbrev pub Enters : Signature → Values → MachineState → Memory → Type 0
  Enters S ν s F = EntersAt S ν s.regs.ebp (arguments S s) s.memory F

  -- a state is a return from the entry at state s, beside the same F: control is at the return address, EBP, EBX, ESP and EDI
  -- are as at the entry, and the postcondition is met with the arguments of the entry and EAX as the answer
  pub record Returned (S : Signature) (ν : Values) (s t : MachineState) (F : Memory) : Type 0 where
    pub eip : t.eip ≡ s.regs.esi
    pub ebp : t.regs.ebp ≡ s.regs.ebp
    pub ebx : t.regs.ebx ≡ s.regs.ebx
    pub esp : t.regs.esp ≡ s.regs.esp
    pub edi : t.regs.edi ≡ s.regs.edi
    pub leaves : LeavesAt S ν s.regs.ebp (arguments S s) t.regs.eax t.memory F

  -- a state meets a signature at its entry for some values, beside some rest that contains F: nothing of F is used for it
  pub record Meets (S : Signature) (s : MachineState) (F : Memory) : Type 0 where
    pub values : Values
    pub rest : Memory
    pub keeps : Includes rest F
    pub enters : Enters S values s rest

  -- A memory meets the invariant of a loop in a function with this signature and these locals, the arguments first, under these
  -- values of the logical variables and of the arguments at entry, beside F: it is the disjoint union of the frame at sp with any
  -- contents, of a part on which the invariant holds, each local read from its slot, and of F. The slots are the words 1, 2 and so
  -- on of the frame.
  pub record InvariantAt (S : Signature) (locals : List Name) (invariant : Assertion) (ν : Values) (sp : ℕ) (m F : Memory) : Type 0 where
    pub frame : Memory
    pub heap : Memory
    pub parts : JoinsAll m (frame ∷ heap ∷ F ∷ [])
    pub is_frame : IsBlock sp (frame_size S) frame
    pub holds : Holds w (set_words ν locals (words_at m (wrap (sp + 4)) (length locals))) heap invariant

  -- a state meets the invariant of a loop for some values, beside some rest that contains F
  pub record IsAtLoop (S : Signature) (locals : List Name) (invariant : Assertion) (s : MachineState) (F : Memory) : Type 0 where
    pub values : Values
    pub rest : Memory
    pub keeps : Includes rest F
    pub meets : InvariantAt S locals invariant values s.regs.ebp s.memory rest
