-- Functions from their entry to their return.
use Rattle.std.specs.Prelude.{◌≡◌, ◌<◌, ℕ, List, [], ◌∷◌}
use Rattle.bed_machine.specs.Memory.{Memory, IsMemory}
use Rattle.bed_lang.specs.declared.word.Name.{Name}
use Rattle.bed_lang.specs.declared.logic.Assertion.{Assertion}
use Rattle.bed_lang.specs.declared.module.Signature.{Signature}
use Rattle.bed_lang.specs.Values.{Values, Variable, Named, Old, Answer, set_word}
use Rattle.bed_sat.specs.Assertions.{World, Holds}
use Rattle.bed_sat.specs.Frames.{arguments_at, EntersAt}
use Rattle.bed_il.specs.declared.blocks.Block.{Block}
use Rattle.bed_il.specs.BlockMachine.{BlockState}
use Rattle.bed_laws.specs.Activations.{FunctionSite, Activation, IsAmong}
use Rattle.bed_laws.specs.Keeps.{LoopHead, Safe}

-- the arguments at entry set to words, in order, as far as there are both
abbrev pub set_olds : Values → List Name → List ℕ → Values
set_olds ν [] vs = ν
set_olds ν (x ∷ xs) [] = ν
set_olds ν (x ∷ xs) (v ∷ vs) = set_olds (set_word ν (Old x.bytes) v) xs vs

-- the activation of a function that is entered at a state, for values of the logical variables, beside F
abbrev pub activation_at : Signature → Values → BlockState → Memory → Activation
activation_at S ν s F = record { sp = s.sp; back = s.rp; values = set_olds ν S.params (arguments_at S s.sp s.memory); rest = F }

-- control is at the first instruction of the block of a label, the return address is a word, and memory is one of bytes
abbrev pub Begins : ℕ → BlockState → Type 0
Begins entry s = (s.label ≡ entry) × (s.next ≡ 0) × (s.rp < 4294967296) × IsMemory s.memory

module _ (w : World) where
  -- from each state at the entry that meets the precondition, for values and beside a rest, the blocks are safe for any number of turns,
  -- and control doesn't leave them but by a call or a return
  abbrev pub FunctionKeeps : FunctionSite → (ℕ → ℕ) → List Block → List LoopHead → ℕ → Type 0
  FunctionKeeps c places B heads entry =
      (ν : Values) (F : Memory) (s : BlockState) → Begins entry s → EntersAt w c.signature ν s.sp (arguments_at c.signature s.sp s.memory) s.memory F
      → (n : ℕ) → Safe w c places B heads (activation_at c.signature ν s F) (λ t. ⊥) n s

  -- an assertion that speaks of parameters, logical variables and the answer alone: neither of old arguments nor of further locals
  pub record IsOwn (further : List Name) (A : Assertion) : Type 0 where
    pub same : (ν μ : Values) (h : Memory) → ((x : List ℕ) → (IsAmong further x → ⊥) → ν.words (Named x) ≡ μ.words (Named x)) → ν.words Answer ≡ μ.words Answer
        → ((x : Variable) → ν.lists x ≡ μ.lists x) → Holds w ν h A → Holds w μ h A
