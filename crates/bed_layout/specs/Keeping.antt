-- What the blocks of a whole function keep, from its first label to its returns.
use Rattle.std.specs.Prelude.{◌≡◌, ℕ, ◌<◌, List}
use Rattle.bed_machine.specs.Memory.{Memory, IsMemory}
use Rattle.bed_lang.specs.Values.{Values}
use Rattle.bed_sat.specs.Parts.{Includes}
use Rattle.bed_sat.specs.Assertions.{World}
use Rattle.bed_sat.specs.Frames.{arguments_at, EntersAt, LeavesAt}
use Rattle.bed_il.specs.declared.blocks.Block.{Block}
use Rattle.bed_il.specs.BlockMachine.{BlockState}
use Rattle.bed_laws.specs.Activations.{FunctionSite, Activation}
use Rattle.bed_laws.specs.Keeps.{LoopHead, IsReturn, Safe}

-- a state at a function's first label, with a return address that is a word and a memory of bytes
pub record IsEntry (entry : ℕ) (s : BlockState) : Type 0 where
  pub label : s.label ≡ entry
  pub next : s.next ≡ 0
  pub return_address : s.rp < 4294967296
  pub bytes : IsMemory s.memory

module _ (w : World) (c : FunctionSite) (places : ℕ → ℕ) (B : List Block) (heads : List LoopHead) where
  -- A run of a function from the state s, under these values and beside F. It is an activation with the frame and the return address
  -- of s, beside what contains F. For any number of turns no access faults, what is beside stays, invariants hold at loop heads,
  -- calls meet their signatures, and control never comes behind the blocks; and each return meets the postcondition, under the values
  -- and beside the F of the entry.
  pub record RunsFrom (ν : Values) (F : Memory) (s : BlockState) : Type 0 where
    pub activation : Activation
    pub sp : activation.sp ≡ s.sp
    pub back : activation.back ≡ s.rp
    pub rest : Includes activation.rest F
    pub safe : (n : ℕ) → Safe w c places B heads activation (λ t. ⊥) n s
    pub leaves : (t : BlockState) → IsReturn w c activation t
        → LeavesAt w c.signature ν s.sp (arguments_at c.signature s.sp s.memory) t.rv t.memory F

  -- the blocks of a function keep its specification: wherever control comes to its first label with the precondition met
  abbrev pub KeepsFunction : ℕ → Type 0
  KeepsFunction entry =
      (ν : Values) (F : Memory) (s : BlockState) → IsEntry entry s
      → EntersAt w c.signature ν s.sp (arguments_at c.signature s.sp s.memory) s.memory F → RunsFrom ν F s
