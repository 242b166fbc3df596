-- What `il_step` answers, by the turn that the block machine makes with each block at the address that is its label.
use Rattle.std.specs.Prelude.{ℕ, ◌<◌, Some, Result, Ok, Err, List, Contains, length}
use Rattle.bed_machine.specs.Memory.{Memory}
use Rattle.bed_machine.specs.declared.registers.Reg.TheVariants.{Edx, Esi}
use Rattle.bed_il.specs.declared.blocks.Value.{Value}
use Rattle.bed_il.specs.declared.blocks.Value.TheVariants.{Number, Slot, Function}
use Rattle.bed_il.specs.declared.blocks.Inst.{Inst}
use Rattle.bed_il.specs.declared.blocks.Inst.TheVariants.{Fetch}
use Rattle.bed_il.specs.declared.blocks.Jump.{Jump}
use Rattle.bed_il.specs.declared.blocks.Jump.TheVariants.{Register}
use Rattle.bed_il.specs.declared.blocks.Block.{Block}
use Rattle.bed_il.specs.declared.states.IlState.{IlState}
use Rattle.bed_il.specs.declared.states.IlMove.{IlMove}
use Rattle.bed_il.specs.declared.states.IlMove.TheVariants as told
use Rattle.bed_il.specs.declared.states.IlFault.{IlFault}
use Rattle.bed_il.specs.declared.states.IlFault.TheVariants.{Unmapped, NoBlock}
use Rattle.bed_il.specs.BlockMachine.{BlockState, Move, Within, Returns, Calls, Strays, Faults, Missing, in_blocks, il_move}

-- a state over a store, where `bytes` says which memory a store is
abbrev pub seen : {D : Type 0} → (D → Memory) → IlState D → BlockState
seen bytes s = record {
  sp = s.sp;
  rp = s.rp;
  rv = s.rv;
  first = s.first;
  second = s.second;
  label = s.label;
  next = s.next;
  memory = bytes s.mem;
}

-- no address of a function is asked for
abbrev pub NamesNone : Inst → Type 0
NamesNone (Fetch into (Function f)) = ⊥
NamesNone _ = Unit {0}

-- a jump by register is by ESI or by EDX
abbrev pub IsByEsiOrEdx : Jump → Type 0
IsByEsiOrEdx (Register Esi) = Unit {0}
IsByEsiOrEdx (Register Edx) = Unit {0}
IsByEsiOrEdx (Register _) = ⊥
IsByEsiOrEdx _ = Unit {0}

-- What `il_step` asks of a block: no instruction of it names a function, since no address is given for one; it leaves by ESI or
-- EDX, if by a register; and a u32 counts its instructions.
pub record CanStep (b : Block) : Type 0 where
  pub no_functions : (i : Inst) → Contains b.insts i → NamesNone i
  pub registers : IsByEsiOrEdx b.jump
  pub few : length b.insts < 4294967296

-- the turn, with each label its own address; no function is named, so their addresses don't matter
abbrev pub turn : List Block → BlockState → Move
turn B s = il_move (λ f. 0) (λ l. l) B s

-- the same in a block
abbrev pub turn_in : Block → BlockState → Move
turn_in b s = in_blocks (λ f. 0) (λ l. l) (Some b) s

-- what is told of a turn from a state; no block that can step strays
abbrev pub told_of : BlockState → Move → Result IlMove IlFault
told_of s (Within t) = Ok told.Within
told_of s Returns = Ok (told.Leaves s.rp)
told_of s (Calls back) = Ok (told.Leaves s.second)
told_of s Strays = Ok told.Within
told_of s (Faults a) = Err (Unmapped a)
told_of s Missing = Err (NoBlock s.label)

-- the state after a turn: where control leaves, and after a fault, that before it
abbrev pub state_after : BlockState → Move → BlockState
state_after s (Within t) = t
state_after s Returns = s
state_after s (Calls back) = s
state_after s Strays = s
state_after s (Faults a) = s
state_after s Missing = s

-- the state after an effect, or the address of its fault, by an answer that has one of them
abbrev pub made : {A : Type 0} → Result A ℕ → BlockState → Result BlockState ℕ
made (Ok x) s = Ok s
made (Err a) s = Err a
