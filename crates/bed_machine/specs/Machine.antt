-- The machine: what each instruction does, by the operation sections of the "Intel 64 and IA-32
-- Architectures Software Developer's Manual", volume 2. Flags after arithmetic are left unknown here,
-- and data accesses see data memory alone.
use Rattle.std.specs.Prelude.{◌≡◌, ℕ, ◌+◌, ◌-◌, ◌*◌, ◌<◌, Bool, true, false, not, ◌||◌, Option, Some, None, Result, Ok, Err, nat_eq, nat_lt, bit_and, bit_or, bit_xor}
use Rattle.bed_lang.specs.Numbers.{wrap}
use Rattle.bed_machine.specs.Memory.{Memory, IsMemory, word_at, put_byte, put_word}
use Rattle.bed_machine.specs.MachineCode.{MachineCode, IsInCode, bytes_from}
use Rattle.bed_machine.specs.Instructions.{BeginsWith}
use Rattle.bed_machine.specs.declared.registers.Reg.{Reg}
use Rattle.bed_machine.specs.declared.registers.Reg.TheVariants.{Eax, Ecx, Edx, Ebx, Esp, Ebp, Esi, Edi}
use Rattle.bed_machine.specs.declared.registers.Regs.{Regs}
use Rattle.bed_machine.specs.declared.instructions.Rm.TheVariants.{Reg as InRegister, Mem}
use Rattle.bed_machine.specs.declared.instructions.Arith.{Arith}
use Rattle.bed_machine.specs.declared.instructions.Arith.TheVariants.{Add, Or, And, Sub, Xor}
use Rattle.bed_machine.specs.declared.instructions.Branch.{Branch}
use Rattle.bed_machine.specs.declared.instructions.Branch.TheVariants.{Below, NotBelow, Equal, NotEqual, NotAbove, Above}
use Rattle.bed_machine.specs.declared.instructions.Ins.{Ins}
use Rattle.bed_machine.specs.declared.instructions.Ins.TheVariants.{MovImm, MovTo, MovFrom, MovByte, Movzx, Arith as Compute, Cmp, Imul, Immediate, Jmp, Jcc, JmpReg}
use Rattle.bed_machine.specs.declared.machine.Flags.{Flags}
use Rattle.bed_machine.specs.declared.machine.Flags.TheVariants.{Unknown, Known}
use Rattle.bed_machine.specs.declared.machine.Fault.{Fault}
use Rattle.bed_machine.specs.declared.machine.Fault.TheVariants.{Undefined, FlagsUnknown, Unmapped}
use Rattle.bed_machine.specs.declared.machine.State.{State}

-- a state: registers, the address of the next instruction, flags and data memory
pub record MachineState : Type 0 where
  pub regs : Regs
  pub eip : ℕ
  pub flags : Flags
  pub memory : Memory

-- a state over a store, where `bytes` says which memory a store is
abbrev pub seen : {D : Type 0} → (D → Memory) → State D → MachineState
seen bytes s = record { regs = s.regs; eip = s.eip; flags = s.flags; memory = bytes s.mem }

-- each register holds a 32-bit word
pub record AreWords (r : Regs) : Type 0 where
  pub eax : r.eax < 4294967296
  pub ecx : r.ecx < 4294967296
  pub edx : r.edx < 4294967296
  pub ebx : r.ebx < 4294967296
  pub esp : r.esp < 4294967296
  pub ebp : r.ebp < 4294967296
  pub esi : r.esi < 4294967296
  pub edi : r.edi < 4294967296

-- registers and eip are 32-bit words, and memory is of bytes at such addresses
pub record IsState (s : MachineState) : Type 0 where
  pub regs : AreWords s.regs
  pub eip : s.eip < 4294967296
  pub memory : IsMemory s.memory

-- what a register holds
abbrev pub register : Regs → Reg → ℕ
register r Eax = r.eax
register r Ecx = r.ecx
register r Edx = r.edx
register r Ebx = r.ebx
register r Esp = r.esp
register r Ebp = r.ebp
register r Esi = r.esi
register r Edi = r.edi

-- the registers with one of them set
abbrev pub set_register : Regs → Reg → ℕ → Regs
set_register r Eax v = record r { eax = v }
set_register r Ecx v = record r { ecx = v }
set_register r Edx v = record r { edx = v }
set_register r Ebx v = record r { ebx = v }
set_register r Esp v = record r { esp = v }
set_register r Ebp v = record r { ebp = v }
set_register r Esi v = record r { esi = v }
set_register r Edi v = record r { edi = v }

-- the result of an operation on two words
abbrev pub result_of : Arith → ℕ → ℕ → ℕ
result_of Add a b = wrap (a + b)
result_of Or a b = bit_or a b
result_of And a b = bit_and a b
result_of Sub a b = wrap (a + (4294967296 - b))
result_of Xor a b = bit_xor a b

-- whether a conditional jump is taken, where the flags are known
abbrev pub is_taken : Branch → Flags → Option Bool
is_taken branch Unknown = None
is_taken Below (Known carry zero) = Some carry
is_taken NotBelow (Known carry zero) = Some (not carry)
is_taken Equal (Known carry zero) = Some zero
is_taken NotEqual (Known carry zero) = Some (not zero)
is_taken NotAbove (Known carry zero) = Some (carry || zero)
is_taken Above (Known carry zero) = Some (not (carry || zero))

-- the flags after a comparison: carry on an unsigned borrow, zero on equality
abbrev pub compared : ℕ → ℕ → Flags
compared a b = Known (nat_lt a b) (nat_eq a b)

-- the address of a memory operand
abbrev pub address_of : MachineState → Reg → ℕ → ℕ
address_of s base disp = wrap (register s.regs base + disp)

-- the state at the next instruction, with a register set
abbrev pub with_register : MachineState → ℕ → Reg → ℕ → MachineState
with_register s next r v = record s { regs = set_register s.regs r v; eip = next }

-- the same after arithmetic
abbrev pub with_result : MachineState → ℕ → Reg → ℕ → MachineState
with_result s next r v = record s { regs = set_register s.regs r v; eip = next; flags = Unknown }

-- the state at the next instruction, with another memory
abbrev pub with_memory : MachineState → ℕ → Memory → MachineState
with_memory s next m = record s { eip = next; memory = m }

-- what follows an access at an address that holds this, or the fault
abbrev pub on_access : Option ℕ → ℕ → (ℕ → MachineState) → Result MachineState Fault
on_access None a after = Err (Unmapped a)
on_access (Some v) a after = Ok (after v)

-- what follows a conditional jump
abbrev pub on_branch : Option Bool → MachineState → ℕ → ℕ → Result MachineState Fault
on_branch None s next target = Err (FlagsUnknown s.eip)
on_branch (Some true) s next target = Ok (record s { eip = target })
on_branch (Some false) s next target = Ok (record s { eip = next })

-- the state after an instruction, or its fault; `next` is the address after the instruction
abbrev pub effect : Ins → ℕ → MachineState → Result MachineState Fault
effect (MovImm to imm) next s = Ok (with_register s next to imm)
effect (MovTo (InRegister to) from) next s = Ok (with_register s next to (register s.regs from))
effect (MovTo (Mem base disp) from) next s =
    let a = address_of s base disp in
    on_access (word_at s.memory a) a (λ _. with_memory s next (put_word s.memory a (register s.regs from)))
effect (MovFrom to (InRegister from)) next s = Ok (with_register s next to (register s.regs from))
effect (MovFrom to (Mem base disp)) next s =
    let a = address_of s base disp in
    on_access (word_at s.memory a) a (λ v. with_register s next to v)
effect (MovByte base disp from) next s =
    let a = address_of s base disp in
    on_access (s.memory a) a (λ _. with_memory s next (put_byte s.memory a (register s.regs from)))
effect (Movzx to base disp) next s =
    let a = address_of s base disp in
    on_access (s.memory a) a (λ v. with_register s next to v)
effect (Compute op to from) next s = Ok (with_result s next to (result_of op (register s.regs to) (register s.regs from)))
effect (Cmp left right) next s = Ok (record s { eip = next; flags = compared (register s.regs left) (register s.regs right) })
effect (Imul to from) next s = Ok (with_result s next to (wrap (register s.regs to * register s.regs from)))
effect (Immediate false to imm) next s = Ok (with_result s next to (result_of Add (register s.regs to) imm))
effect (Immediate true to imm) next s = Ok (with_result s next to (result_of Sub (register s.regs to) imm))
effect (Jmp rel) next s = Ok (record s { eip = wrap (next + rel) })
effect (Jcc branch rel) next s = on_branch (is_taken branch s.flags) s next (wrap (next + rel))
effect (JmpReg r) next s = Ok (record s { eip = register s.regs r })

-- what one step of a program gives: the state after it, or its fault
pub data IsStep (c : MachineCode) (s : MachineState) (r : Result MachineState Fault) : Type 0 where
  -- the next instruction isn't in the code
  Outside : (IsInCode c s.eip → ⊥) → r ≡ Err (Unmapped s.eip) → IsStep c s r
  -- no instruction begins there
  NoInstruction : IsInCode c s.eip → ((i : Ins) (size : ℕ) → BeginsWith (bytes_from c s.eip) i size → ⊥) → r ≡ Err (Undefined s.eip) → IsStep c s r
  -- an instruction begins there, and has its effect
  Makes : IsInCode c s.eip → (i : Ins) (size : ℕ) → BeginsWith (bytes_from c s.eip) i size → r ≡ effect i (wrap (s.eip + size)) s → IsStep c s r

-- the state after a call that may answer a fault, or the fault
abbrev pub outcome : {A : Type 0} → Result A Fault → MachineState → Result MachineState Fault
outcome (Ok x) s = Ok s
outcome (Err fault) s = Err fault
