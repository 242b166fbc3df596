-- The bytes of blocks. Each instruction of a block is one instruction of the machine, so its bytes are those of the machine's
-- table; a fall has none, and a test has two instructions: the comparison, and the jump that is taken where it is false.
use Rattle.std.specs.Prelude.{ℕ, ◌+◌, ◌-◌, true, false, List, [], ◌∷◌, ◌++◌, length}
use Rattle.bed_lang.specs.Numbers.{wrap}
use Rattle.bed_lang.specs.declared.module.Op.{Op}
use Rattle.bed_lang.specs.declared.module.Op.TheVariants as op
use Rattle.bed_lang.specs.declared.module.Rel.{Rel}
use Rattle.bed_lang.specs.declared.module.Rel.TheVariants.{Equal, Unequal, Less, AtMost}
use Rattle.bed_machine.specs.Instructions.{row}
use Rattle.bed_machine.specs.declared.registers.Reg.{Reg}
use Rattle.bed_machine.specs.declared.registers.Reg.TheVariants.{Eax, Ecx, Edx, Ebp, Esi}
use Rattle.bed_machine.specs.declared.instructions.Rm.TheVariants.{Reg as InRegister, Mem}
use Rattle.bed_machine.specs.declared.instructions.Arith.TheVariants as arith
use Rattle.bed_machine.specs.declared.instructions.Branch.{Branch}
use Rattle.bed_machine.specs.declared.instructions.Branch.TheVariants as branch
use Rattle.bed_machine.specs.declared.instructions.Ins.{Ins}
use Rattle.bed_machine.specs.declared.instructions.Ins.TheVariants.{MovImm, MovTo, MovFrom, MovByte, Movzx, Arith as Compute, Cmp, Imul, Immediate, Jmp, Jcc, JmpReg}
use Rattle.bed_il.specs.declared.blocks.Scratch.{Scratch}
use Rattle.bed_il.specs.declared.blocks.Scratch.TheVariants.{First, Second}
use Rattle.bed_il.specs.declared.blocks.Value.TheVariants.{Number, Slot, Function}
use Rattle.bed_il.specs.declared.blocks.Inst.{Inst}
use Rattle.bed_il.specs.declared.blocks.Inst.TheVariants.{SaveReturn, Fetch, Keep, KeepAnswer, Apply, LoadWord, LoadByte, StoreWord, StoreByte, RaiseSp, LowerSp, ReturnTo, SetAnswer, TakeReturn}
use Rattle.bed_il.specs.declared.blocks.Jump.{Jump}
use Rattle.bed_il.specs.declared.blocks.Jump.TheVariants.{Goto, Fall, Test, Register}
use Rattle.bed_il.specs.declared.blocks.Block.{Block}

-- the register of an operand
abbrev pub register_of : Scratch → Reg
register_of First = Ecx
register_of Second = Edx

-- the operation on ECX and EDX
abbrev pub operation : Op → Ins
operation op.Add = Compute arith.Add Ecx Edx
operation op.Sub = Compute arith.Sub Ecx Edx
operation op.Mul = Imul Ecx Edx
operation op.And = Compute arith.And Ecx Edx
operation op.Or = Compute arith.Or Ecx Edx
operation op.Xor = Compute arith.Xor Ecx Edx

-- the jump that is taken where words don't compare so
abbrev pub otherwise : Rel → Branch
otherwise Equal = branch.NotEqual
otherwise Unequal = branch.Equal
otherwise Less = branch.NotBelow
otherwise AtMost = branch.Above

-- the bytes of the machine's instructions in a row
abbrev pub rows_of : List Ins → List ℕ
rows_of [] = []
rows_of (i ∷ is) = row i ++ rows_of is

-- the address of each block, by its label
module _ (places : ℕ → ℕ) where
  -- what a relative jump adds to the address of the next instruction, modulo 2^32, to come to a label
  abbrev pub distance : ℕ → ℕ → ℕ
  distance next l = wrap (places l + (4294967296 - wrap next))

  -- the machine's instructions that a jump is, where its first byte is at an address
  abbrev pub jump_of : Jump → ℕ → List Ins
  jump_of (Goto l) at = Jmp (distance (at + 5) l) ∷ []
  jump_of (Fall l) at = []
  jump_of (Test rel on_true on_false) at = Cmp Ecx Edx ∷ Jcc (otherwise rel) (distance (at + 8) on_false) ∷ []
  jump_of (Register r) at = JmpReg r ∷ []

  abbrev pub jump_bytes : Jump → ℕ → List ℕ
  jump_bytes jump at = rows_of (jump_of jump at)

-- the address of each function and import too, by its name
module _ (functions : List ℕ → ℕ) (places : ℕ → ℕ) where
  -- the machine's instruction that an instruction of a block is
  abbrev pub ins_of : Inst → Ins
  ins_of SaveReturn = MovTo (Mem Ebp 0) Esi
  ins_of (Fetch into (Number n)) = MovImm (register_of into) n
  ins_of (Fetch into (Slot disp)) = MovFrom (register_of into) (Mem Ebp disp)
  ins_of (Fetch into (Function f)) = MovImm (register_of into) (functions f.bytes)
  ins_of (Keep disp) = MovTo (Mem Ebp disp) Ecx
  ins_of (KeepAnswer disp) = MovTo (Mem Ebp disp) Eax
  ins_of (Apply o) = operation o
  ins_of (LoadWord disp) = MovFrom Ecx (Mem Ecx disp)
  ins_of (LoadByte disp) = Movzx Ecx Ecx disp
  ins_of (StoreWord disp) = MovTo (Mem Ecx disp) Edx
  ins_of (StoreByte disp) = MovByte Ecx disp Edx
  ins_of (RaiseSp n) = Immediate false Ebp n
  ins_of (LowerSp n) = Immediate true Ebp n
  ins_of (ReturnTo l) = MovImm Esi (places l)
  ins_of SetAnswer = MovFrom Eax (InRegister Ecx)
  ins_of TakeReturn = MovFrom Esi (Mem Ebp 0)

  -- the bytes of instructions in a row
  abbrev pub insts_bytes : List Inst → List ℕ
  insts_bytes [] = []
  insts_bytes (i ∷ is) = row (ins_of i) ++ insts_bytes is

  -- the bytes of a block, from an address
  abbrev pub block_bytes : Block → ℕ → List ℕ
  block_bytes b at = insts_bytes b.insts ++ jump_bytes places b.jump (at + length (insts_bytes b.insts))

  -- the bytes of blocks one right after the other, from an address
  abbrev pub laid : List Block → ℕ → List ℕ
  laid [] at = []
  laid (b ∷ bs) at = block_bytes b at ++ laid bs (at + length (block_bytes b at))
