-- The instructions and their bytes: the opcode tables of the "Intel 64 and IA-32 Architectures Software
-- Developer's Manual", volume 2, for the forms that are allowed here. Words are little-endian. A byte
-- ModR/M has its mode in bits 7 and 6, a register or a part of the opcode in bits 5 to 3, and the
-- register or base of the operand in bits 2 to 0. Mode 3 is a register, and mode 2 the memory at a base
-- plus a 32-bit displacement.
use Rattle.std.specs.Prelude.{◌≡◌, ◌≢◌, ℕ, ◌+◌, ◌*◌, ◌/◌, ◌%◌, ◌<◌, true, false, List, [], ◌∷◌, ◌++◌, length}
use Rattle.bed_lang.specs.Numbers.{word_bytes}
use Rattle.bed_machine.specs.declared.registers.Reg.{Reg}
use Rattle.bed_machine.specs.declared.registers.Reg.TheVariants.{Eax, Ecx, Edx, Ebx, Esp, Ebp, Esi, Edi}
use Rattle.bed_machine.specs.declared.instructions.Rm.{Rm}
use Rattle.bed_machine.specs.declared.instructions.Rm.TheVariants.{Reg as InRegister, Mem}
use Rattle.bed_machine.specs.declared.instructions.Arith.{Arith}
use Rattle.bed_machine.specs.declared.instructions.Arith.TheVariants.{Add, Or, And, Sub, Xor}
use Rattle.bed_machine.specs.declared.instructions.Branch.{Branch}
use Rattle.bed_machine.specs.declared.instructions.Branch.TheVariants.{Below, NotBelow, Equal, NotEqual, NotAbove, Above}
use Rattle.bed_machine.specs.declared.instructions.Ins.{Ins}
use Rattle.bed_machine.specs.declared.instructions.Ins.TheVariants.{MovImm, MovTo, MovFrom, MovByte, Movzx, Arith as Compute, Cmp, Imul, Immediate, Jmp, Jcc, JmpReg}

-- the number of a register
abbrev pub number_of : Reg → ℕ
number_of Eax = 0
number_of Ecx = 1
number_of Edx = 2
number_of Ebx = 3
number_of Esp = 4
number_of Ebp = 5
number_of Esi = 6
number_of Edi = 7

-- the byte ModR/M of mode 3
abbrev pub register_form : ℕ → Reg → ℕ
register_form field r = 192 + 8 * field + number_of r

-- the byte ModR/M of mode 2
abbrev pub memory_form : ℕ → Reg → ℕ
memory_form field base = 128 + 8 * field + number_of base

-- a register or memory operand
abbrev pub operand : ℕ → Rm → List ℕ
operand field (InRegister r) = register_form field r ∷ []
operand field (Mem base disp) = memory_form field base ∷ word_bytes disp

abbrev pub arith_opcode : Arith → ℕ
arith_opcode Add = 0x03
arith_opcode Or = 0x0B
arith_opcode And = 0x23
arith_opcode Sub = 0x2B
arith_opcode Xor = 0x33

abbrev pub branch_opcode : Branch → ℕ
branch_opcode Below = 0x82
branch_opcode NotBelow = 0x83
branch_opcode Equal = 0x84
branch_opcode NotEqual = 0x85
branch_opcode NotAbove = 0x86
branch_opcode Above = 0x87

-- the bytes of an instruction
abbrev pub row : Ins → List ℕ
row (MovImm to imm) = (0xB8 + number_of to) ∷ word_bytes imm
row (MovTo rm from) = 0x89 ∷ operand (number_of from) rm
row (MovFrom to rm) = 0x8B ∷ operand (number_of to) rm
row (MovByte base disp from) = 0x88 ∷ operand (number_of from) (Mem base disp)
row (Movzx to base disp) = 0x0F ∷ 0xB6 ∷ operand (number_of to) (Mem base disp)
row (Compute op to from) = arith_opcode op ∷ operand (number_of to) (InRegister from)
row (Cmp left right) = 0x3B ∷ operand (number_of left) (InRegister right)
row (Imul to from) = 0x0F ∷ 0xAF ∷ operand (number_of to) (InRegister from)
row (Immediate false to imm) = 0x81 ∷ register_form 0 to ∷ word_bytes imm
row (Immediate true to imm) = 0x81 ∷ register_form 5 to ∷ word_bytes imm
row (Jmp rel) = 0xE9 ∷ word_bytes rel
row (Jcc branch rel) = 0x0F ∷ branch_opcode branch ∷ word_bytes rel
row (JmpReg r) = 0xFF ∷ operand 4 (InRegister r)

-- a memory operand has another base than ESP
abbrev pub IsAllowedOperand : Rm → Type 0
IsAllowedOperand (InRegister r) = Unit {0}
IsAllowedOperand (Mem base disp) = (base ≢ Esp) × (disp < 4294967296)

-- numbers are 32-bit words, and a byte goes to memory from one of the four registers with a low byte
abbrev pub IsAllowed : Ins → Type 0
IsAllowed (MovImm to imm) = imm < 4294967296
IsAllowed (MovTo rm from) = IsAllowedOperand rm
IsAllowed (MovFrom to rm) = IsAllowedOperand rm
IsAllowed (MovByte base disp from) = IsAllowedOperand (Mem base disp) × (number_of from < 4)
IsAllowed (Movzx to base disp) = IsAllowedOperand (Mem base disp)
IsAllowed (Compute op to from) = Unit {0}
IsAllowed (Cmp left right) = Unit {0}
IsAllowed (Imul to from) = Unit {0}
IsAllowed (Immediate subtract to imm) = imm < 4294967296
IsAllowed (Jmp rel) = rel < 4294967296
IsAllowed (Jcc branch rel) = rel < 4294967296
IsAllowed (JmpReg r) = Unit {0}

-- the bytes are exactly those of an instruction in an allowed form
pub record IsInstruction (bytes : List ℕ) (i : Ins) : Type 0 where
  pub allowed : IsAllowed i
  pub bytes_are : bytes ≡ row i

-- the first `size` bytes are those of an instruction
pub record BeginsWith (bytes : List ℕ) (i : Ins) (size : ℕ) : Type 0 where
  pub front : List ℕ
  pub rest : List ℕ
  pub split : bytes ≡ front ++ rest
  pub instruction : IsInstruction front i
  pub size_is : size ≡ length front

-- the bytes, and at least one more, are those of some instruction
pub record IsTruncated (bytes : List ℕ) : Type 0 where
  pub whole : Ins
  pub next : ℕ
  pub rest : List ℕ
  pub instruction : IsInstruction (bytes ++ next ∷ rest) whole

-- no instruction's bytes begin these bytes, and these bytes begin no instruction's
pub record IsUndefined (bytes : List ℕ) : Type 0 where
  pub none_begins : (i : Ins) (size : ℕ) → BeginsWith bytes i size → ⊥
  pub none_continues : IsTruncated bytes → ⊥
