-- The texts of instructions, as in the manual's own notation: operands are parted by a comma and a blank, numbers
-- have `0x` and eight upper-case digits, and a memory operand always shows its displacement.
use Rattle.std.specs.Prelude.{ℕ, ◌+◌, ◌/◌, ◌%◌, true, false, List, [], ◌∷◌, ◌++◌, nat_lt, if◌then◌else◌, codes}
use Rattle.std.specs.List.{flat_map}
use Rattle.bed_lang.specs.Numbers.{wrap}
use Rattle.bed_machine.specs.declared.registers.Reg.{Reg}
use Rattle.bed_machine.specs.declared.registers.Reg.TheVariants.{Eax, Ecx, Edx, Ebx, Esp, Ebp, Esi, Edi}
use Rattle.bed_machine.specs.declared.instructions.Rm.{Rm}
use Rattle.bed_machine.specs.declared.instructions.Rm.TheVariants.{Reg as InRegister, Mem}
use Rattle.bed_machine.specs.declared.instructions.Arith.{Arith}
use Rattle.bed_machine.specs.declared.instructions.Arith.TheVariants.{Add, Or, And, Sub, Xor}
use Rattle.bed_machine.specs.declared.instructions.Branch.{Branch}
use Rattle.bed_machine.specs.declared.instructions.Branch.TheVariants.{Below, NotBelow, Equal, NotEqual, NotAbove, Above}
use Rattle.bed_machine.specs.declared.instructions.Ins.{Ins}
use Rattle.bed_machine.specs.declared.instructions.Ins.TheVariants.{MovImm, MovTo, MovFrom, MovByte, Movzx, Arith as Compute, Cmp, Imul, Immediate, Jmp, Jcc, JmpReg}

-- an upper-case hexadecimal digit: `0` to `9` stand at 48, `A` to `F` at 65
abbrev pub digit : ℕ → ℕ
digit d = if nat_lt d 10 then 48 + d else 55 + d

abbrev pub byte_text : ℕ → List ℕ
byte_text b = digit (b / 16) ∷ digit (b % 16) ∷ []

abbrev pub bytes_text : List ℕ → List ℕ
bytes_text bytes = flat_map byte_text bytes

-- eight digits
unfoldable pub word_text : ℕ → List ℕ
word_text w = byte_text (w / 16777216) ++ (byte_text (w / 65536 % 256) ++ (byte_text (w / 256 % 256) ++ byte_text (w % 256)))

unfoldable pub number_text : ℕ → List ℕ
number_text n = codes "0x" ++ word_text n

abbrev pub register_text : Reg → List ℕ
register_text Eax = codes "eax"
register_text Ecx = codes "ecx"
register_text Edx = codes "edx"
register_text Ebx = codes "ebx"
register_text Esp = codes "esp"
register_text Ebp = codes "ebp"
register_text Esi = codes "esi"
register_text Edi = codes "edi"

-- the register of a byte by its number: the last four have no low byte, and stand in no instruction that decodes
abbrev pub low_text : Reg → List ℕ
low_text Eax = codes "al"
low_text Ecx = codes "cl"
low_text Edx = codes "dl"
low_text Ebx = codes "bl"
low_text Esp = codes "ah"
low_text Ebp = codes "ch"
low_text Esi = codes "dh"
low_text Edi = codes "bh"

unfoldable pub memory_text : Reg → ℕ → List ℕ
memory_text base disp = codes "[" ++ (register_text base ++ (codes "+" ++ (number_text disp ++ codes "]")))

abbrev pub operand_text : Rm → List ℕ
operand_text (InRegister r) = register_text r
operand_text (Mem base disp) = memory_text base disp

abbrev pub arith_text : Arith → List ℕ
arith_text Add = codes "add"
arith_text Or = codes "or"
arith_text And = codes "and"
arith_text Sub = codes "sub"
arith_text Xor = codes "xor"

abbrev pub branch_text : Branch → List ℕ
branch_text Below = codes "jb"
branch_text NotBelow = codes "jae"
branch_text Equal = codes "je"
branch_text NotEqual = codes "jne"
branch_text NotAbove = codes "jbe"
branch_text Above = codes "ja"

-- a mnemonic with two operands, or with one
abbrev pub two : List ℕ → List ℕ → List ℕ → List ℕ
two mnemonic first second = mnemonic ++ (codes " " ++ (first ++ (codes ", " ++ second)))

abbrev pub one : List ℕ → List ℕ → List ℕ
one mnemonic operand = mnemonic ++ (codes " " ++ operand)

-- the text of an instruction; `next` is the address after it, from which jumps are counted
abbrev pub instruction_text : ℕ → Ins → List ℕ
instruction_text next (MovImm to imm) = two (codes "mov") (register_text to) (number_text imm)
instruction_text next (MovTo rm from) = two (codes "mov") (operand_text rm) (register_text from)
instruction_text next (MovFrom to rm) = two (codes "mov") (register_text to) (operand_text rm)
instruction_text next (MovByte base disp from) = two (codes "mov byte") (memory_text base disp) (low_text from)
instruction_text next (Movzx to base disp) = two (codes "movzx") (register_text to) (codes "byte " ++ memory_text base disp)
instruction_text next (Compute op to from) = two (arith_text op) (register_text to) (register_text from)
instruction_text next (Cmp left right) = two (codes "cmp") (register_text left) (register_text right)
instruction_text next (Imul to from) = two (codes "imul") (register_text to) (register_text from)
instruction_text next (Immediate false to imm) = two (codes "add") (register_text to) (number_text imm)
instruction_text next (Immediate true to imm) = two (codes "sub") (register_text to) (number_text imm)
instruction_text next (Jmp rel) = one (codes "jmp") (number_text (wrap (next + rel)))
instruction_text next (Jcc branch rel) = one (branch_text branch) (number_text (wrap (next + rel)))
instruction_text next (JmpReg r) = one (codes "jmp") (register_text r)
