-- What the decoder's private functions compute of the bytes, one byte after another. That this finds
-- exactly the instructions of `Instructions` is what the contract of `decode` says.
use Rattle.std.specs.Prelude.{ℕ, ◌+◌, ◌-◌, ◌*◌, ◌/◌, ◌%◌, true, false, not, ◌&&◌, Option, Some, None, Result, Ok, Err, List, [], ◌∷◌, nat_eq, nat_le, nat_lt, if◌then◌else◌}
use Rattle.bed_machine.specs.declared.registers.Reg.{Reg}
use Rattle.bed_machine.specs.declared.registers.Reg.TheVariants.{Eax, Ecx, Edx, Ebx, Esp, Ebp, Esi, Edi}
use Rattle.bed_machine.specs.declared.instructions.Rm.TheVariants.{Reg as InRegister, Mem}
use Rattle.bed_machine.specs.declared.instructions.Arith.TheVariants.{Add, Or, And, Sub, Xor}
use Rattle.bed_machine.specs.declared.instructions.Branch.TheVariants.{Below, NotBelow, Equal, NotEqual, NotAbove, Above}
use Rattle.bed_machine.specs.declared.instructions.Ins.{Ins}
use Rattle.bed_machine.specs.declared.instructions.Ins.TheVariants.{MovImm, MovTo, MovFrom, MovByte, Movzx, Arith as Compute, Cmp, Imul, Immediate, Jmp, Jcc, JmpReg}
use Rattle.bed_machine.specs.declared.instructions.Bad.{Bad}
use Rattle.bed_machine.specs.declared.instructions.Bad.TheVariants.{Truncated, Undefined}
use Rattle.bed_machine.specs.declared.decoder.Opcode.{Opcode}
use Rattle.bed_machine.specs.declared.decoder.Opcode.TheVariants.{MovImm as ToRegister, Jmp as Relative, Jcc as OnCondition, WithOperand}
use Rattle.bed_machine.specs.declared.decoder.Operation.{Operation}
use Rattle.bed_machine.specs.declared.decoder.Operation.TheVariants.{MovTo as Store, MovFrom as Load, MovByte as StoreByte, Movzx as LoadByte, Arith as Apply, Cmp as Compare, Imul as Multiply, Immediate as WithNumber, JmpReg as JumpTo}

-- what was decoded: an instruction and the number of its bytes
abbrev pub Decoded : Type 0
Decoded = Result (Ins × ℕ) Bad

-- the register with a number below 8
abbrev pub register_of : ℕ → Reg
register_of n =
    if nat_eq n 0 then Eax else if nat_eq n 1 then Ecx else if nat_eq n 2 then Edx else if nat_eq n 3 then Ebx
    else if nat_eq n 4 then Esp else if nat_eq n 5 then Ebp else if nat_eq n 6 then Esi else Edi

-- the word in the first four bytes
abbrev pub first_word : List ℕ → Result ℕ Bad
first_word (a ∷ b ∷ c ∷ d ∷ rest) = Ok (a + 256 * b + 65536 * c + 16777216 * d)
first_word bytes = Err Truncated

-- an instruction of this size that ends with a word
abbrev pub on_word : Result ℕ Bad → (ℕ → Ins) → ℕ → Decoded
on_word (Ok n) make size = Ok (make n, size)
on_word (Err e) make size = Err e

-- the opcodes of one byte, and those of two by the second byte
abbrev pub one_byte : ℕ → Option Opcode
one_byte b =
    if nat_le 0xB8 b && nat_le b 0xBF then Some (ToRegister (register_of (b - 0xB8)))
    else if nat_eq b 0x89 then Some (WithOperand Store)
    else if nat_eq b 0x8B then Some (WithOperand Load)
    else if nat_eq b 0x88 then Some (WithOperand StoreByte)
    else if nat_eq b 0x03 then Some (WithOperand (Apply Add))
    else if nat_eq b 0x0B then Some (WithOperand (Apply Or))
    else if nat_eq b 0x23 then Some (WithOperand (Apply And))
    else if nat_eq b 0x2B then Some (WithOperand (Apply Sub))
    else if nat_eq b 0x33 then Some (WithOperand (Apply Xor))
    else if nat_eq b 0x3B then Some (WithOperand Compare)
    else if nat_eq b 0x81 then Some (WithOperand WithNumber)
    else if nat_eq b 0xE9 then Some Relative
    else if nat_eq b 0xFF then Some (WithOperand JumpTo)
    else None

abbrev pub two_bytes : ℕ → Option Opcode
two_bytes b =
    if nat_eq b 0xB6 then Some (WithOperand LoadByte)
    else if nat_eq b 0xAF then Some (WithOperand Multiply)
    else if nat_eq b 0x82 then Some (OnCondition Below)
    else if nat_eq b 0x83 then Some (OnCondition NotBelow)
    else if nat_eq b 0x84 then Some (OnCondition Equal)
    else if nat_eq b 0x85 then Some (OnCondition NotEqual)
    else if nat_eq b 0x86 then Some (OnCondition NotAbove)
    else if nat_eq b 0x87 then Some (OnCondition Above)
    else None

-- with a register operand
abbrev pub with_register : Operation → ℕ → Reg → List ℕ → Decoded
with_register Store field r rest = Ok (MovTo (InRegister r) (register_of field), 2)
with_register Load field r rest = Ok (MovFrom (register_of field) (InRegister r), 2)
with_register (Apply op) field r rest = Ok (Compute op (register_of field) r, 2)
with_register Compare field r rest = Ok (Cmp (register_of field) r, 2)
with_register Multiply field r rest = Ok (Imul (register_of field) r, 3)
with_register WithNumber field r rest =
    if nat_eq field 0 then on_word (first_word rest) (Immediate false r) 6
    else if nat_eq field 5 then on_word (first_word rest) (Immediate true r) 6
    else Err Undefined
with_register JumpTo field r rest = if nat_eq field 4 then Ok (JmpReg r, 2) else Err Undefined
with_register StoreByte field r rest = Err Undefined
with_register LoadByte field r rest = Err Undefined

-- with a memory operand
abbrev pub with_memory : Operation → ℕ → Reg → List ℕ → Decoded
with_memory Store field base rest = on_word (first_word rest) (λ disp. MovTo (Mem base disp) (register_of field)) 6
with_memory Load field base rest = on_word (first_word rest) (λ disp. MovFrom (register_of field) (Mem base disp)) 6
with_memory StoreByte field base rest =
    if nat_lt field 4 then on_word (first_word rest) (λ disp. MovByte base disp (register_of field)) 6 else Err Undefined
with_memory LoadByte field base rest = on_word (first_word rest) (λ disp. Movzx (register_of field) base disp) 7
with_memory (Apply op) field base rest = Err Undefined
with_memory Compare field base rest = Err Undefined
with_memory Multiply field base rest = Err Undefined
with_memory WithNumber field base rest = Err Undefined
with_memory JumpTo field base rest = Err Undefined

-- after the byte ModR/M
abbrev pub with_operand : Operation → ℕ → List ℕ → Decoded
with_operand op m rest =
    if nat_eq (m / 64) 3 then with_register op (m / 8 % 8) (register_of (m % 8)) rest
    else if nat_eq (m / 64) 2 && not (nat_eq (m % 8) 4) then with_memory op (m / 8 % 8) (register_of (m % 8)) rest
    else Err Undefined

-- after the opcode
abbrev pub after_opcode : Opcode → List ℕ → Decoded
after_opcode (ToRegister to) rest = on_word (first_word rest) (MovImm to) 5
after_opcode Relative rest = on_word (first_word rest) Jmp 5
after_opcode (OnCondition branch) rest = on_word (first_word rest) (Jcc branch) 6
after_opcode (WithOperand op) [] = Err Truncated
after_opcode (WithOperand op) (m ∷ rest) = with_operand op m rest

-- after an opcode, if it is one
abbrev pub after_known : Option Opcode → List ℕ → Decoded
after_known None rest = Err Undefined
after_known (Some opcode) rest = after_opcode opcode rest

-- after the first byte of an opcode of two
abbrev pub after_escape : List ℕ → Decoded
after_escape [] = Err Truncated
after_escape (b ∷ rest) = after_known (two_bytes b) rest

-- from the first byte on
abbrev pub decoded : List ℕ → Decoded
decoded [] = Err Truncated
decoded (b ∷ rest) = if nat_eq b 0x0F then after_escape rest else after_known (one_byte b) rest
