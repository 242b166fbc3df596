-- Laws of instructions and their bytes, for the proofs of other crates too.
use Rattle.std.proofs.Common.{◌≡◌, ℕ, ◌<◌, ◌≤◌, true, false, List, [], ◌∷◌, ◌++◌, length, refl, sym, ◌∙◌, ap, append_assoc, append-nil, length-append, arith}
use Rattle.bed_machine.specs.Instructions.{number_of, operand, row, IsAllowed, IsInstruction, BeginsWith, IsTruncated}
use Rattle.bed_machine.proofs.Decoding.{decoded-begins, ok_same}
use Rattle.bed_machine.specs.declared.instructions.Rm.{Rm}
use Rattle.bed_machine.specs.declared.instructions.Rm.TheVariants.{Reg as InRegister, Mem}
use Rattle.bed_machine.specs.declared.instructions.Ins.{Ins}
use Rattle.bed_machine.specs.declared.instructions.Ins.TheVariants.{MovImm, MovTo, MovFrom, MovByte, Movzx, Arith as Compute, Cmp, Imul, Immediate, Jmp, Jcc, JmpReg}

-- at most one instruction begins at a place
pub one_instruction : (bytes : List ℕ) (i j : Ins) (n m : ℕ) → BeginsWith bytes i n → BeginsWith bytes j m → (i ≡ j) × (n ≡ m)
one_instruction bytes i j n m b c = ok_same i j n m (sym (decoded-begins bytes i n b) ∙ decoded-begins bytes j m c)

-- what begins a list of bytes begins a longer one
pub begins_more : (bytes more : List ℕ) (i : Ins) (size : ℕ) → BeginsWith bytes i size → BeginsWith (bytes ++ more) i size
begins_more bytes more i size b = record {
  front = b.front;
  rest = b.rest ++ more;
  split = ap (λ l. l ++ more) b.split ∙ append_assoc b.front b.rest more;
  instruction = b.instruction;
  size_is = b.size_is;
}

-- an instruction's own bytes
pub begins_row : (bytes : List ℕ) (i : Ins) → IsInstruction bytes i → BeginsWith bytes i (length bytes)
begins_row bytes i is = record { front = bytes; rest = []; split = sym (append-nil bytes); instruction = is; size_is = refl }

-- an instruction's bytes, and any more
pub begins_append : (i : Ins) (rest : List ℕ) → IsAllowed i → BeginsWith (row i ++ rest) i (length (row i))
begins_append i rest ok = record { front = row i; rest = rest; split = refl; instruction = record { allowed = ok; bytes_are = refl }; size_is = refl }

-- an instruction that begins there lies within the bytes
pub begins_size : (bytes : List ℕ) (i : Ins) (size : ℕ) → BeginsWith bytes i size → size ≤ length bytes
begins_size bytes i size b = omega (arith, b.size_is, ap length b.split, length-append b.front b.rest)

-- no instruction's bytes are the beginning of another's
pub begins_not_truncated : (bytes : List ℕ) (i : Ins) (size : ℕ) → BeginsWith bytes i size → IsTruncated bytes → ⊥
begins_not_truncated bytes i size b t =
    let more = t.next ∷ t.rest in
    let same = one_instruction (bytes ++ more) i t.whole size (length (bytes ++ more)) (begins_more bytes more i size b) (begins_row (bytes ++ more) t.whole t.instruction) in
    omega (arith, same.1, begins_size bytes i size b, length-append bytes more)

-- The number of an instruction's bytes

operand_size : (field : ℕ) (rm : Rm) → (0 < length (operand field rm)) × (length (operand field rm) ≤ 5)
operand_size field (InRegister r) = (omega arith, omega arith)
operand_size field (Mem base disp) = (omega arith, omega arith)

pub row_size : (i : Ins) → (0 < length (row i)) × (length (row i) ≤ 7)
row_size (MovImm to imm) = (omega arith, omega arith)
row_size (MovTo rm from) = let s = operand_size (number_of from) rm in (omega arith, omega arith)
row_size (MovFrom to rm) = let s = operand_size (number_of to) rm in (omega arith, omega arith)
row_size (MovByte base disp from) = (omega arith, omega arith)
row_size (Movzx to base disp) = (omega arith, omega arith)
row_size (Compute op to from) = (omega arith, omega arith)
row_size (Cmp left right) = (omega arith, omega arith)
row_size (Imul to from) = (omega arith, omega arith)
row_size (Immediate false to imm) = (omega arith, omega arith)
row_size (Immediate true to imm) = (omega arith, omega arith)
row_size (Jmp rel) = (omega arith, omega arith)
row_size (Jcc branch rel) = (omega arith, omega arith)
row_size (JmpReg r) = (omega arith, omega arith)

pub size_range : (bytes : List ℕ) (i : Ins) (size : ℕ) → BeginsWith bytes i size → (0 < size) × (size ≤ 7)
size_range bytes i size b =
    let s = row_size i in
    let e = b.size_is ∙ ap length b.instruction.bytes_are in
    (omega arith, omega arith)
