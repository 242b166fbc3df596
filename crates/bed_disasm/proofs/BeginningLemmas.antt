-- Whether an instruction begins bytes: for each form of instruction and all its registers, the one number that it may have stands
-- in the bytes, so that finitely many instructions are to be compared with them.
use Rattle.std.proofs.Common.{◌≡◌, ◌≢◌, ◌⊎◌, inl, inr, ℕ, ◌<◌, Bool, true, false, bytes_eq, List, ◌++◌, length, take, drop, Result, Ok, Err, refl, sym, ap, subst, ◌∙◌, arith}
use Rattle.std.proofs.Math.Seq.{take-append_seam}
use Rattle.std.proofs.lemmas.Bool.{cases_lt}
use Rattle.std.proofs.lemmas.List.{take-append-drop}
use Rattle.std.proofs.lemmas.Slice.Eq.{bytes_eq-Decides}
use Rattle.bed_lang.specs.Numbers.{word_bytes}
use Rattle.bed_machine.specs.Decoder.{first_word}
use Rattle.bed_machine.specs.Instructions.{number_of, row, IsAllowedOperand, IsAllowed, BeginsWith}
use Rattle.bed_machine.specs.declared.registers.Reg.{Reg}
use Rattle.bed_machine.specs.declared.registers.Reg.TheVariants.{Eax, Ecx, Edx, Ebx, Esp, Ebp, Esi, Edi}
use Rattle.bed_machine.specs.declared.instructions.Rm.{Rm}
use Rattle.bed_machine.specs.declared.instructions.Rm.TheVariants.{Reg as InRegister, Mem}
use Rattle.bed_machine.specs.declared.instructions.Arith.{Arith}
use Rattle.bed_machine.specs.declared.instructions.Arith.TheVariants.{Add, Or, And, Sub, Xor}
use Rattle.bed_machine.specs.declared.instructions.Branch.{Branch}
use Rattle.bed_machine.specs.declared.instructions.Branch.TheVariants.{Below, NotBelow, Equal, NotEqual, NotAbove, Above}
use Rattle.bed_machine.specs.declared.instructions.Bad.{Bad}
use Rattle.bed_machine.specs.declared.instructions.Ins.{Ins}
use Rattle.bed_machine.specs.declared.instructions.Ins.TheVariants.{MovImm, MovTo, MovFrom, MovByte, Movzx, Arith as Compute, Cmp, Imul, Immediate, Jmp, Jcc, JmpReg}
use Rattle.bed_disasm.specs.Laws.{BeginsOrNot}

abbrev Decided : Type 0 → Type 0
Decided A = A ⊎ (A → ⊥)

either : {A B : Type 0} → Decided A → Decided B → Decided (A ⊎ B)
either (inl a) d = inl (inl a)
either (inr never) (inl b) = inl (inr b)
either {A} {B} (inr never) (inr none) = inr neither
  where
    neither : A ⊎ B → ⊥
    neither (inl a) = never a
    neither (inr b) = none b

both : {A B : Type 0} → Decided A → Decided B → Decided (A × B)
both (inl a) (inl b) = inl (a, b)
both (inl a) (inr never) = inr (λ p. never p.1)
both (inr never) d = inr (λ p. never p.0)

less : (a b : ℕ) → Decided (a < b)
less a b = elim (cases_lt a b) [ inl lt ↦ inl lt | inr le ↦ inr (λ lt. absurd (omega (arith, le, lt))) ]

-- over all registers, operations, branches and truth values

module _ (P : Reg → Type 0) where
  of_reg : (P Eax ⊎ (P Ecx ⊎ (P Edx ⊎ (P Ebx ⊎ (P Esp ⊎ (P Ebp ⊎ (P Esi ⊎ P Edi))))))) → (r : Reg) × P r
  of_reg (inl p) = (Eax, p)
  of_reg (inr (inl p)) = (Ecx, p)
  of_reg (inr (inr (inl p))) = (Edx, p)
  of_reg (inr (inr (inr (inl p)))) = (Ebx, p)
  of_reg (inr (inr (inr (inr (inl p))))) = (Esp, p)
  of_reg (inr (inr (inr (inr (inr (inl p)))))) = (Ebp, p)
  of_reg (inr (inr (inr (inr (inr (inr (inl p))))))) = (Esi, p)
  of_reg (inr (inr (inr (inr (inr (inr (inr p))))))) = (Edi, p)

  as_reg : (r : Reg) → P r → P Eax ⊎ (P Ecx ⊎ (P Edx ⊎ (P Ebx ⊎ (P Esp ⊎ (P Ebp ⊎ (P Esi ⊎ P Edi))))))
  as_reg Eax p = inl p
  as_reg Ecx p = inr (inl p)
  as_reg Edx p = inr (inr (inl p))
  as_reg Ebx p = inr (inr (inr (inl p)))
  as_reg Esp p = inr (inr (inr (inr (inl p))))
  as_reg Ebp p = inr (inr (inr (inr (inr (inl p)))))
  as_reg Esi p = inr (inr (inr (inr (inr (inr (inl p))))))
  as_reg Edi p = inr (inr (inr (inr (inr (inr (inr p))))))

  some_reg : ((r : Reg) → Decided (P r)) → Decided ((r : Reg) × P r)
  some_reg d = elim (either (d Eax) (either (d Ecx) (either (d Edx) (either (d Ebx) (either (d Esp) (either (d Ebp) (either (d Esi) (d Edi)))))))) [
    | inl p ↦ inl (of_reg p)
    | inr never ↦ inr (λ p. never (as_reg p.0 p.1))
  ]

module _ (P : Arith → Type 0) where
  of_arith : (P Add ⊎ (P Or ⊎ (P And ⊎ (P Sub ⊎ P Xor)))) → (op : Arith) × P op
  of_arith (inl p) = (Add, p)
  of_arith (inr (inl p)) = (Or, p)
  of_arith (inr (inr (inl p))) = (And, p)
  of_arith (inr (inr (inr (inl p)))) = (Sub, p)
  of_arith (inr (inr (inr (inr p)))) = (Xor, p)

  as_arith : (op : Arith) → P op → P Add ⊎ (P Or ⊎ (P And ⊎ (P Sub ⊎ P Xor)))
  as_arith Add p = inl p
  as_arith Or p = inr (inl p)
  as_arith And p = inr (inr (inl p))
  as_arith Sub p = inr (inr (inr (inl p)))
  as_arith Xor p = inr (inr (inr (inr p)))

  some_arith : ((op : Arith) → Decided (P op)) → Decided ((op : Arith) × P op)
  some_arith d = elim (either (d Add) (either (d Or) (either (d And) (either (d Sub) (d Xor))))) [ inl p ↦ inl (of_arith p) | inr never ↦ inr (λ p. never (as_arith p.0 p.1)) ]

module _ (P : Branch → Type 0) where
  of_branch : (P Below ⊎ (P NotBelow ⊎ (P Equal ⊎ (P NotEqual ⊎ (P NotAbove ⊎ P Above))))) → (b : Branch) × P b
  of_branch (inl p) = (Below, p)
  of_branch (inr (inl p)) = (NotBelow, p)
  of_branch (inr (inr (inl p))) = (Equal, p)
  of_branch (inr (inr (inr (inl p)))) = (NotEqual, p)
  of_branch (inr (inr (inr (inr (inl p))))) = (NotAbove, p)
  of_branch (inr (inr (inr (inr (inr p))))) = (Above, p)

  as_branch : (b : Branch) → P b → P Below ⊎ (P NotBelow ⊎ (P Equal ⊎ (P NotEqual ⊎ (P NotAbove ⊎ P Above))))
  as_branch Below p = inl p
  as_branch NotBelow p = inr (inl p)
  as_branch Equal p = inr (inr (inl p))
  as_branch NotEqual p = inr (inr (inr (inl p)))
  as_branch NotAbove p = inr (inr (inr (inr (inl p))))
  as_branch Above p = inr (inr (inr (inr (inr p))))

  some_branch : ((b : Branch) → Decided (P b)) → Decided ((b : Branch) × P b)
  some_branch d = elim (either (d Below) (either (d NotBelow) (either (d Equal) (either (d NotEqual) (either (d NotAbove) (d Above)))))) [
    | inl p ↦ inl (of_branch p)
    | inr never ↦ inr (λ p. never (as_branch p.0 p.1))
  ]

module _ (P : Bool → Type 0) where
  of_bool : (P true ⊎ P false) → (b : Bool) × P b
  of_bool (inl p) = (true, p)
  of_bool (inr p) = (false, p)

  as_bool : (b : Bool) → P b → P true ⊎ P false
  as_bool true p = inl p
  as_bool false p = inr p

  some_bool : ((b : Bool) → Decided (P b)) → Decided ((b : Bool) × P b)
  some_bool d = elim (either (d true) (d false)) [ inl p ↦ inl (of_bool p) | inr never ↦ inr (λ p. never (as_bool p.0 p.1)) ]

-- one instruction

not_esp : (r : Reg) → Decided (r ≢ Esp)
not_esp Eax = inl (λ e. absurd (cc))
not_esp Ecx = inl (λ e. absurd (cc))
not_esp Edx = inl (λ e. absurd (cc))
not_esp Ebx = inl (λ e. absurd (cc))
not_esp Esp = inr (λ never. never refl)
not_esp Ebp = inl (λ e. absurd (cc))
not_esp Esi = inl (λ e. absurd (cc))
not_esp Edi = inl (λ e. absurd (cc))

operand : (rm : Rm) → Decided (IsAllowedOperand rm)
operand (InRegister r) = inl tt
operand (Mem base disp) = both (not_esp base) (less disp 4294967296)

allowed : (i : Ins) → Decided (IsAllowed i)
allowed (MovImm to imm) = less imm 4294967296
allowed (MovTo rm from) = operand rm
allowed (MovFrom to rm) = operand rm
allowed (MovByte base disp from) = both (operand (Mem base disp)) (less (number_of from) 4)
allowed (Movzx to base disp) = operand (Mem base disp)
allowed (Compute op to from) = inl tt
allowed (Cmp left right) = inl tt
allowed (Imul to from) = inl tt
allowed (Immediate subtract to imm) = less imm 4294967296
allowed (Jmp rel) = less rel 4294967296
allowed (Jcc branch rel) = less rel 4294967296
allowed (JmpReg r) = inl tt

-- the bytes begin with all of this instruction's
abbrev Begins : List ℕ → Ins → Type 0
Begins bytes i = BeginsWith bytes i (length (row i))

whole : (bytes : List ℕ) (i : Ins) (size : ℕ) → BeginsWith bytes i size → Begins bytes i
whole bytes i size b = record { front = b.front; rest = b.rest; split = b.split; instruction = b.instruction; size_is = ap length (sym b.instruction.bytes_are) }

parts : (bytes : List ℕ) (i : Ins) (b : Begins bytes i) → bytes ≡ row i ++ b.rest
parts bytes i b = b.split ∙ ap (λ l. l ++ b.rest) b.instruction.bytes_are

begins : (bytes : List ℕ) (i : Ins) → take (length (row i)) bytes ≡ row i → IsAllowed i → Begins bytes i
begins bytes i is ok = record {
  front = row i;
  rest = drop (length (row i)) bytes;
  split = sym (take-append-drop (length (row i)) bytes) ∙ ap (λ l. l ++ drop (length (row i)) bytes) is;
  instruction = record { allowed = ok; bytes_are = refl };
  size_is = refl;
}

same_front : (bytes : List ℕ) (i : Ins) → Decided (take (length (row i)) bytes ≡ row i)
same_front bytes i = by_test (bytes_eq (take (length (row i)) bytes) (row i)) refl
  where
    by_test : (t : Bool) → bytes_eq (take (length (row i)) bytes) (row i) ≡ t → Decided (take (length (row i)) bytes ≡ row i)
    by_test true e = inl ((bytes_eq-Decides (take (length (row i)) bytes) (row i)).0 e)
    by_test false e = inr (λ same. let holds = (bytes_eq-Decides (take (length (row i)) bytes) (row i)).1 same in let opposite : true ≡ false = sym holds ∙ e in cc)

one : (bytes : List ℕ) (i : Ins) → Decided (Begins bytes i)
one bytes i = elim (both (same_front bytes i) (allowed i)) [
  | inl p ↦ inl (begins bytes i p.0 p.1)
  | inr never ↦ inr (λ b. never (ap (λ l. take (length (row i)) l) (parts bytes i b) ∙ take-append_seam (row i) b.rest, b.instruction.allowed))
]

-- the word behind some bytes

abbrev value : Result ℕ Bad → ℕ
value (Ok n) = n
value (Err bad) = 0

abbrev word_from : ℕ → List ℕ → ℕ
word_from k bytes = value (first_word (drop k bytes))

first_is : (n : ℕ) (rest : List ℕ) → n < 4294967296 → first_word (word_bytes n ++ rest) ≡ Ok n
first_is n rest h = ap Ok (omega arith)

word_is : (k : ℕ) (bytes rest : List ℕ) (n : ℕ) → n < 4294967296 → drop k bytes ≡ word_bytes n ++ rest → n ≡ word_from k bytes
word_is k bytes rest n fits e = sym (ap (λ l. value (first_word l)) e ∙ ap value (first_is n rest fits))

-- the instructions that may begin the bytes, by their forms
module _ (bytes : List ℕ) where
  abbrev Pair : (Reg → Reg → Ins) → Type 0
  Pair make = (to : Reg) × ((from : Reg) × Begins bytes (make to from))

  abbrev Forms : Type 0
  Forms =
      ((to : Reg) × Begins bytes (MovImm to (word_from 1 bytes)))
      ⊎ (Pair (λ to from. MovTo (InRegister to) from)
      ⊎ (Pair (λ to from. MovTo (Mem to (word_from 2 bytes)) from)
      ⊎ (Pair (λ to from. MovFrom to (InRegister from))
      ⊎ (Pair (λ to from. MovFrom to (Mem from (word_from 2 bytes)))
      ⊎ (Pair (λ to from. MovByte to (word_from 2 bytes) from)
      ⊎ (Pair (λ to from. Movzx to from (word_from 3 bytes))
      ⊎ (((op : Arith) × Pair (λ to from. Compute op to from))
      ⊎ (Pair (λ to from. Cmp to from)
      ⊎ (Pair (λ to from. Imul to from)
      ⊎ (((b : Bool) × ((to : Reg) × Begins bytes (Immediate b to (word_from 2 bytes))))
      ⊎ (Begins bytes (Jmp (word_from 1 bytes))
      ⊎ (((b : Branch) × Begins bytes (Jcc b (word_from 2 bytes)))
      ⊎ (((r : Reg) × Begins bytes (JmpReg r)))))))))))))))

  pair : (make : Reg → Reg → Ins) → Decided (Pair make)
  pair make = some_reg (λ to. (from : Reg) × Begins bytes (make to from)) (λ to. some_reg (λ from. Begins bytes (make to from)) (λ from. one bytes (make to from)))

  forms : Decided Forms
  forms =
      either (some_reg (λ to. Begins bytes (MovImm to (word_from 1 bytes))) (λ to. one bytes (MovImm to (word_from 1 bytes))))
      (either (pair (λ to from. MovTo (InRegister to) from))
      (either (pair (λ to from. MovTo (Mem to (word_from 2 bytes)) from))
      (either (pair (λ to from. MovFrom to (InRegister from)))
      (either (pair (λ to from. MovFrom to (Mem from (word_from 2 bytes))))
      (either (pair (λ to from. MovByte to (word_from 2 bytes) from))
      (either (pair (λ to from. Movzx to from (word_from 3 bytes)))
      (either (some_arith (λ op. Pair (λ to from. Compute op to from)) (λ op. pair (λ to from. Compute op to from)))
      (either (pair (λ to from. Cmp to from))
      (either (pair (λ to from. Imul to from))
      (either (some_bool (λ b. (to : Reg) × Begins bytes (Immediate b to (word_from 2 bytes)))
      (λ b. some_reg (λ to. Begins bytes (Immediate b to (word_from 2 bytes))) (λ to. one bytes (Immediate b to (word_from 2 bytes)))))
      (either (one bytes (Jmp (word_from 1 bytes)))
      (either (some_branch (λ b. Begins bytes (Jcc b (word_from 2 bytes))) (λ b. one bytes (Jcc b (word_from 2 bytes))))
      (some_reg (λ r. Begins bytes (JmpReg r)) (λ r. one bytes (JmpReg r)))))))))))))))

  abbrev Found : Type 0
  Found = (i : Ins) × (size : ℕ) × BeginsWith bytes i size

  it : (i : Ins) → Begins bytes i → Found
  it i b = (i, length (row i), b)

  found : Forms → Found
  found (inl (to, b)) = it _ b
  found (inr (inl (to, (from, b)))) = it _ b
  found (inr (inr (inl (to, (from, b))))) = it _ b
  found (inr (inr (inr (inl (to, (from, b)))))) = it _ b
  found (inr (inr (inr (inr (inl (to, (from, b))))))) = it _ b
  found (inr (inr (inr (inr (inr (inl (to, (from, b)))))))) = it _ b
  found (inr (inr (inr (inr (inr (inr (inl (to, (from, b))))))))) = it _ b
  found (inr (inr (inr (inr (inr (inr (inr (inl (op, (to, (from, b))))))))))) = it _ b
  found (inr (inr (inr (inr (inr (inr (inr (inr (inl (to, (from, b))))))))))) = it _ b
  found (inr (inr (inr (inr (inr (inr (inr (inr (inr (inl (to, (from, b)))))))))))) = it _ b
  found (inr (inr (inr (inr (inr (inr (inr (inr (inr (inr (inl (flag, (to, b))))))))))))) = it _ b
  found (inr (inr (inr (inr (inr (inr (inr (inr (inr (inr (inr (inl b)))))))))))) = it _ b
  found (inr (inr (inr (inr (inr (inr (inr (inr (inr (inr (inr (inr (inl (branch, b)))))))))))))) = it _ b
  found (inr (inr (inr (inr (inr (inr (inr (inr (inr (inr (inr (inr (inr (r, b)))))))))))))) = it _ b

  -- the number of an instruction is the word in the bytes
  with_word : (make : ℕ → Ins) (k n : ℕ) → n < 4294967296 → (b : Begins bytes (make n)) → drop k bytes ≡ word_bytes n ++ b.rest → Begins bytes (make (word_from k bytes))
  with_word make k n fits b e = subst (λ (x : ℕ). Begins bytes (make x)) (word_is k bytes b.rest n fits e) b

  form : (i : Ins) → Begins bytes i → Forms
  form (MovImm to imm) b = inl (to, with_word (λ n. MovImm to n) 1 imm b.instruction.allowed b (ap (drop 1) (parts bytes _ b)))
  form (MovTo (InRegister to) from) b = inr (inl (to, (from, b)))
  form (MovTo (Mem to d) from) b = inr (inr (inl (to, (from, with_word (λ n. MovTo (Mem to n) from) 2 d b.instruction.allowed.1 b (ap (drop 2) (parts bytes _ b))))))
  form (MovFrom to (InRegister from)) b = inr (inr (inr (inl (to, (from, b)))))
  form (MovFrom to (Mem from d)) b = inr (inr (inr (inr (inl (to, (from, with_word (λ n. MovFrom to (Mem from n)) 2 d b.instruction.allowed.1 b (ap (drop 2) (parts bytes _ b))))))))
  form (MovByte to d from) b = inr (inr (inr (inr (inr (inl (to, (from, with_word (λ n. MovByte to n from) 2 d b.instruction.allowed.0.1 b (ap (drop 2) (parts bytes _ b)))))))))
  form (Movzx to from d) b = inr (inr (inr (inr (inr (inr (inl (to, (from, with_word (λ n. Movzx to from n) 3 d b.instruction.allowed.1 b (ap (drop 3) (parts bytes _ b))))))))))
  form (Compute op to from) b = inr (inr (inr (inr (inr (inr (inr (inl (op, (to, (from, b))))))))))
  form (Cmp to from) b = inr (inr (inr (inr (inr (inr (inr (inr (inl (to, (from, b))))))))))
  form (Imul to from) b = inr (inr (inr (inr (inr (inr (inr (inr (inr (inl (to, (from, b)))))))))))
  form (Immediate true to imm) b = inr (inr (inr (inr (inr (inr (inr (inr (inr (inr (inl (true, (to, with_word (λ n. Immediate true to n) 2 imm b.instruction.allowed b (ap (drop 2) (parts bytes _ b))))))))))))))
  form (Immediate false to imm) b = inr (inr (inr (inr (inr (inr (inr (inr (inr (inr (inl (false, (to, with_word (λ n. Immediate false to n) 2 imm b.instruction.allowed b (ap (drop 2) (parts bytes _ b))))))))))))))
  form (Jmp rel) b = inr (inr (inr (inr (inr (inr (inr (inr (inr (inr (inr (inl (with_word (λ n. Jmp n) 1 rel b.instruction.allowed b (ap (drop 1) (parts bytes _ b))))))))))))))
  form (Jcc branch rel) b = inr (inr (inr (inr (inr (inr (inr (inr (inr (inr (inr (inr (inl (branch, with_word (λ n. Jcc branch n) 2 rel b.instruction.allowed b (ap (drop 2) (parts bytes _ b)))))))))))))))
  form (JmpReg r) b = inr (inr (inr (inr (inr (inr (inr (inr (inr (inr (inr (inr (inr (r, b)))))))))))))

  pub begun : BeginsOrNot bytes
  begun = elim forms [ inl f ↦ inl (found f) | inr never ↦ inr (λ i size b. never (form i (whole bytes i size b))) ]
