-- The decoder finds exactly the instructions.
use Rattle.std.proofs.Common.{◌≡◌, ◌≢◌, ℕ, zero, suc, ◌+◌, ◌-◌, ◌*◌, ◌/◌, ◌%◌, ◌<◌, ◌≤◌, ◌⊎◌, inl, inr, Bool, true, false, not, ◌&&◌, nat_eq, nat_le, nat_lt, if◌then◌else◌, Option, Some, None, Ok, Err, List, [], ◌∷◌, ◌++◌, length, refl, sym, ◌∙◌, ap, subst, append_assoc, length-append, arith}
use Rattle.std.proofs.lemmas.Bool.Decides.{nat_tests}
use Rattle.bed_lang.specs.Numbers.{word_bytes}
use Rattle.bed_machine.specs.Instructions.{number_of, register_form, memory_form, arith_opcode, branch_opcode, row, IsAllowed, BeginsWith, IsTruncated}
use Rattle.bed_machine.specs.Decoder.{Decoded, register_of, first_word, on_word, one_byte, two_bytes, with_register, with_memory, with_operand, after_opcode, after_known, after_escape, decoded}
use Rattle.bed_machine.specs.declared.registers.Reg.{Reg}
use Rattle.bed_machine.specs.declared.registers.Reg.TheVariants.{Eax, Ecx, Edx, Ebx, Esp, Ebp, Esi, Edi}
use Rattle.bed_machine.specs.declared.instructions.Rm.TheVariants.{Reg as InRegister, Mem}
use Rattle.bed_machine.specs.declared.instructions.Arith.TheVariants.{Add, Or, And, Sub, Xor}
use Rattle.bed_machine.specs.declared.instructions.Branch.TheVariants.{Below, NotBelow, Equal, NotEqual, NotAbove, Above}
use Rattle.bed_machine.specs.declared.instructions.Ins.{Ins}
use Rattle.bed_machine.specs.declared.instructions.Ins.TheVariants.{MovImm, MovTo, MovFrom, MovByte, Movzx, Arith as Compute, Cmp, Imul, Immediate, Jmp, Jcc, JmpReg}
use Rattle.bed_machine.specs.declared.instructions.Bad.TheVariants.{Truncated, Undefined}
use Rattle.bed_machine.specs.declared.decoder.Opcode.{Opcode}
use Rattle.bed_machine.specs.declared.decoder.Opcode.TheVariants.{MovImm as ToRegister, Jmp as Relative, Jcc as OnCondition, WithOperand}
use Rattle.bed_machine.specs.declared.decoder.Operation.{Operation}
use Rattle.bed_machine.specs.declared.decoder.Operation.TheVariants.{MovTo as Store, MovFrom as Load, MovByte as StoreByte, Movzx as LoadByte, Arith as Apply, Cmp as Compare, Imul as Multiply, Immediate as WithNumber, JmpReg as JumpTo}

-- Registers and their numbers

number_of-lt : (r : Reg) → number_of r < 8
number_of-lt Eax = omega arith
number_of-lt Ecx = omega arith
number_of-lt Edx = omega arith
number_of-lt Ebx = omega arith
number_of-lt Esp = omega arith
number_of-lt Ebp = omega arith
number_of-lt Esi = omega arith
number_of-lt Edi = omega arith

register_of-number_of : (r : Reg) → register_of (number_of r) ≡ r
register_of-number_of Eax = refl
register_of-number_of Ecx = refl
register_of-number_of Edx = refl
register_of-number_of Ebx = refl
register_of-number_of Esp = refl
register_of-number_of Ebp = refl
register_of-number_of Esi = refl
register_of-number_of Edi = refl

number_of-register_of : (n : ℕ) → n < 8 → number_of (register_of n) ≡ n
number_of-register_of zero h = refl
number_of-register_of (suc zero) h = refl
number_of-register_of (suc (suc zero)) h = refl
number_of-register_of (suc (suc (suc zero))) h = refl
number_of-register_of (suc (suc (suc (suc zero)))) h = refl
number_of-register_of (suc (suc (suc (suc (suc zero))))) h = refl
number_of-register_of (suc (suc (suc (suc (suc (suc zero)))))) h = refl
number_of-register_of (suc (suc (suc (suc (suc (suc (suc zero))))))) h = refl
number_of-register_of (suc (suc (suc (suc (suc (suc (suc (suc n)))))))) h = absurd (omega arith)

not_four : (r : Reg) → r ≢ Esp → nat_eq (number_of r) 4 ≡ false
not_four Eax ne = refl
not_four Ecx ne = refl
not_four Edx ne = refl
not_four Ebx ne = refl
not_four Esp ne = absurd (ne refl)
not_four Ebp ne = refl
not_four Esi ne = refl
not_four Edi ne = refl

not_esp : (n : ℕ) → n < 8 → n ≢ 4 → register_of n ≢ Esp
not_esp n lt ne e = ne (sym (number_of-register_of n lt) ∙ ap number_of e)

-- Words

-- every element is a byte
abbrev pub AreBytes : List ℕ → Type 0
AreBytes [] = Unit {0}
AreBytes (b ∷ bs) = (b < 256) × AreBytes bs

word_bytes-is : (a b c d : ℕ) → a < 256 → b < 256 → c < 256 → d < 256 → word_bytes (a + 256 * b + 65536 * c + 16777216 * d) ≡ a ∷ b ∷ c ∷ d ∷ []
word_bytes-is a b c d ha hb hc hd =
    let n = a + 256 * b + 65536 * c + 16777216 * d in
    let low : n % 256 ≡ a = omega arith in
    let second : n / 256 % 256 ≡ b = omega arith in
    let third : n / 65536 % 256 ≡ c = omega arith in
    let high : n / 16777216 % 256 ≡ d = omega arith in
    cc

first_word-word_bytes : (n : ℕ) (rest : List ℕ) → n < 4294967296 → first_word (word_bytes n ++ rest) ≡ Ok n
first_word-word_bytes n rest h = ap Ok (omega arith)

-- What the decoder answers after the bytes `opened`, by the bytes that follow

pub data Answer (opened : List ℕ) (f : List ℕ → Decoded) (rest : List ℕ) : Type 0 where
  Found : (i : Ins) (size : ℕ) → BeginsWith (opened ++ rest) i size → f rest ≡ Ok (i, size) → Answer opened f rest
  Cut : IsTruncated (opened ++ rest) → f rest ≡ Err Truncated → Answer opened f rest
  Never : f rest ≡ Err Undefined → ((more : List ℕ) → f (rest ++ more) ≡ Err Undefined) → Answer opened f rest

cut : (opened rest : List ℕ) (i : Ins) (next : ℕ) (tail : List ℕ) → IsAllowed i → (opened ++ rest) ++ next ∷ tail ≡ row i → IsTruncated (opened ++ rest)
cut opened rest i next tail ok e = record { whole = i; next = next; rest = tail; instruction = record { allowed = ok; bytes_are = e } }

begins : (bytes : List ℕ) (i : Ins) (tail : List ℕ) (size : ℕ) → IsAllowed i → bytes ≡ row i ++ tail → size ≡ length (row i) → BeginsWith bytes i size
begins bytes i tail size ok e s = record { front = row i; rest = tail; split = e; instruction = record { allowed = ok; bytes_are = refl }; size_is = s }

never : (opened : List ℕ) (f : List ℕ → Decoded) (rest : List ℕ) → ((bs : List ℕ) → f bs ≡ Err Undefined) → Answer opened f rest
never opened f rest k = Never (k rest) (λ more. k (rest ++ more))

at_once : (opened : List ℕ) (f : List ℕ → Decoded) (rest : List ℕ) (i : Ins) (size : ℕ) → f rest ≡ Ok (i, size) → IsAllowed i → opened ≡ row i → size ≡ length (row i) → Answer opened f rest
at_once opened f rest i size e ok is s = Found i size (begins _ i rest size ok (ap (λ l. l ++ rest) is) s) e

on_test : (opened : List ℕ) (t : Bool) (f g : List ℕ → Decoded) (rest : List ℕ) → (t ≡ true → Answer opened f rest) → (t ≡ false → Answer opened g rest) → Answer opened (λ bs. if t then f bs else g bs) rest
on_test opened true f g rest when_true when_false = when_true refl
on_test opened false f g rest when_true when_false = when_false refl

-- one more byte
one_more : (opened : List ℕ) (b : ℕ) (f g : List ℕ → Decoded) (rest : List ℕ) → ((bs : List ℕ) → f (b ∷ bs) ≡ g bs) → Answer (opened ++ b ∷ []) g rest → Answer opened f (b ∷ rest)
one_more opened b f g rest same (Found i size w e) = Found i size (subst (λ l. BeginsWith l i size) (append_assoc opened (b ∷ []) rest) w) (same rest ∙ e)
one_more opened b f g rest same (Cut w e) = Cut (subst IsTruncated (append_assoc opened (b ∷ []) rest) w) (same rest ∙ e)
one_more opened b f g rest same (Never e k) = Never (same rest ∙ e) (λ more. same (rest ++ more) ∙ k more)

-- a word that ends an instruction
module _ (opened : List ℕ) (make : ℕ → Ins) (size : ℕ) (ok : (n : ℕ) → n < 4294967296 → IsAllowed (make n)) (is : (n : ℕ) → opened ++ word_bytes n ≡ row (make n)) (long : size ≡ length opened + 4) where
  word_cut : (rest : List ℕ) (next : ℕ) (tail : List ℕ) (n : ℕ) → n < 4294967296 → rest ++ next ∷ tail ≡ word_bytes n → IsTruncated (opened ++ rest)
  word_cut rest next tail n fits e = cut opened rest (make n) next tail (ok n fits) (append_assoc opened rest (next ∷ tail) ∙ ap (λ l. opened ++ l) e ∙ is n)

  word_size : (n : ℕ) → size ≡ length (row (make n))
  word_size n = long ∙ sym (length-append opened (word_bytes n)) ∙ ap length (is n)

  word_answer : (rest : List ℕ) → AreBytes rest → Answer opened (λ bs. on_word (first_word bs) make size) rest
  word_answer [] h = Cut (word_cut [] 0 (0 ∷ 0 ∷ 0 ∷ []) 0 (omega arith) refl) refl
  word_answer (a ∷ []) h =
      Cut (word_cut (a ∷ []) 0 (0 ∷ 0 ∷ []) (a + 256 * 0 + 65536 * 0 + 16777216 * 0) (omega (arith, h.0)) (sym (word_bytes-is a 0 0 0 h.0 (omega arith) (omega arith) (omega arith)))) refl
  word_answer (a ∷ b ∷ []) h =
      Cut (word_cut (a ∷ b ∷ []) 0 (0 ∷ []) (a + 256 * b + 65536 * 0 + 16777216 * 0) (omega (arith, h.0, h.1.0)) (sym (word_bytes-is a b 0 0 h.0 h.1.0 (omega arith) (omega arith)))) refl
  word_answer (a ∷ b ∷ c ∷ []) h =
      Cut (word_cut (a ∷ b ∷ c ∷ []) 0 [] (a + 256 * b + 65536 * c + 16777216 * 0) (omega (arith, h.0, h.1.0, h.1.1.0)) (sym (word_bytes-is a b c 0 h.0 h.1.0 h.1.1.0 (omega arith)))) refl
  word_answer (a ∷ b ∷ c ∷ d ∷ rest) h =
      let n = a + 256 * b + 65536 * c + 16777216 * d in
      let bytes_are = sym (word_bytes-is a b c d h.0 h.1.0 h.1.1.0 h.1.1.1.0) in
      Found (make n) size
      (begins _ (make n) rest size (ok n (omega (arith, h.0, h.1.0, h.1.1.0, h.1.1.1.0)))
      (ap (λ l. opened ++ (l ++ rest)) bytes_are ∙ sym (append_assoc opened (word_bytes n) rest) ∙ ap (λ l. l ++ rest) (is n))
      (word_size n))
      refl

-- the bytes of an opcode
abbrev opening : Opcode → List ℕ
opening (ToRegister to) = (0xB8 + number_of to) ∷ []
opening Relative = 0xE9 ∷ []
opening (OnCondition branch) = 0x0F ∷ branch_opcode branch ∷ []
opening (WithOperand Store) = 0x89 ∷ []
opening (WithOperand Load) = 0x8B ∷ []
opening (WithOperand StoreByte) = 0x88 ∷ []
opening (WithOperand LoadByte) = 0x0F ∷ 0xB6 ∷ []
opening (WithOperand (Apply op)) = arith_opcode op ∷ []
opening (WithOperand Compare) = 0x3B ∷ []
opening (WithOperand Multiply) = 0x0F ∷ 0xAF ∷ []
opening (WithOperand WithNumber) = 0x81 ∷ []
opening (WithOperand JumpTo) = 0xFF ∷ []

-- after a byte ModR/M of mode 3
module _ (m field n : ℕ) (field_lt : field < 8) (n_lt : n < 8) (m_is : m ≡ 192 + 8 * field + n) where
  register_form-is : m ≡ register_form (number_of (register_of field)) (register_of n)
  register_form-is = omega (arith, number_of-register_of field field_lt, number_of-register_of n n_lt)

  register_form-at : (k : ℕ) → field ≡ k → m ≡ register_form k (register_of n)
  register_form-at k e = omega (arith, number_of-register_of n n_lt)

  register_answer : (op : Operation) (rest : List ℕ) → AreBytes rest → Answer (opening (WithOperand op) ++ m ∷ []) (with_register op field (register_of n)) rest
  register_answer Store rest h = at_once _ _ rest (MovTo (InRegister (register_of n)) (register_of field)) 2 refl tt (ap (λ x. 0x89 ∷ x ∷ []) register_form-is) refl
  register_answer Load rest h = at_once _ _ rest (MovFrom (register_of field) (InRegister (register_of n))) 2 refl tt (ap (λ x. 0x8B ∷ x ∷ []) register_form-is) refl
  register_answer (Apply op) rest h = at_once _ _ rest (Compute op (register_of field) (register_of n)) 2 refl tt (ap (λ x. arith_opcode op ∷ x ∷ []) register_form-is) refl
  register_answer Compare rest h = at_once _ _ rest (Cmp (register_of field) (register_of n)) 2 refl tt (ap (λ x. 0x3B ∷ x ∷ []) register_form-is) refl
  register_answer Multiply rest h = at_once _ _ rest (Imul (register_of field) (register_of n)) 3 refl tt (ap (λ x. 0x0F ∷ 0xAF ∷ x ∷ []) register_form-is) refl
  register_answer WithNumber rest h =
      on_test _ (nat_eq field 0) (λ bs. on_word (first_word bs) (Immediate false (register_of n)) 6) (λ bs. if nat_eq field 5 then on_word (first_word bs) (Immediate true (register_of n)) 6 else Err Undefined) rest
      (λ t. word_answer (0x81 ∷ m ∷ []) (Immediate false (register_of n)) 6 (λ k fits. fits) (λ k. ap (λ x. 0x81 ∷ x ∷ word_bytes k) (register_form-at 0 (grind (arith, nat_tests)))) refl rest h)
      (λ f. on_test _ (nat_eq field 5) (λ bs. on_word (first_word bs) (Immediate true (register_of n)) 6) (λ bs. Err Undefined) rest
      (λ t. word_answer (0x81 ∷ m ∷ []) (Immediate true (register_of n)) 6 (λ k fits. fits) (λ k. ap (λ x. 0x81 ∷ x ∷ word_bytes k) (register_form-at 5 (grind (arith, nat_tests)))) refl rest h)
      (λ g. never _ _ rest (λ bs. refl)))
  register_answer JumpTo rest h =
      on_test _ (nat_eq field 4) (λ bs. Ok (JmpReg (register_of n), 2)) (λ bs. Err Undefined) rest
      (λ t. at_once _ _ rest (JmpReg (register_of n)) 2 refl tt (ap (λ x. 0xFF ∷ x ∷ []) (register_form-at 4 (grind (arith, nat_tests)))) refl)
      (λ f. never _ _ rest (λ bs. refl))
  register_answer StoreByte rest h = never _ _ rest (λ bs. refl)
  register_answer LoadByte rest h = never _ _ rest (λ bs. refl)

-- after a byte ModR/M of mode 2, with another base than ESP
module _ (m field n : ℕ) (field_lt : field < 8) (n_lt : n < 8) (allowed : n ≢ 4) (m_is : m ≡ 128 + 8 * field + n) where
  memory_form-is : m ≡ memory_form (number_of (register_of field)) (register_of n)
  memory_form-is = omega (arith, number_of-register_of field field_lt, number_of-register_of n n_lt)

  memory_answer : (op : Operation) (rest : List ℕ) → AreBytes rest → Answer (opening (WithOperand op) ++ m ∷ []) (with_memory op field (register_of n)) rest
  memory_answer Store rest h = word_answer (0x89 ∷ m ∷ []) (λ d. MovTo (Mem (register_of n) d) (register_of field)) 6 (λ d fits. (not_esp n n_lt allowed, fits)) (λ d. ap (λ x. 0x89 ∷ x ∷ word_bytes d) memory_form-is) refl rest h
  memory_answer Load rest h = word_answer (0x8B ∷ m ∷ []) (λ d. MovFrom (register_of field) (Mem (register_of n) d)) 6 (λ d fits. (not_esp n n_lt allowed, fits)) (λ d. ap (λ x. 0x8B ∷ x ∷ word_bytes d) memory_form-is) refl rest h
  memory_answer StoreByte rest h =
      on_test _ (nat_lt field 4) (λ bs. on_word (first_word bs) (λ d. MovByte (register_of n) d (register_of field)) 6) (λ bs. Err Undefined) rest
      (λ t. word_answer (0x88 ∷ m ∷ []) (λ d. MovByte (register_of n) d (register_of field)) 6
      (λ d fits. ((not_esp n n_lt allowed, fits), (let low : field < 4 = grind (arith, nat_tests) in omega (arith, number_of-register_of field field_lt))))
      (λ d. ap (λ x. 0x88 ∷ x ∷ word_bytes d) memory_form-is) refl rest h)
      (λ f. never _ _ rest (λ bs. refl))
  memory_answer LoadByte rest h = word_answer (0x0F ∷ 0xB6 ∷ m ∷ []) (λ d. Movzx (register_of field) (register_of n) d) 7 (λ d fits. (not_esp n n_lt allowed, fits)) (λ d. ap (λ x. 0x0F ∷ 0xB6 ∷ x ∷ word_bytes d) memory_form-is) refl rest h
  memory_answer (Apply op) rest h = never _ _ rest (λ bs. refl)
  memory_answer Compare rest h = never _ _ rest (λ bs. refl)
  memory_answer Multiply rest h = never _ _ rest (λ bs. refl)
  memory_answer WithNumber rest h = never _ _ rest (λ bs. refl)
  memory_answer JumpTo rest h = never _ _ rest (λ bs. refl)

both : (a b : Bool) → (a && not b) ≡ true → (a ≡ true) × (b ≡ false)
both true true e = absurd cc
both true false e = (refl, refl)
both false b e = absurd cc

operand_answer : (op : Operation) (m : ℕ) → m < 256 → (rest : List ℕ) → AreBytes rest → Answer (opening (WithOperand op) ++ m ∷ []) (with_operand op m) rest
operand_answer op m lt rest h =
    let field_lt : m / 8 % 8 < 8 = omega arith in
    let n_lt : m % 8 < 8 = omega arith in
    on_test _ (nat_eq (m / 64) 3) (with_register op (m / 8 % 8) (register_of (m % 8))) (λ bs. if nat_eq (m / 64) 2 && not (nat_eq (m % 8) 4) then with_memory op (m / 8 % 8) (register_of (m % 8)) bs else Err Undefined) rest
    (λ t. let mode : m / 64 ≡ 3 = grind (arith, nat_tests) in register_answer m (m / 8 % 8) (m % 8) field_lt n_lt (omega arith) op rest h)
    (λ f. on_test _ (nat_eq (m / 64) 2 && not (nat_eq (m % 8) 4)) (with_memory op (m / 8 % 8) (register_of (m % 8))) (λ bs. Err Undefined) rest
    (λ t. let p = both _ _ t in
    let mode : m / 64 ≡ 2 = grind (arith, nat_tests) in
    let ne : m % 8 ≢ 4 = grind (arith, nat_tests) in
    memory_answer m (m / 8 % 8) (m % 8) field_lt n_lt ne (omega arith) op rest h)
    (λ g. never _ _ rest (λ bs. refl)))

operand_cut : (op : Operation) → IsTruncated (opening (WithOperand op) ++ [])
operand_cut Store = cut (0x89 ∷ []) [] (MovTo (InRegister Eax) Eax) 192 [] tt refl
operand_cut Load = cut (0x8B ∷ []) [] (MovFrom Eax (InRegister Eax)) 192 [] tt refl
operand_cut StoreByte = cut (0x88 ∷ []) [] (MovByte Eax 0 Eax) 128 (0 ∷ 0 ∷ 0 ∷ 0 ∷ []) ((λ e. absurd cc, omega arith), omega arith) refl
operand_cut LoadByte = cut (0x0F ∷ 0xB6 ∷ []) [] (Movzx Eax Eax 0) 128 (0 ∷ 0 ∷ 0 ∷ 0 ∷ []) (λ e. absurd cc, omega arith) refl
operand_cut (Apply op) = cut (arith_opcode op ∷ []) [] (Compute op Eax Eax) 192 [] tt refl
operand_cut Compare = cut (0x3B ∷ []) [] (Cmp Eax Eax) 192 [] tt refl
operand_cut Multiply = cut (0x0F ∷ 0xAF ∷ []) [] (Imul Eax Eax) 192 [] tt refl
operand_cut WithNumber = cut (0x81 ∷ []) [] (Immediate false Eax 0) 192 (0 ∷ 0 ∷ 0 ∷ 0 ∷ []) (omega arith) refl
operand_cut JumpTo = cut (0xFF ∷ []) [] (JmpReg Eax) 224 [] tt refl

opcode_answer : (opcode : Opcode) (rest : List ℕ) → AreBytes rest → Answer (opening opcode) (after_opcode opcode) rest
opcode_answer (ToRegister to) rest h = word_answer ((0xB8 + number_of to) ∷ []) (MovImm to) 5 (λ k fits. fits) (λ k. refl) refl rest h
opcode_answer Relative rest h = word_answer (0xE9 ∷ []) Jmp 5 (λ k fits. fits) (λ k. refl) refl rest h
opcode_answer (OnCondition branch) rest h = word_answer (0x0F ∷ branch_opcode branch ∷ []) (Jcc branch) 6 (λ k fits. fits) (λ k. refl) refl rest h
opcode_answer (WithOperand op) [] h = Cut (operand_cut op) refl
opcode_answer (WithOperand op) (m ∷ rest) h = one_more (opening (WithOperand op)) m (after_opcode (WithOperand op)) (with_operand op m) rest (λ bs. refl) (operand_answer op m h.0 rest h.1)

known_answer : (o : Option Opcode) (opened : List ℕ) → ((opcode : Opcode) → o ≡ Some opcode → opened ≡ opening opcode) → (rest : List ℕ) → AreBytes rest → Answer opened (after_known o) rest
known_answer None opened is rest h = never _ _ rest (λ bs. refl)
known_answer (Some opcode) opened is rest h = subst (λ l. Answer l (after_opcode opcode) rest) (sym (is opcode refl)) (opcode_answer opcode rest h)

-- Opcodes

if_some : (t : Bool) (x : Opcode) (o : Option Opcode) (opcode : Opcode) → (if t then Some x else o) ≡ Some opcode → ((t ≡ true) × (x ≡ opcode)) ⊎ (o ≡ Some opcode)
if_some true x o opcode e = inl (refl, cc)
if_some false x o opcode e = inr e

by_byte : (b k : ℕ) (x : Opcode) (o : Option Opcode) (opcode : Opcode) (before : List ℕ) → (if nat_eq b k then Some x else o) ≡ Some opcode → opening x ≡ before ++ k ∷ []
    → (o ≡ Some opcode → before ++ b ∷ [] ≡ opening opcode) → before ++ b ∷ [] ≡ opening opcode
by_byte b k x o opcode before e is later = elim (if_some (nat_eq b k) x o opcode e) [
  | inl p ↦
      let t = p.0 in
      let same : b ≡ k = grind (arith, nat_tests) in
      ap (λ y. before ++ y ∷ []) same ∙ sym is ∙ ap opening p.1
  | inr rest ↦ later rest
]

at_register : (b : ℕ) (opcode : Opcode) → ((nat_le 0xB8 b && nat_le b 0xBF) ≡ true) × (ToRegister (register_of (b - 0xB8)) ≡ opcode) → b ∷ [] ≡ opening opcode
at_register b opcode p =
    let t = p.0 in
    let low : 0xB8 ≤ b = grind (arith, nat_tests) in
    let high : b ≤ 0xBF = grind (arith, nat_tests) in
    let same : b ≡ 0xB8 + number_of (register_of (b - 0xB8)) = omega (arith, number_of-register_of (b - 0xB8) (omega arith)) in
    ap (λ y. y ∷ []) same ∙ ap opening p.1

one_byte-is : (b : ℕ) (opcode : Opcode) → one_byte b ≡ Some opcode → b ∷ [] ≡ opening opcode
one_byte-is b o e = elim (if_some (nat_le 0xB8 b && nat_le b 0xBF) (ToRegister (register_of (b - 0xB8))) _ o e) [
  | inl p ↦ at_register b o p
  | inr e0 ↦
      by_byte b 0x89 (WithOperand Store) _ o [] e0 refl λ e1.
      by_byte b 0x8B (WithOperand Load) _ o [] e1 refl λ e2.
      by_byte b 0x88 (WithOperand StoreByte) _ o [] e2 refl λ e3.
      by_byte b 0x03 (WithOperand (Apply Add)) _ o [] e3 refl λ e4.
      by_byte b 0x0B (WithOperand (Apply Or)) _ o [] e4 refl λ e5.
      by_byte b 0x23 (WithOperand (Apply And)) _ o [] e5 refl λ e6.
      by_byte b 0x2B (WithOperand (Apply Sub)) _ o [] e6 refl λ e7.
      by_byte b 0x33 (WithOperand (Apply Xor)) _ o [] e7 refl λ e8.
      by_byte b 0x3B (WithOperand Compare) _ o [] e8 refl λ e9.
      by_byte b 0x81 (WithOperand WithNumber) _ o [] e9 refl λ e10.
      by_byte b 0xE9 Relative _ o [] e10 refl λ e11.
      by_byte b 0xFF (WithOperand JumpTo) None o [] e11 refl λ none. absurd (cc)
]

two_bytes-is : (b : ℕ) (opcode : Opcode) → two_bytes b ≡ Some opcode → 0x0F ∷ b ∷ [] ≡ opening opcode
two_bytes-is b o e =
    by_byte b 0xB6 (WithOperand LoadByte) _ o (0x0F ∷ []) e refl λ e1.
    by_byte b 0xAF (WithOperand Multiply) _ o (0x0F ∷ []) e1 refl λ e2.
    by_byte b 0x82 (OnCondition Below) _ o (0x0F ∷ []) e2 refl λ e3.
    by_byte b 0x83 (OnCondition NotBelow) _ o (0x0F ∷ []) e3 refl λ e4.
    by_byte b 0x84 (OnCondition Equal) _ o (0x0F ∷ []) e4 refl λ e5.
    by_byte b 0x85 (OnCondition NotEqual) _ o (0x0F ∷ []) e5 refl λ e6.
    by_byte b 0x86 (OnCondition NotAbove) _ o (0x0F ∷ []) e6 refl λ e7.
    by_byte b 0x87 (OnCondition Above) None o (0x0F ∷ []) e7 refl λ none. absurd (cc)

escape_answer : (rest : List ℕ) → AreBytes rest → Answer (0x0F ∷ []) after_escape rest
escape_answer [] h = Cut (cut (0x0F ∷ []) [] (Imul Eax Eax) 0xAF (192 ∷ []) tt refl) refl
escape_answer (b ∷ rest) h = one_more (0x0F ∷ []) b after_escape (after_known (two_bytes b)) rest (λ bs. refl) (known_answer (two_bytes b) (0x0F ∷ b ∷ []) (two_bytes-is b) rest h.1)

pub answer : (bytes : List ℕ) → AreBytes bytes → Answer [] decoded bytes
answer [] h = Cut (cut [] [] (Jmp 0) 0xE9 (0 ∷ 0 ∷ 0 ∷ 0 ∷ []) (omega arith) refl) refl
answer (b ∷ rest) h =
    one_more [] b decoded (λ bs. if nat_eq b 0x0F then after_escape bs else after_known (one_byte b) bs) rest (λ bs. refl)
    (on_test (b ∷ []) (nat_eq b 0x0F) after_escape (after_known (one_byte b)) rest
    (λ t. let is : 0x0F ≡ b = grind (arith, nat_tests) in subst (λ y. Answer (y ∷ []) after_escape rest) is (escape_answer rest h.1))
    (λ f. known_answer (one_byte b) (b ∷ []) (one_byte-is b) rest h.1))

-- The decoder on an instruction's bytes

at_word : (make : ℕ → Ins) (size n : ℕ) (rest : List ℕ) → n < 4294967296 → on_word (first_word (word_bytes n ++ rest)) make size ≡ Ok (make n, size)
at_word make size n rest fits = ap (λ w. on_word w make size) (first_word-word_bytes n rest fits)

at_register_form : (op : Operation) (field : ℕ) (r : Reg) (rest : List ℕ) → field < 8 → with_operand op (register_form field r) rest ≡ with_register op field r rest
at_register_form op field r rest lt =
    let n_lt = number_of-lt r in
    let mode : nat_eq ((192 + 8 * field + number_of r) / 64) 3 ≡ true = let e : (192 + 8 * field + number_of r) / 64 ≡ 3 = omega arith in grind (arith, nat_tests) in
    let field_is : (192 + 8 * field + number_of r) / 8 % 8 ≡ field = omega arith in
    let number_is : (192 + 8 * field + number_of r) % 8 ≡ number_of r = omega arith in
    rw (mode, field_is, number_is, register_of-number_of r) refl

at_memory_form : (op : Operation) (field : ℕ) (base : Reg) (rest : List ℕ) → field < 8 → base ≢ Esp → with_operand op (memory_form field base) rest ≡ with_memory op field base rest
at_memory_form op field base rest lt ne =
    let n_lt = number_of-lt base in
    let not_three : nat_eq ((128 + 8 * field + number_of base) / 64) 3 ≡ false = let e : (128 + 8 * field + number_of base) / 64 ≡ 2 = omega arith in grind (arith, nat_tests) in
    let mode : nat_eq ((128 + 8 * field + number_of base) / 64) 2 ≡ true = let e : (128 + 8 * field + number_of base) / 64 ≡ 2 = omega arith in grind (arith, nat_tests) in
    let field_is : (128 + 8 * field + number_of base) / 8 % 8 ≡ field = omega arith in
    let number_is : (128 + 8 * field + number_of base) % 8 ≡ number_of base = omega arith in
    rw (not_three, mode, field_is, number_is, register_of-number_of base, not_four base ne) refl

decoded-mov_imm : (to : Reg) (n : ℕ) (rest : List ℕ) → n < 4294967296 → decoded ((0xB8 + number_of to) ∷ (word_bytes n ++ rest)) ≡ Ok (MovImm to n, 5)
decoded-mov_imm Eax n rest ok = at_word (MovImm Eax) 5 n rest ok
decoded-mov_imm Ecx n rest ok = at_word (MovImm Ecx) 5 n rest ok
decoded-mov_imm Edx n rest ok = at_word (MovImm Edx) 5 n rest ok
decoded-mov_imm Ebx n rest ok = at_word (MovImm Ebx) 5 n rest ok
decoded-mov_imm Esp n rest ok = at_word (MovImm Esp) 5 n rest ok
decoded-mov_imm Ebp n rest ok = at_word (MovImm Ebp) 5 n rest ok
decoded-mov_imm Esi n rest ok = at_word (MovImm Esi) 5 n rest ok
decoded-mov_imm Edi n rest ok = at_word (MovImm Edi) 5 n rest ok

in_field : (op : Operation) (from to : Reg) (make : Reg → Ins) (size : ℕ) (rest : List ℕ)
    → with_register op (number_of from) to rest ≡ Ok (make (register_of (number_of from)), size)
    → with_operand op (register_form (number_of from) to) rest ≡ Ok (make from, size)
in_field op from to make size rest e = at_register_form op (number_of from) to rest (number_of-lt from) ∙ e ∙ ap (λ r. Ok (make r, size)) (register_of-number_of from)

in_memory : (op : Operation) (from base : Reg) (make : Reg → ℕ → Ins) (size d : ℕ) (rest : List ℕ) → base ≢ Esp → d < 4294967296
    → with_memory op (number_of from) base (word_bytes d ++ rest) ≡ on_word (first_word (word_bytes d ++ rest)) (make (register_of (number_of from))) size
    → with_operand op (memory_form (number_of from) base) (word_bytes d ++ rest) ≡ Ok (make from d, size)
in_memory op from base make size d rest ne fits e =
    at_memory_form op (number_of from) base (word_bytes d ++ rest) (number_of-lt from) ne ∙ e ∙ at_word (make (register_of (number_of from))) size d rest fits
    ∙ ap (λ r. Ok (make r d, size)) (register_of-number_of from)

low_field : (from : Reg) (x y : Decoded) → number_of from < 4 → (if nat_lt (number_of from) 4 then x else y) ≡ x
low_field from x y lt = let t : nat_lt (number_of from) 4 ≡ true = grind (arith, nat_tests) in rw t refl

decoded-compute : (op : _) (to from : Reg) (rest : List ℕ) → decoded (arith_opcode op ∷ register_form (number_of to) from ∷ rest) ≡ Ok (Compute op to from, 2)
decoded-compute Add to from rest = in_field (Apply Add) to from (λ r. Compute Add r from) 2 rest refl
decoded-compute Or to from rest = in_field (Apply Or) to from (λ r. Compute Or r from) 2 rest refl
decoded-compute And to from rest = in_field (Apply And) to from (λ r. Compute And r from) 2 rest refl
decoded-compute Sub to from rest = in_field (Apply Sub) to from (λ r. Compute Sub r from) 2 rest refl
decoded-compute Xor to from rest = in_field (Apply Xor) to from (λ r. Compute Xor r from) 2 rest refl

decoded-branch : (branch : _) (n : ℕ) (rest : List ℕ) → n < 4294967296 → decoded (0x0F ∷ branch_opcode branch ∷ (word_bytes n ++ rest)) ≡ Ok (Jcc branch n, 6)
decoded-branch Below n rest ok = at_word (Jcc Below) 6 n rest ok
decoded-branch NotBelow n rest ok = at_word (Jcc NotBelow) 6 n rest ok
decoded-branch Equal n rest ok = at_word (Jcc Equal) 6 n rest ok
decoded-branch NotEqual n rest ok = at_word (Jcc NotEqual) 6 n rest ok
decoded-branch NotAbove n rest ok = at_word (Jcc NotAbove) 6 n rest ok
decoded-branch Above n rest ok = at_word (Jcc Above) 6 n rest ok

decoded-row : (i : Ins) (rest : List ℕ) → IsAllowed i → decoded (row i ++ rest) ≡ Ok (i, length (row i))
decoded-row (MovImm to imm) rest ok = decoded-mov_imm to imm rest ok
decoded-row (MovTo (InRegister to) from) rest ok = in_field Store from to (λ r. MovTo (InRegister to) r) 2 rest refl
decoded-row (MovTo (Mem base d) from) rest ok = in_memory Store from base (λ r x. MovTo (Mem base x) r) 6 d rest ok.0 ok.1 refl
decoded-row (MovFrom to (InRegister from)) rest ok = in_field Load to from (λ r. MovFrom r (InRegister from)) 2 rest refl
decoded-row (MovFrom to (Mem base d)) rest ok = in_memory Load to base (λ r x. MovFrom r (Mem base x)) 6 d rest ok.0 ok.1 refl
decoded-row (MovByte base d from) rest ok = in_memory StoreByte from base (λ r x. MovByte base x r) 6 d rest ok.0.0 ok.0.1 (low_field from _ _ ok.1)
decoded-row (Movzx to base d) rest ok = in_memory LoadByte to base (λ r x. Movzx r base x) 7 d rest ok.0 ok.1 refl
decoded-row (Compute op to from) rest ok = decoded-compute op to from rest
decoded-row (Cmp left right) rest ok = in_field Compare left right (λ r. Cmp r right) 2 rest refl
decoded-row (Imul to from) rest ok = in_field Multiply to from (λ r. Imul r from) 3 rest refl
decoded-row (Immediate false to imm) rest ok = at_register_form WithNumber 0 to (word_bytes imm ++ rest) (omega arith) ∙ at_word (Immediate false to) 6 imm rest ok
decoded-row (Immediate true to imm) rest ok = at_register_form WithNumber 5 to (word_bytes imm ++ rest) (omega arith) ∙ at_word (Immediate true to) 6 imm rest ok
decoded-row (Jmp rel) rest ok = at_word Jmp 5 rel rest ok
decoded-row (Jcc branch rel) rest ok = decoded-branch branch rel rest ok
decoded-row (JmpReg r) rest ok = at_register_form JumpTo 4 r rest (omega arith)

pub decoded-begins : (bytes : List ℕ) (i : Ins) (size : ℕ) → BeginsWith bytes i size → decoded bytes ≡ Ok (i, size)
decoded-begins bytes i size b =
    ap decoded (b.split ∙ ap (λ l. l ++ b.rest) b.instruction.bytes_are) ∙ decoded-row i b.rest b.instruction.allowed
    ∙ ap (λ k. Ok (i, k)) (ap length (sym b.instruction.bytes_are) ∙ sym b.size_is)

pub ok_same : (i j : Ins) (n m : ℕ) → ◌≡◌ {A = Decoded} (Ok (i, n)) (Ok (j, m)) → (i ≡ j) × (n ≡ m)
ok_same i j n m e = let p : ◌≡◌ {A = Ins × ℕ} (i, n) (j, m) = cc in (ap (λ q. q.0) p, ap (λ q. q.1) p)
