-- An instruction of blocks is an instruction of the machine.
use Rattle.std.proofs.Common.{◌≡◌, ℕ, ◌+◌, ◌/◌, ◌%◌, ◌<◌, Bool, true, false, not, nat_eq, nat_lt, if◌then◌else◌, Option, Some, None, Result, Ok, Err, List, [], ◌∷◌, refl, ◌∙◌, ap, arith}
use Rattle.std.proofs.lemmas.Bool.Decides.{nat_tests}
use Rattle.bed_lang.specs.Numbers.{wrap, word_bytes}
use Rattle.bed_lang.specs.declared.module.Op.{Op}
use Rattle.bed_lang.specs.declared.module.Op.TheVariants as op
use Rattle.bed_lang.specs.declared.module.Rel.{Rel}
use Rattle.bed_lang.specs.declared.module.Rel.TheVariants.{Equal, Unequal, Less, AtMost}
use Rattle.bed_machine.specs.Instructions.{row, IsAllowed, number_of, memory_form, register_form}
use Rattle.bed_machine.specs.Machine.{MachineState, effect as machine_effect, on_access as machine_access, is_taken, on_branch}
use Rattle.bed_machine.specs.declared.registers.Reg.TheVariants.{Eax, Ecx, Edx, Esp, Ebp, Esi}
use Rattle.bed_machine.specs.declared.instructions.Rm.TheVariants.{Reg as InRegister, Mem}
use Rattle.bed_machine.specs.declared.instructions.Ins.{Ins}
use Rattle.bed_machine.specs.declared.instructions.Ins.TheVariants.{MovImm, MovTo, MovFrom, MovByte, Movzx, Immediate, Jcc}
use Rattle.bed_machine.specs.declared.machine.Flags.{Flags}
use Rattle.bed_machine.specs.declared.machine.Flags.TheVariants.{Unknown, Known}
use Rattle.bed_machine.specs.declared.machine.Fault.{Fault}
use Rattle.bed_machine.proofs.WordLaws.{wrap_lt}
use Rattle.bed_il.specs.declared.blocks.Scratch.TheVariants.{First, Second}
use Rattle.bed_il.specs.declared.blocks.Value.TheVariants.{Number, Slot, Function}
use Rattle.bed_il.specs.declared.blocks.Inst.{Inst}
use Rattle.bed_il.specs.declared.blocks.Inst.TheVariants.{SaveReturn, Fetch, Keep, KeepAnswer, Apply, LoadWord, LoadByte, StoreWord, StoreByte, RaiseSp, LowerSp, ReturnTo, SetAnswer, TakeReturn}
use Rattle.bed_il.specs.BlockMachine.{BlockState, effect, on_access, compares}
use Rattle.bed_il.specs.Bytes.{register_of, operation, otherwise, ins_of}

-- the registers that no block touches
pub record Untouched : Type 0 where
  pub ebx : ℕ
  pub esp : ℕ
  pub edi : ℕ

-- the machine's state that shows a state of blocks
abbrev pub state_of : BlockState → Untouched → ℕ → Flags → MachineState
state_of s u eip flags = record {
  regs = record { eax = s.rv; ecx = s.first; edx = s.second; ebx = u.ebx; esp = u.esp; ebp = s.sp; esi = s.rp; edi = u.edi };
  eip = eip;
  flags = flags;
  memory = s.memory;
}

-- Numbers are written modulo 2^32

pub word_bytes-wrap : (n : ℕ) → word_bytes n ≡ word_bytes (wrap n)
word_bytes-wrap n =
    let a : n % 256 ≡ wrap n % 256 = omega arith in
    let b : n / 256 % 256 ≡ wrap n / 256 % 256 = omega arith in
    let c : n / 65536 % 256 ≡ wrap n / 65536 % 256 = omega arith in
    let d : n / 16777216 % 256 ≡ wrap n / 16777216 % 256 = omega arith in
    λ i. a i ∷ b i ∷ c i ∷ d i ∷ []

module _ (functions : List ℕ → ℕ) (places : ℕ → ℕ) where
  -- the instruction with its numbers modulo 2^32
  abbrev pub word_ins : Inst → Ins
  word_ins (Fetch into (Number n)) = MovImm (register_of into) (wrap n)
  word_ins (Fetch into (Slot disp)) = MovFrom (register_of into) (Mem Ebp (wrap disp))
  word_ins (Fetch into (Function f)) = MovImm (register_of into) (wrap (functions f.bytes))
  word_ins (Keep disp) = MovTo (Mem Ebp (wrap disp)) Ecx
  word_ins (KeepAnswer disp) = MovTo (Mem Ebp (wrap disp)) Eax
  word_ins (LoadWord disp) = MovFrom Ecx (Mem Ecx (wrap disp))
  word_ins (LoadByte disp) = Movzx Ecx Ecx (wrap disp)
  word_ins (StoreWord disp) = MovTo (Mem Ecx (wrap disp)) Edx
  word_ins (StoreByte disp) = MovByte Ecx (wrap disp) Edx
  word_ins (RaiseSp n) = Immediate false Ebp (wrap n)
  word_ins SaveReturn = MovTo (Mem Ebp 0) Esi
  word_ins (Apply o) = operation o
  word_ins (LowerSp n) = Immediate true Ebp n
  word_ins (ReturnTo l) = MovImm Esi (places l)
  word_ins SetAnswer = MovFrom Eax (InRegister Ecx)
  word_ins TakeReturn = MovFrom Esi (Mem Ebp 0)

  -- it has the same bytes
  pub word_row : (i : Inst) → row (ins_of functions places i) ≡ row (word_ins i)
  word_row (Fetch First (Number n)) = ap (λ l. (0xB8 + number_of Ecx) ∷ l) (word_bytes-wrap n)
  word_row (Fetch Second (Number n)) = ap (λ l. (0xB8 + number_of Edx) ∷ l) (word_bytes-wrap n)
  word_row (Fetch First (Slot d)) = ap (λ l. 0x8B ∷ memory_form (number_of Ecx) Ebp ∷ l) (word_bytes-wrap d)
  word_row (Fetch Second (Slot d)) = ap (λ l. 0x8B ∷ memory_form (number_of Edx) Ebp ∷ l) (word_bytes-wrap d)
  word_row (Fetch First (Function f)) = ap (λ l. (0xB8 + number_of Ecx) ∷ l) (word_bytes-wrap (functions f.bytes))
  word_row (Fetch Second (Function f)) = ap (λ l. (0xB8 + number_of Edx) ∷ l) (word_bytes-wrap (functions f.bytes))
  word_row (Keep d) = ap (λ l. 0x89 ∷ memory_form (number_of Ecx) Ebp ∷ l) (word_bytes-wrap d)
  word_row (KeepAnswer d) = ap (λ l. 0x89 ∷ memory_form (number_of Eax) Ebp ∷ l) (word_bytes-wrap d)
  word_row (LoadWord d) = ap (λ l. 0x8B ∷ memory_form (number_of Ecx) Ecx ∷ l) (word_bytes-wrap d)
  word_row (LoadByte d) = ap (λ l. 0x0F ∷ 0xB6 ∷ memory_form (number_of Ecx) Ecx ∷ l) (word_bytes-wrap d)
  word_row (StoreWord d) = ap (λ l. 0x89 ∷ memory_form (number_of Edx) Ecx ∷ l) (word_bytes-wrap d)
  word_row (StoreByte d) = ap (λ l. 0x88 ∷ memory_form (number_of Edx) Ecx ∷ l) (word_bytes-wrap d)
  word_row (RaiseSp n) = ap (λ l. 0x81 ∷ register_form 0 Ebp ∷ l) (word_bytes-wrap n)
  word_row SaveReturn = refl
  word_row (Apply o) = refl
  word_row (LowerSp n) = refl
  word_row (ReturnTo l) = refl
  word_row SetAnswer = refl
  word_row TakeReturn = refl

  -- the numbers that matter are words
  abbrev pub IsSmall : Inst → Type 0
  IsSmall (LowerSp n) = n < 4294967296
  IsSmall (ReturnTo l) = places l < 4294967296
  IsSmall _ = Unit {0}

  ecx_not : Ecx ≡ Esp → ⊥
  ecx_not e = cc

  operation_allowed : (o : Op) → IsAllowed (operation o)
  operation_allowed op.Add = tt
  operation_allowed op.Sub = tt
  operation_allowed op.Mul = tt
  operation_allowed op.And = tt
  operation_allowed op.Or = tt
  operation_allowed op.Xor = tt

  ebp_not : Ebp ≡ Esp → ⊥
  ebp_not e = cc

  -- it is in an allowed form
  pub word_allowed : (i : Inst) → IsSmall i → IsAllowed (word_ins i)
  word_allowed (Fetch First (Number n)) small = wrap_lt n
  word_allowed (Fetch Second (Number n)) small = wrap_lt n
  word_allowed (Fetch First (Slot d)) small = (ebp_not, wrap_lt d)
  word_allowed (Fetch Second (Slot d)) small = (ebp_not, wrap_lt d)
  word_allowed (Fetch First (Function f)) small = wrap_lt (functions f.bytes)
  word_allowed (Fetch Second (Function f)) small = wrap_lt (functions f.bytes)
  word_allowed (Keep d) small = (ebp_not, wrap_lt d)
  word_allowed (KeepAnswer d) small = (ebp_not, wrap_lt d)
  word_allowed (LoadWord d) small = (ecx_not, wrap_lt d)
  word_allowed (LoadByte d) small = (ecx_not, wrap_lt d)
  word_allowed (StoreWord d) small = (ecx_not, wrap_lt d)
  word_allowed (StoreByte d) small = ((ecx_not, wrap_lt d), omega arith)
  word_allowed (RaiseSp n) small = wrap_lt n
  word_allowed SaveReturn small = (ebp_not, omega arith)
  word_allowed (Apply o) small = operation_allowed o
  word_allowed (LowerSp n) small = small
  word_allowed (ReturnTo l) small = small
  word_allowed SetAnswer small = tt
  word_allowed TakeReturn small = (ebp_not, omega arith)

  err_ok : {t : BlockState} {x : ℕ} → ◌≡◌ {A = Result BlockState ℕ} (Err x) (Ok t) → ⊥
  err_ok z = cc

  ok_same : {s t : BlockState} → ◌≡◌ {A = Result BlockState ℕ} (Ok s) (Ok t) → s ≡ t
  ok_same e = cc

  module _ (u : Untouched) where
    -- an access of both
    access_step : (o : Option ℕ) (x y next : ℕ) (f : ℕ → BlockState) (t : BlockState) (fl : Flags) → on_access o x f ≡ Ok t → machine_access o y (λ v. state_of (f v) u next fl) ≡ Ok (state_of t u next fl)
    access_step None x y next f t fl e = absurd (err_ok e)
    access_step (Some v) x y next f t fl e = ap (λ z. Ok (state_of z u next fl)) (ok_same e)

    ok_step : (s t : BlockState) (next : ℕ) (fl : Flags) → ◌≡◌ {A = Result BlockState ℕ} (Ok s) (Ok t) → ◌≡◌ {A = Result MachineState Fault} (Ok (state_of s u next fl)) (Ok (state_of t u next fl))
    ok_step s t next fl e = ap (λ z. Ok (state_of z u next fl)) (ok_same e)

    wrap_sum : (a d : ℕ) → wrap (a + wrap d) ≡ wrap (a + d)
    wrap_sum a d = omega arith

    -- an instruction of a block has the effect of one instruction of the machine
    pub one_step : (i : Inst) (s t : BlockState) (eip next : ℕ) (fl : Flags) → s.sp < 4294967296 → effect functions places i s ≡ Ok t
        → (fl2 : Flags) × (machine_effect (word_ins i) next (state_of s u eip fl) ≡ Ok (state_of t u next fl2))
    one_step SaveReturn s t eip next fl lt e = (fl, let z : wrap (s.sp + 0) ≡ s.sp = omega arith in rw z (access_step _ _ _ next _ t fl e))
    one_step TakeReturn s t eip next fl lt e = (fl, let z : wrap (s.sp + 0) ≡ s.sp = omega arith in rw z (access_step _ _ _ next _ t fl e))
    one_step SetAnswer s t eip next fl lt e = (fl, ok_step _ t next fl e)
    one_step (Fetch First (Number n)) s t eip next fl lt e = (fl, ok_step _ t next fl e)
    one_step (Fetch Second (Number n)) s t eip next fl lt e = (fl, ok_step _ t next fl e)
    one_step (Fetch First (Slot d)) s t eip next fl lt e = (fl, let z = wrap_sum s.sp d in rw z (access_step _ _ _ next _ t fl e))
    one_step (Fetch Second (Slot d)) s t eip next fl lt e = (fl, let z = wrap_sum s.sp d in rw z (access_step _ _ _ next _ t fl e))
    one_step (Fetch First (Function f)) s t eip next fl lt e = (fl, ok_step _ t next fl e)
    one_step (Fetch Second (Function f)) s t eip next fl lt e = (fl, ok_step _ t next fl e)
    one_step (Apply op.Add) s t eip next fl lt e = (Unknown, ok_step _ t next Unknown e)
    one_step (Apply op.Sub) s t eip next fl lt e = (Unknown, ok_step _ t next Unknown e)
    one_step (Apply op.Mul) s t eip next fl lt e = (Unknown, ok_step _ t next Unknown e)
    one_step (Apply op.And) s t eip next fl lt e = (Unknown, ok_step _ t next Unknown e)
    one_step (Apply op.Or) s t eip next fl lt e = (Unknown, ok_step _ t next Unknown e)
    one_step (Apply op.Xor) s t eip next fl lt e = (Unknown, ok_step _ t next Unknown e)
    one_step (Keep d) s t eip next fl lt e = (fl, let z = wrap_sum s.sp d in rw z (access_step _ _ _ next _ t fl e))
    one_step (KeepAnswer d) s t eip next fl lt e = (fl, let z = wrap_sum s.sp d in rw z (access_step _ _ _ next _ t fl e))
    one_step (LoadWord d) s t eip next fl lt e = (fl, let z = wrap_sum s.first d in rw z (access_step _ _ _ next _ t fl e))
    one_step (LoadByte d) s t eip next fl lt e = (fl, let z = wrap_sum s.first d in rw z (access_step _ _ _ next _ t fl e))
    one_step (StoreWord d) s t eip next fl lt e = (fl, let z = wrap_sum s.first d in rw z (access_step _ _ _ next _ t fl e))
    one_step (StoreByte d) s t eip next fl lt e = (fl, let z = wrap_sum s.first d in rw z (access_step _ _ _ next _ t fl e))
    one_step (RaiseSp n) s t eip next fl lt e = (Unknown, let z = wrap_sum s.sp n in rw z (ok_step _ t next Unknown e))
    one_step (LowerSp n) s t eip next fl lt e = (Unknown, ok_step _ t next Unknown e)
    one_step (ReturnTo l) s t eip next fl lt e = (fl, ok_step _ t next fl e)

-- A test is two instructions. The first makes the flags known,

abbrev pub known : BlockState → Flags
known s = Known (nat_lt s.first s.second) (nat_eq s.first s.second)

-- and the second jumps where the test is false
taken_false : (r : Rel) (a b : ℕ) → is_taken (otherwise r) (Known (nat_lt a b) (nat_eq a b)) ≡ Some (not (compares r a b))
taken_false Equal a b = refl
taken_false Unequal a b = grind (arith, nat_tests)
taken_false Less a b = refl
taken_false AtMost a b = grind (arith, nat_tests)

pub test_second : (u : Untouched) (r : Rel) (s : BlockState) (eip next n : ℕ)
    → machine_effect (Jcc (otherwise r) n) next (state_of s u eip (known s)) ≡ Ok (state_of s u (if compares r s.first s.second then next else wrap (next + n)) (known s))
test_second u r s eip next n = ap (λ o. on_branch o (state_of s u eip (known s)) next (wrap (next + n))) (taken_false r s.first s.second) ∙ by_bool (compares r s.first s.second)
  where
    by_bool : (t : Bool) → on_branch (Some (not t)) (state_of s u eip (known s)) next (wrap (next + n)) ≡ Ok (state_of s u (if t then next else wrap (next + n)) (known s))
    by_bool true = refl
    by_bool false = refl
