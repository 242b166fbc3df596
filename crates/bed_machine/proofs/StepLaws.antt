-- Laws of steps, for the proofs of other crates too.
use Rattle.std.proofs.Common.{◌≡◌, ℕ, ◌+◌, ◌<◌, Bool, true, false, Option, Some, None, Result, Ok, Err, OnErr, refl, sym, ◌∙◌, ap, ap₂, subst, arith}
use Rattle.std.specs.Int.Bits.{and_lt, or_lt, xor_lt}
use Rattle.bed_lang.specs.Numbers.{wrap}
use Rattle.bed_machine.specs.Instructions.{BeginsWith, IsAllowed}
use Rattle.bed_machine.specs.MachineCode.{MachineCode, IsInCode, bytes_from}
use Rattle.bed_machine.specs.Machine.{MachineState, AreWords, IsState, register, set_register, result_of, is_taken, on_access, on_branch, effect, outcome, IsStep, Outside, NoInstruction, Makes}
use Rattle.bed_machine.specs.declared.registers.Reg.{Reg}
use Rattle.bed_machine.specs.declared.registers.Reg.TheVariants.{Eax, Ecx, Edx, Ebx, Esp, Ebp, Esi, Edi}
use Rattle.bed_machine.specs.declared.registers.Regs.{Regs}
use Rattle.bed_machine.specs.declared.instructions.Rm.TheVariants.{Reg as InRegister, Mem}
use Rattle.bed_machine.specs.declared.instructions.Arith.{Arith}
use Rattle.bed_machine.specs.declared.instructions.Arith.TheVariants.{Add, Or, And, Sub, Xor}
use Rattle.bed_machine.specs.declared.instructions.Ins.{Ins}
use Rattle.bed_machine.specs.declared.instructions.Ins.TheVariants.{MovImm, MovTo, MovFrom, MovByte, Movzx, Arith as Compute, Cmp, Imul, Immediate, Jmp, Jcc, JmpReg}
use Rattle.bed_machine.specs.declared.machine.Fault.{Fault}
use Rattle.bed_machine.proofs.InstructionLaws.{one_instruction}
use Rattle.bed_machine.proofs.WordLaws.{wrap_lt, word_lt, put_byte_memory, put_word_memory}

-- A step is a function of the code and the state

-- an instruction at a state's address takes it to a result
step_makes_only : (c : MachineCode) (s : MachineState) (i : Ins) (size : ℕ) (r : Result MachineState Fault) → IsInCode c s.eip → BeginsWith (bytes_from c s.eip) i size → IsStep c s r → r ≡ effect i (wrap (s.eip + size)) s
step_makes_only c s i size r inside begins (Outside out e) = absurd (out inside)
step_makes_only c s i size r inside begins (NoInstruction is none e) = absurd (none i size begins)
step_makes_only c s i size r inside begins (Makes is j n b e) =
    let same = one_instruction _ j i n size b begins in
    e ∙ ap₂ (λ k m. effect k (wrap (s.eip + m)) s) same.0 same.1

-- one result follows a state
pub step_only : (c : MachineCode) (s : MachineState) (r q : Result MachineState Fault) → IsStep c s r → IsStep c s q → r ≡ q
step_only c s r q (Outside out e) (Outside out' e') = e ∙ sym e'
step_only c s r q (Outside out e) (NoInstruction is none e') = absurd (out is)
step_only c s r q (Outside out e) (Makes is i n b e') = absurd (out is)
step_only c s r q (NoInstruction is none e) (Outside out e') = absurd (out is)
step_only c s r q (NoInstruction is none e) (NoInstruction is' none' e') = e ∙ sym e'
step_only c s r q (NoInstruction is none e) (Makes is' i n b e') = absurd (none i n b)
step_only c s r q (Makes is i n b e) step = e ∙ sym (step_makes_only c s i n q is b step)

-- an instruction at a place takes a state there to another
pub record Goes (c : MachineCode) (s t : MachineState) : Type 0 where
  pub place : ℕ
  pub instruction : Ins
  pub size : ℕ
  pub at : s.eip ≡ place
  pub inside : IsInCode c place
  pub begins : BeginsWith (bytes_from c place) instruction size
  pub gives : effect instruction (wrap (place + size)) s ≡ Ok t

pub goes_inside : {c : MachineCode} {s t : MachineState} → Goes c s t → IsInCode c s.eip
goes_inside {c = c} g = subst (IsInCode c) (sym g.at) g.inside

goes_begins : {c : MachineCode} {s t : MachineState} (g : Goes c s t) → BeginsWith (bytes_from c s.eip) g.instruction g.size
goes_begins {c = c} g = subst (λ a. BeginsWith (bytes_from c a) g.instruction g.size) (sym g.at) g.begins

goes_effect : {c : MachineCode} {s t : MachineState} (g : Goes c s t) → effect g.instruction (wrap (s.eip + g.size)) s ≡ Ok t
goes_effect {s = s} g = ap (λ a. effect g.instruction (wrap (a + g.size)) s) g.at ∙ g.gives

-- that is a step
pub goes_step : {c : MachineCode} {s t : MachineState} → Goes c s t → IsStep c s (Ok t)
goes_step g = Makes (goes_inside g) g.instruction g.size (goes_begins g) (sym (goes_effect g))

ok_same : {t u : MachineState} → ◌≡◌ {A = Result MachineState Fault} (Ok t) (Ok u) → t ≡ u
ok_same e = cc

-- and the only one
pub goes_only : {c : MachineCode} {s t : MachineState} (u : MachineState) → Goes c s t → IsStep c s (Ok u) → u ≡ t
goes_only {c = c} {s = s} u g step = ok_same (step_makes_only c s g.instruction g.size (Ok u) (goes_inside g) (goes_begins g) step ∙ goes_effect g)

-- A step leads from a state of words and bytes to another

pub register_lt : (r : Regs) (which : Reg) → AreWords r → register r which < 4294967296
register_lt r Eax h = h.eax
register_lt r Ecx h = h.ecx
register_lt r Edx h = h.edx
register_lt r Ebx h = h.ebx
register_lt r Esp h = h.esp
register_lt r Ebp h = h.ebp
register_lt r Esi h = h.esi
register_lt r Edi h = h.edi

pub set_register_words : (r : Regs) (which : Reg) (v : ℕ) → AreWords r → v < 4294967296 → AreWords (set_register r which v)
set_register_words r Eax v h lt = record { eax = lt; ecx = h.ecx; edx = h.edx; ebx = h.ebx; esp = h.esp; ebp = h.ebp; esi = h.esi; edi = h.edi }
set_register_words r Ecx v h lt = record { eax = h.eax; ecx = lt; edx = h.edx; ebx = h.ebx; esp = h.esp; ebp = h.ebp; esi = h.esi; edi = h.edi }
set_register_words r Edx v h lt = record { eax = h.eax; ecx = h.ecx; edx = lt; ebx = h.ebx; esp = h.esp; ebp = h.ebp; esi = h.esi; edi = h.edi }
set_register_words r Ebx v h lt = record { eax = h.eax; ecx = h.ecx; edx = h.edx; ebx = lt; esp = h.esp; ebp = h.ebp; esi = h.esi; edi = h.edi }
set_register_words r Esp v h lt = record { eax = h.eax; ecx = h.ecx; edx = h.edx; ebx = h.ebx; esp = lt; ebp = h.ebp; esi = h.esi; edi = h.edi }
set_register_words r Ebp v h lt = record { eax = h.eax; ecx = h.ecx; edx = h.edx; ebx = h.ebx; esp = h.esp; ebp = lt; esi = h.esi; edi = h.edi }
set_register_words r Esi v h lt = record { eax = h.eax; ecx = h.ecx; edx = h.edx; ebx = h.ebx; esp = h.esp; ebp = h.ebp; esi = lt; edi = h.edi }
set_register_words r Edi v h lt = record { eax = h.eax; ecx = h.ecx; edx = h.edx; ebx = h.ebx; esp = h.esp; ebp = h.ebp; esi = h.esi; edi = lt }

pub result_lt : (op : Arith) (a b : ℕ) → a < 4294967296 → b < 4294967296 → result_of op a b < 4294967296
result_lt Add a b ha hb = wrap_lt _
result_lt Or a b ha hb = or_lt 32 a b ha hb
result_lt And a b ha hb = and_lt 32 a b ha hb
result_lt Sub a b ha hb = wrap_lt _
result_lt Xor a b ha hb = xor_lt 32 a b ha hb

is_state : {s t : MachineState} → IsState s → ◌≡◌ {A = Result MachineState Fault} (Ok s) (Ok t) → IsState t
is_state h e = subst IsState (ok_same e) h

on_access_is : (o : Option ℕ) (a : ℕ) (after : ℕ → MachineState) (t : MachineState) → on_access o a after ≡ Ok t → (v : ℕ) × (o ≡ Some v) × ◌≡◌ {A = Result MachineState Fault} (Ok (after v)) (Ok t)
on_access_is None a after t e = absurd cc
on_access_is (Some v) a after t e = (v, refl, e)

on_branch_state : (o : Option Bool) (s t : MachineState) (next target : ℕ) → IsState s → next < 4294967296 → target < 4294967296 → on_branch o s next target ≡ Ok t → IsState t
on_branch_state None s t next target h n m e = absurd cc
on_branch_state (Some true) s t next target h n m e = is_state (record { regs = h.regs; eip = m; memory = h.memory }) e
on_branch_state (Some false) s t next target h n m e = is_state (record { regs = h.regs; eip = n; memory = h.memory }) e

pub effect_state : (i : Ins) (next : ℕ) (s t : MachineState) → IsAllowed i → next < 4294967296 → IsState s → effect i next s ≡ Ok t → IsState t
effect_state (MovImm to imm) next s t ok lt h e = is_state (record { regs = set_register_words s.regs to imm h.regs ok; eip = lt; memory = h.memory }) e
effect_state (MovTo (InRegister to) from) next s t ok lt h e = is_state (record { regs = set_register_words s.regs to _ h.regs (register_lt s.regs from h.regs); eip = lt; memory = h.memory }) e
effect_state (MovTo (Mem base disp) from) next s t ok lt h e =
    let x = on_access_is _ _ _ t e in
    is_state (record { regs = h.regs; eip = lt; memory = put_word_memory s.memory _ _ x.0 h.memory x.1 }) x.2
effect_state (MovFrom to (InRegister from)) next s t ok lt h e = is_state (record { regs = set_register_words s.regs to _ h.regs (register_lt s.regs from h.regs); eip = lt; memory = h.memory }) e
effect_state (MovFrom to (Mem base disp)) next s t ok lt h e =
    let x = on_access_is _ _ _ t e in
    is_state (record { regs = set_register_words s.regs to _ h.regs (word_lt s.memory _ x.0 h.memory x.1); eip = lt; memory = h.memory }) x.2
effect_state (MovByte base disp from) next s t ok lt h e =
    let x = on_access_is _ _ _ t e in
    is_state (record { regs = h.regs; eip = lt; memory = put_byte_memory s.memory _ _ x.0 h.memory x.1 }) x.2
effect_state (Movzx to base disp) next s t ok lt h e =
    let x = on_access_is _ _ _ t e in
    let small : x.0 < 4294967296 = let b = h.memory _ _ x.1 in omega (arith, b.1) in
    is_state (record { regs = set_register_words s.regs to _ h.regs small; eip = lt; memory = h.memory }) x.2
effect_state (Compute op to from) next s t ok lt h e = is_state (record { regs = set_register_words s.regs to _ h.regs (result_lt op _ _ (register_lt s.regs to h.regs) (register_lt s.regs from h.regs)); eip = lt; memory = h.memory }) e
effect_state (Cmp left right) next s t ok lt h e = is_state (record { regs = h.regs; eip = lt; memory = h.memory }) e
effect_state (Imul to from) next s t ok lt h e = is_state (record { regs = set_register_words s.regs to _ h.regs (wrap_lt _); eip = lt; memory = h.memory }) e
effect_state (Immediate false to imm) next s t ok lt h e = is_state (record { regs = set_register_words s.regs to _ h.regs (wrap_lt _); eip = lt; memory = h.memory }) e
effect_state (Immediate true to imm) next s t ok lt h e = is_state (record { regs = set_register_words s.regs to _ h.regs (wrap_lt _); eip = lt; memory = h.memory }) e
effect_state (Jmp rel) next s t ok lt h e = is_state (record { regs = h.regs; eip = wrap_lt _; memory = h.memory }) e
effect_state (Jcc branch rel) next s t ok lt h e = on_branch_state (is_taken branch s.flags) s t next _ h lt (wrap_lt _) e
effect_state (JmpReg r) next s t ok lt h e = is_state (record { regs = h.regs; eip = register_lt s.regs r h.regs; memory = h.memory }) e

pub step_state : (c : MachineCode) (s t : MachineState) → IsState s → IsStep c s (Ok t) → IsState t
step_state c s t h (Outside out e) = absurd cc
step_state c s t h (NoInstruction is none e) = absurd cc
step_state c s t h (Makes is i n b e) = effect_state i _ s t b.instruction.allowed (wrap_lt _) h (sym e)

-- the state that a call leaves, by its answer
pub outcome_state : {A : Type 0} (c : MachineCode) (s t : MachineState) (r : Result A Fault) → IsStep c s (outcome r t) → OnErr r (t ≡ s) → IsState s → IsState t
outcome_state c s t (Ok x) step kept h = step_state c s t h step
outcome_state c s t (Err fault) step kept h = subst IsState (sym kept) h
