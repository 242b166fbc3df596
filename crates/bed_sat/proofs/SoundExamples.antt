-- Code of a few bytes that is sound, or that isn't by one clause of soundness alone.
use Rattle.std.proofs.Common.{◌≡◌, ℕ, zero, suc, ◌<◌, Bool, true, false, Option, Some, None, IsSome, Ok, List, [], ◌∷◌, ◌++◌, length, Contains, codes, nat_eq, if◌then◌else◌, get_or, inl, inr, refl, sym, ◌∙◌, ap, subst, arith}
use Rattle.std.proofs.lemmas.Bool.Decides.{nat_tests}
use Rattle.bed_machine.specs.declared.registers.Reg.TheVariants.{Edx, Ebp, Esi}
use Rattle.bed_machine.specs.declared.instructions.Rm.TheVariants.{Mem}
use Rattle.bed_machine.specs.declared.instructions.Ins.{Ins}
use Rattle.bed_machine.specs.declared.instructions.Ins.TheVariants.{MovImm, MovTo, MovFrom, MovByte, Movzx, Arith as Compute, Cmp, Imul, Immediate, Jmp, Jcc, JmpReg}
use Rattle.bed_machine.specs.declared.instructions.Arith.TheVariants.{Add, Or, And, Sub, Xor}
use Rattle.bed_machine.specs.Memory.{Memory, IsMemory, empty}
use Rattle.bed_machine.specs.Instructions.{row, BeginsWith}
use Rattle.bed_machine.specs.MachineCode.{IsInCode}
use Rattle.bed_machine.specs.Machine.{MachineState, IsStep, Outside as NotInCode, NoInstruction, Makes}
use Rattle.bed_machine.proofs.StepLaws.{Goes, goes_inside, goes_step}
use Rattle.bed_machine.proofs.WordLaws.{four_bytes}
use Rattle.bed_lang.specs.declared.word.Word.{Number}
use Rattle.bed_lang.specs.declared.word.Var.TheVariants as var
use Rattle.bed_lang.specs.declared.logic.Pure.TheVariants as pure
use Rattle.bed_lang.specs.declared.logic.Assertion.{Assertion}
use Rattle.bed_lang.specs.Prelude.{name, word}
use Rattle.bed_lang.specs.Values.{Values, value}
use Rattle.bed_lang.proofs.ValueLaws.{value-Number, value-Var}
use Rattle.bed_sat.specs.Parts.{JoinsAll, Includes}
use Rattle.bed_sat.specs.Cells.{IsCell, AreWordsAt}
use Rattle.bed_sat.specs.Assertions.{World, blank, Holds}
use Rattle.bed_sat.specs.Frames.{set_words, arguments, signature_of, Enters, Meets, IsAtLoop}
use Rattle.bed_sat.specs.Runs.{Outside, Steps, IsRun}
use Rattle.bed_sat.specs.Sound.{FunctionAt, LoopAt, ImportAt, Linked, world_of, IsOutsideOf, IsStart, IsFine, IsSound}
use Rattle.bed_sat.specs.Examples.{bytes_at}
use Rattle.bed_sat.specs.ConditionExamples.{just_emp}
use Rattle.bed_sat.specs.SoundExamples.{n_is, never, taking, imported, taking_five, loop_of_five, program, just_g, starters, five_state, zero_word, jump_to_itself, spinning, SpinningExample, WrongInvariantExample, starters_cell, StartersCellExample, stray, strayed, StrayExample, undefined, UndefinedExample, overwriting, overwritten, OverwritingExample, second_function, jumping, JumpingExample}
use Rattle.bed_sat.proofs.PartLaws.{joins_comm, to_empty, joins_left, joins_right, includes_trans, includes_refl}
use Rattle.bed_sat.proofs.RowLaws.{AreBytes, in_row, out_of_row, joins_rows, row_cell}
use Rattle.bed_sat.proofs.RunLaws.{FineFor, fine_run, fine_goes}
use Rattle.bed_sat.proofs.ValidExamples.{fact_is, fact_holds}
use Rattle.bed_sat.proofs.BlockLaws.{meet_twice}

-- the one element of a list
pub only : {A : Type 0} (x y : A) → Contains (x ∷ []) y → x ≡ y
only x y (zero, lt, e) = e
only x y (suc k, lt, e) = absurd (omega arith)

pub no_name : (o : Option (List ℕ)) (name : List ℕ) → o ≡ None → o ≡ Some name → ⊥
no_name o name none named = cc

none_is_some : (o : Option (List ℕ)) → o ≡ None → IsSome o → ⊥
none_is_some o none some = let no : ◌≡◌ {A = Bool} false true = subst (λ x. IsSome x) none some in cc

-- ---- starts

pub zero_bytes : AreBytes zero_word
zero_bytes = (omega arith, (omega arith, (omega arith, (omega arith, tt))))

frame_words : AreWordsAt 0x80000000 (0 ∷ 5 ∷ []) (bytes_at 0x80000000 (0 ∷ 0 ∷ 0 ∷ 0 ∷ 5 ∷ 0 ∷ 0 ∷ 0 ∷ []))
frame_words =
    let five : IsCell 0x80000004 5 (bytes_at 0x80000004 (5 ∷ 0 ∷ 0 ∷ 0 ∷ [])) = row_cell 0x80000004 5 0 0 0 (omega arith, (omega arith, (omega arith, (omega arith, tt)))) (omega arith) in (
      bytes_at 0x80000000 zero_word,
      bytes_at 0x80000004 (5 ∷ 0 ∷ 0 ∷ 0 ∷ []),
      joins_rows 0x80000000 zero_word (5 ∷ 0 ∷ 0 ∷ 0 ∷ []) 0x80000004 (omega arith),
      row_cell 0x80000000 0 0 0 0 zero_bytes (omega arith),
      (bytes_at 0x80000004 (5 ∷ 0 ∷ 0 ∷ 0 ∷ []), empty, to_empty (bytes_at 0x80000004 (5 ∷ 0 ∷ 0 ∷ 0 ∷ [])), five, refl),
    )

n_holds : (w : World) (ν : Values) (v : ℕ) → v < 4294967296 → Holds w (set_words ν (name (codes "n") ∷ []) (v ∷ [])) empty (n_is v)
n_holds w ν v small =
    let μ = set_words ν (name (codes "n") ∷ []) (v ∷ []) in
    fact_holds w μ 0 empty (pure.Equal (word (codes "n")) (Number v)) refl (value-Var w.labels μ (var.Named (name (codes "n"))) ∙ sym (value-Number w.labels μ v))

module _ (bytes : List ℕ) (others : List FunctionAt) (loops : List LoopAt) (given : Assertion) (few : length bytes < 256) where
  pub starts : (us : List ℕ) → AreBytes us → length us < 256 → IsStart (program bytes others loops given) just_g taking_five blank (five_state us) (starters us)
  starts us are short = record {
    listed = (0, omega arith, refl);
    state = record { regs = record { eax = omega arith; ecx = omega arith; edx = omega arith; ebx = omega arith; esp = omega arith; ebp = omega arith; esi = omega arith; edi = omega arith }; eip = omega arith; memory = is_memory };
    eip = refl;
    enters = record {
      frame = bytes_at 0x80000000 (0 ∷ 0 ∷ 0 ∷ 0 ∷ 5 ∷ 0 ∷ 0 ∷ 0 ∷ []);
      heap = empty;
      parts = (starters us, joins_rows 0x80000000 (0 ∷ 0 ∷ 0 ∷ 0 ∷ 5 ∷ 0 ∷ 0 ∷ 0 ∷ []) us 0x80000008 (omega arith), (starters us, joins_comm (to_empty (starters us)), (empty, to_empty (starters us), refl)));
      back = 0;
      area = [];
      args_count = refl;
      area_count = refl;
      is_frame = frame_words;
      pre = n_holds (world_of (program bytes others loops given) just_g) blank 5 (omega arith);
    };
    apart = λ a is. out_of_row 0x80000000 (0 ∷ 0 ∷ 0 ∷ 0 ∷ 5 ∷ 0 ∷ 0 ∷ 0 ∷ us) a (inl (omega (arith, is.0, is.1)));
    return_out = λ is. omega (arith, is.0);
    return_new = refl;
  }
    where
      is_memory : IsMemory (five_state us).memory
      is_memory x v e =
          let r = in_row 0x80000000 (0 ∷ 0 ∷ 0 ∷ 0 ∷ 5 ∷ 0 ∷ 0 ∷ 0 ∷ us) x v (omega arith, (omega arith, (omega arith, (omega arith, (omega arith, (omega arith, (omega arith, (omega arith, are)))))))) e in
          (omega (arith, r.1), r.2)

  g_named : (b : Bool) (called : List ℕ) → (if b then Some (codes "G") else None) ≡ Some called → codes "G" ≡ called
  g_named true called e = cc
  g_named false called e = let no : ◌≡◌ {A = Option (List ℕ)} None (Some called) = e in absurd cc

  none_at : (a : ℕ) → IsInCode (program bytes others loops given).code a → (b : Bool) → nat_eq a 0x500000 ≡ b → ◌≡◌ {A = Option (List ℕ)} (if b then Some (codes "G") else None) None
  none_at a is true e = let at : a ≡ 0x500000 = grind (arith, nat_tests) in absurd (omega (arith, is.0, is.1))
  none_at a is false e = refl

  pub is_outside : IsOutsideOf (program bytes others loops given) just_g
  is_outside = record {
    imports = λ i listed. subst (λ (j : ImportAt). just_g j.address ≡ Some j.signature) (only (record { address = 0x500000; signature = codes "G" }) i listed) refl;
    declared = λ a called e. subst (λ x. IsSome (signature_of (world_of (program bytes others loops given) just_g) x)) (g_named (nat_eq a 0x500000) called e) refl;
    apart = λ a is. none_at a is (nat_eq a 0x500000) refl;
  }

-- ---- the jump to itself

module _ (X : Outside) (out : IsOutsideOf (spinning (n_is 5)) X) (ν : Values) (s : MachineState) (F : Memory) (start : IsStart (spinning (n_is 5)) X taking_five ν s F) where
  abbrev w : World
  w = world_of (spinning (n_is 5)) X

  abbrev here : MachineState
  here = record s { eip = 0x400000 }

  spins : Goes (spinning (n_is 5)).code here here
  spins = record {
    place = 0x400000;
    instruction = Jmp 0xFFFFFFFB;
    size = 5;
    at = refl;
    inside = (omega arith, omega arith);
    begins = record { front = row (Jmp 0xFFFFFFFB); rest = []; split = refl; instruction = record { allowed = omega arith; bytes_are = refl }; size_is = refl };
    gives = refl;
  }

  abbrev en : Enters w (taking (n_is 5)) ν s F
  en = start.enters

  meets : Meets w (taking (n_is 5)) here F
  meets = record { values = ν; rest = F; keeps = includes_refl F; enters = en }

  at_head : IsAtLoop w (taking (n_is 5)) (name (codes "n") ∷ []) (n_is 5) here F
  at_head = record {
    values = ν;
    rest = F;
    keeps = includes_refl F;
    meets = record {
      frame = en.frame;
      heap = en.heap;
      parts = en.parts;
      is_frame = (en.back ∷ (arguments (taking (n_is 5)) s ++ en.area), omega (arith, en.area_count), en.is_frame);
      holds = en.pre;
    };
  }

  fine_here : IsFine (spinning (n_is 5)) X taking_five ν s F here
  unfolding spins
  fine_here = record {
    goes_on = inl (goes_inside spins, here, goes_step spins);
    keeps = includes_trans (joins_right en.parts.1) (includes_trans (joins_right en.parts.2.1) (joins_left en.parts.2.2.1));
    at_function = λ g listed e. subst (λ (h : FunctionAt). Meets w h.signature here F) (only taking_five g listed) meets;
    at_loop = λ l listed e. subst (λ (k : LoopAt). IsAtLoop w k.signature k.locals k.invariant here F) (only (loop_of_five 0x400000 (n_is 5)) l listed) at_head;
    at_outside = λ called S named e. absurd (no_name _ called (out.apart 0x400000 spins.inside) named);
    at_return = λ e. absurd (start.return_out (subst (IsInCode (spinning (n_is 5)).code) e spins.inside));
  }

  spin : (n : ℕ) → FineFor (spinning (n_is 5)) X taking_five ν s F n here
  spin zero = fine_here
  spin (suc n) = fine_goes (spinning (n_is 5)) X taking_five ν s F out n spins fine_here (spin n)

  spin_from : (n : ℕ) → FineFor (spinning (n_is 5)) X taking_five ν s F n s
  spin_from n = subst (λ e. FineFor (spinning (n_is 5)) X taking_five ν s F n (record s { eip = e })) (sym start.eip) (spin n)

spinning_sound : IsSound (spinning (n_is 5))
spinning_sound = record {
  fine = λ X out f ν s F exported start states run.
      let same : taking_five ≡ f = only taking_five f start.listed in
      fine_run (spinning (n_is 5)) X f ν s F s
      (subst (λ (g : FunctionAt). IsStart (spinning (n_is 5)) X g ν s F → (n : ℕ) → FineFor (spinning (n_is 5)) X g ν s F n s) same
      (λ (at : IsStart (spinning (n_is 5)) X taking_five ν s F). spin_from X out ν s F at) start)
      states run;
}

pub spinning_example : SpinningExample
spinning_example = (
  spinning_sound,
  is_outside jump_to_itself [] (loop_of_five 0x400000 (n_is 5) ∷ []) just_emp (omega arith),
  starts jump_to_itself [] (loop_of_five 0x400000 (n_is 5) ∷ []) just_emp (omega arith) zero_word zero_bytes (omega arith),
)

pub wrong_invariant_example : WrongInvariantExample
wrong_invariant_example sound =
    let loop : LoopAt = loop_of_five 0x400000 (n_is 6) in
    let p : Linked = spinning (n_is 6) in
    let out = is_outside jump_to_itself [] (loop ∷ []) just_emp (omega arith) in
    let start = starts jump_to_itself [] (loop ∷ []) just_emp (omega arith) [] tt (omega arith) in
    let fine = sound.fine just_g out taking_five blank (five_state []) empty refl start [] tt 0 (five_state []) (omega arith) in
    let at = fine.at_loop loop (0, omega arith, refl) refl in
    let μ = set_words at.values (name (codes "n") ∷ []) (5 ∷ []) in
    let is = fact_is (world_of p just_g) μ 0 at.meets.heap (pure.Equal (word (codes "n")) (Number 6)) at.meets.holds in
    let six = sym (value-Var p.labels μ (var.Named (name (codes "n")))) ∙ is.1 ∙ value-Number p.labels μ 6 in
    omega (arith, six)

-- ---- a cell of the starter's

-- a part that is the starter's cell stands beside no rest that has it
no_cell : (w : World) (ν : Values) (m frame heap rest : Memory) → JoinsAll m (frame ∷ heap ∷ rest ∷ []) → Includes rest (starters zero_word) → Holds w ν heap starters_cell → ⊥
no_cell w ν m frame heap rest parts keeps holds =
    let t = holds.1 in
    let cell : IsCell 0x80000008 0 t.0 =
    subst (λ v. IsCell 0x80000008 v t.0) (value-Number w.labels ν 0) (subst (λ a. IsCell a (value w.labels ν (Number 0)) t.0) (value-Number w.labels ν 0x80000008) t.3) in
    let f = four_bytes t.0 0x80000008 0 cell.holds in
    let there = (joins_left t.2).at _ _ f.at_low in
    let kept = (joins_left parts.2.2.1).at 0x80000008 0 (keeps.at 0x80000008 0 refl) in
    meet_twice _ _ _ f.low 0 (parts.2.1.at 0x80000008) there kept

pub starters_cell_example : StartersCellExample
starters_cell_example w = (
  λ met. no_cell w (set_words met.values (name (codes "n") ∷ []) (5 ∷ [])) (five_state zero_word).memory met.enters.frame met.enters.heap met.rest met.enters.parts met.keeps met.enters.pre,
  λ at. no_cell w (set_words at.values (name (codes "n") ∷ []) (5 ∷ [])) (five_state zero_word).memory at.meets.frame at.meets.heap at.rest at.meets.parts at.keeps at.meets.holds,
)

-- ---- code that isn't sound

strays : Goes stray.code (five_state []) strayed
strays = record {
  place = 0x400000;
  instruction = JmpReg Edx;
  size = 2;
  at = refl;
  inside = (omega arith, omega arith);
  begins = record { front = row (JmpReg Edx); rest = []; split = refl; instruction = record { allowed = tt; bytes_are = refl }; size_is = refl };
  gives = refl;
}

pub stray_example : StrayExample
stray_example = (
  (Steps (λ e. omega arith) (goes_step strays), tt),
  λ fine. elim fine.goes_on [
    | inl go ↦ omega (arith, go.0.0)
    | inr more ↦ elim more [ inl some ↦ none_is_some _ refl some | inr back ↦ omega (arith, back) ]
  ],
)

-- the first byte of each instruction is above 0
above_zero : (i : Ins) (rest : List ℕ) → ◌≡◌ {A = List ℕ} (0 ∷ []) (row i ++ rest) → ⊥
above_zero (MovImm to imm) rest e = omega (arith, ap (λ l. get_or l 0 1) e)
above_zero (MovTo rm from) rest e = omega (arith, ap (λ l. get_or l 0 1) e)
above_zero (MovFrom to rm) rest e = omega (arith, ap (λ l. get_or l 0 1) e)
above_zero (MovByte base disp from) rest e = omega (arith, ap (λ l. get_or l 0 1) e)
above_zero (Movzx to base disp) rest e = omega (arith, ap (λ l. get_or l 0 1) e)
above_zero (Compute Add to from) rest e = omega (arith, ap (λ l. get_or l 0 1) e)
above_zero (Compute Or to from) rest e = omega (arith, ap (λ l. get_or l 0 1) e)
above_zero (Compute And to from) rest e = omega (arith, ap (λ l. get_or l 0 1) e)
above_zero (Compute Sub to from) rest e = omega (arith, ap (λ l. get_or l 0 1) e)
above_zero (Compute Xor to from) rest e = omega (arith, ap (λ l. get_or l 0 1) e)
above_zero (Cmp left right) rest e = omega (arith, ap (λ l. get_or l 0 1) e)
above_zero (Imul to from) rest e = omega (arith, ap (λ l. get_or l 0 1) e)
above_zero (Immediate false to imm) rest e = omega (arith, ap (λ l. get_or l 0 1) e)
above_zero (Immediate true to imm) rest e = omega (arith, ap (λ l. get_or l 0 1) e)
above_zero (Jmp rel) rest e = omega (arith, ap (λ l. get_or l 0 1) e)
above_zero (Jcc branch rel) rest e = omega (arith, ap (λ l. get_or l 0 1) e)
above_zero (JmpReg r) rest e = omega (arith, ap (λ l. get_or l 0 1) e)

none_begins : (i : Ins) (size : ℕ) → BeginsWith (0 ∷ []) i size → ⊥
none_begins i size b = above_zero i b.rest (subst (λ l. ◌≡◌ {A = List ℕ} (0 ∷ []) (l ++ b.rest)) b.instruction.bytes_are b.split)

no_step : (t : MachineState) → IsStep undefined.code (five_state []) (Ok t) → ⊥
no_step t (NotInCode out e) = cc
no_step t (NoInstruction is none e) = cc
no_step t (Makes is i size begins e) = none_begins i size begins

pub undefined_example : UndefinedExample
undefined_example sound =
    let out = is_outside (0 ∷ []) [] [] just_emp (omega arith) in
    let start = starts (0 ∷ []) [] [] just_emp (omega arith) [] tt (omega arith) in
    let fine = sound.fine just_g out taking_five blank (five_state []) empty refl start [] tt 0 (five_state []) (omega arith) in
    elim fine.goes_on [
      | inl go ↦ no_step go.1 go.2
      | inr more ↦ elim more [ inl some ↦ none_is_some _ refl some | inr back ↦ omega (arith, back) ]
    ]

overwrites : Goes overwriting.code (five_state zero_word) overwritten
overwrites = record {
  place = 0x400000;
  instruction = MovTo (Mem Ebp 8) Esi;
  size = 6;
  at = refl;
  inside = (omega arith, omega arith);
  begins = record { front = row (MovTo (Mem Ebp 8) Esi); rest = jump_to_itself; split = refl; instruction = record { allowed = (λ e. absurd cc, omega arith); bytes_are = refl }; size_is = refl };
  gives = refl;
}

pub overwriting_example : OverwritingExample
overwriting_example = (
  (Steps (λ e. omega arith) (goes_step overwrites), tt),
  λ fine. sixteen (fine.keeps.at 0x80000009 0 refl),
)
  where
    sixteen : ◌≡◌ {A = Option ℕ} (Some 16) (Some 0) → ⊥
    sixteen e = let is : ◌≡◌ {A = ℕ} 16 0 = cc in omega (arith, is)

jumps : Goes jumping.code (five_state []) (record (five_state []) { eip = 0x400005 })
jumps = record {
  place = 0x400000;
  instruction = Jmp 0;
  size = 5;
  at = refl;
  inside = (omega arith, omega arith);
  begins = record { front = row (Jmp 0); rest = jump_to_itself; split = refl; instruction = record { allowed = omega arith; bytes_are = refl }; size_is = refl };
  gives = refl;
}

-- no state meets [1 = 2]
pub never_met : (w : World) (s : MachineState) (F : Memory) → Meets w (imported never) s F → ⊥
never_met w s F met =
    let ν : Values = met.values in
    let is = fact_is w ν 0 met.enters.heap (pure.Equal (Number 1) (Number 2)) met.enters.pre in
    let same = sym (value-Number w.labels ν 1) ∙ is.1 ∙ value-Number w.labels ν 2 in
    omega (arith, same)

pub jumping_example : JumpingExample
jumping_example sound =
    let bytes : List ℕ = 0xE9 ∷ 0 ∷ 0 ∷ 0 ∷ 0 ∷ jump_to_itself in
    let there : MachineState = record (five_state []) { eip = 0x400005 } in
    let out = is_outside bytes (second_function ∷ []) [] just_emp (omega arith) in
    let start = starts bytes (second_function ∷ []) [] just_emp (omega arith) [] tt (omega arith) in
    let run : IsRun (world_of jumping just_g) jumping.code just_g 0x1000 (five_state []) (there ∷ []) = (Steps (λ e. omega arith) (goes_step jumps), tt) in
    let fine = sound.fine just_g out taking_five blank (five_state []) empty refl start (there ∷ []) run 1 there (omega arith) in
    never_met (world_of jumping just_g) there empty (fine.at_function second_function (1, omega arith, refl) refl)
