-- Calls of the outside: one that is sound, and those that aren't by one clause alone.
use Rattle.std.proofs.Common.{◌≡◌, ℕ, zero, suc, ◌+◌, ◌*◌, ◌<◌, Option, Some, IsSome, List, [], ◌∷◌, ◌++◌, length, length-append, unwrap_or, Contains, codes, inl, inr, refl, sym, ◌∙◌, ap, subst, arith}
use Rattle.bed_machine.specs.declared.registers.Reg.TheVariants.{Esi}
use Rattle.bed_machine.specs.declared.instructions.Ins.TheVariants.{MovImm, Jmp}
use Rattle.bed_lang.specs.Numbers.{wrap}
use Rattle.bed_machine.specs.Memory.{Memory, empty, word_at}
use Rattle.bed_machine.specs.Instructions.{row}
use Rattle.bed_machine.specs.MachineCode.{IsInCode}
use Rattle.bed_machine.specs.Machine.{MachineState, Outside as NotInCode, NoInstruction, Makes}
use Rattle.bed_machine.proofs.StepLaws.{Goes, goes_inside, goes_step}
use Rattle.bed_machine.proofs.WordLaws.{some_same}
use Rattle.bed_lang.specs.declared.module.Signature.{Signature}
use Rattle.bed_lang.specs.Prelude.{name}
use Rattle.bed_lang.specs.Values.{Values, Answer, set_word}
use Rattle.bed_sat.specs.Parts.{Joins, JoinsAll, Includes}
use Rattle.bed_sat.specs.Cells.{AreWordsAt, IsBlock}
use Rattle.bed_sat.specs.Assertions.{World, blank, Holds}
use Rattle.bed_sat.specs.Frames.{words_at, set_words, signature_of, Enters, Returned, Meets, IsAtLoop}
use Rattle.bed_sat.specs.Runs.{Outside, IsHonest, Turn, Steps, Answers, IsRun}
use Rattle.bed_sat.specs.Sound.{FunctionAt, LoopAt, Linked, world_of, IsOutsideOf, IsStart, IsFine, IsSound}
use Rattle.bed_sat.specs.Examples.{bytes_at}
use Rattle.bed_sat.specs.ConditionExamples.{just_emp}
use Rattle.bed_sat.specs.SoundExamples.{n_is, never, taking, imported, taking_five, loop_of_five, just_g, five_state, zero_word, jump_to_itself, calling, at_call, back_with, CallingExample, DishonestExample, UnmetCallExample, tail_calling, TailCallExample}
use Rattle.bed_sat.proofs.PartLaws.{joins_comm, joins_empty, to_empty, joins_left, joins_right, includes_trans, includes_refl, split_part, join_parts}
use Rattle.bed_sat.proofs.RowLaws.{joins_rows, row_cell}
use Rattle.bed_sat.proofs.BlockLaws.{append_words}
use Rattle.bed_sat.proofs.FrameLaws.{read_words}
use Rattle.bed_sat.proofs.RunLaws.{FineFor, fine_run, fine_goes, fine_then}
use Rattle.bed_sat.proofs.ValidExamples.{emp_is}
use Rattle.bed_sat.proofs.SoundExamples.{only, no_name, zero_bytes, starts, is_outside, never_met}

-- what is called at 0x500000
g_called : (o : Option (List ℕ)) (called : List ℕ) → o ≡ Some (codes "G") → o ≡ Some called → codes "G" ≡ called
g_called o called g named = some_same (sym g ∙ named)

-- a part without the first of its words, beside all else
record Beside (m F first others heap : Memory) : Type 0 where
  pub rest : Memory
  pub joins : Joins m first rest
  pub inner : JoinsAll rest (others ∷ heap ∷ F ∷ [])

beside : (m F frame first others heap : Memory) → Joins frame first others → JoinsAll m (frame ∷ heap ∷ F ∷ []) → Beside m F first others heap
beside m F frame first others heap j parts =
    let k = split_part m frame first others (heap ∷ F ∷ []) j parts in
    record { rest = k.0; joins = k.1; inner = k.2 }

-- all but the first and an empty part
last_of : (m first heap rest : Memory) → heap ≡ empty → JoinsAll m (first ∷ heap ∷ rest ∷ []) → Joins m first rest
last_of m first heap rest nothing parts =
    let q = parts.2 in
    let last : q.0 ≡ rest = joins_empty (subst (λ e. Joins q.0 rest e) q.2.2 q.2.1) in
    let all : parts.0 ≡ q.0 = joins_empty (joins_comm (subst (λ h. Joins parts.0 h q.0) nothing q.1)) in
    subst (λ r. Joins m first r) (all ∙ last) parts.1

module _ (X : Outside) (out : IsOutsideOf (calling just_emp) X) (ν : Values) (s : MachineState) (F : Memory) (start : IsStart (calling just_emp) X taking_five ν s F) where
  abbrev p : Linked
  p = calling just_emp

  abbrev w : World
  w = world_of p X

  abbrev en : Enters w (taking (n_is 5)) ν s F
  en = start.enters

  -- the argument
  abbrev n : ℕ
  n = unwrap_or (word_at s.memory (wrap (s.regs.ebp + 4))) 0

  abbrev s0 : MachineState
  s0 = record s { eip = 0x400000 }

  abbrev s1 : MachineState
  s1 = record s { regs = record s.regs { esi = 0x40000A }; eip = 0x400005 }

  abbrev s2 : MachineState
  s2 = record s1 { eip = 0x500000 }

  goes0 : Goes p.code s0 s1
  goes0 = record {
    place = 0x400000;
    instruction = MovImm Esi 0x40000A;
    size = 5;
    at = refl;
    inside = (omega arith, omega arith);
    begins = record { front = row (MovImm Esi 0x40000A); rest = 0xE9 ∷ 0xF6 ∷ 0xFF ∷ 0x0F ∷ 0 ∷ jump_to_itself; split = refl; instruction = record { allowed = omega arith; bytes_are = refl }; size_is = refl };
    gives = refl;
  }

  goes1 : Goes p.code s1 s2
  goes1 = record {
    place = 0x400005;
    instruction = Jmp 0xFFFF6;
    size = 5;
    at = refl;
    inside = (omega arith, omega arith);
    begins = record { front = row (Jmp 0xFFFF6); rest = jump_to_itself; split = refl; instruction = record { allowed = omega arith; bytes_are = refl }; size_is = refl };
    gives = refl;
  }

  spins : (t : MachineState) → Goes p.code (record t { eip = 0x40000A }) (record t { eip = 0x40000A })
  spins t = record {
    place = 0x40000A;
    instruction = Jmp 0xFFFFFFFB;
    size = 5;
    at = refl;
    inside = (omega arith, omega arith);
    begins = record { front = row (Jmp 0xFFFFFFFB); rest = []; split = refl; instruction = record { allowed = omega arith; bytes_are = refl }; size_is = refl };
    gives = refl;
  }

  keeps : Includes s.memory F
  keeps = includes_trans (joins_right en.parts.1) (includes_trans (joins_right en.parts.2.1) (joins_left en.parts.2.2.1))

  abbrev Fine : MachineState → Type 0
  Fine t = IsFine p X taking_five ν s F t

  -- no function and no loop stands there
  no_function : (a : ℕ) → 0x400000 < a → (g : FunctionAt) → Contains p.functions g → a ≡ g.address → ⊥
  no_function a high g listed e = let at = ap (λ (h : FunctionAt). h.address) (only taking_five g listed) in omega (arith, at, e)

  no_loop : (a : ℕ) → (0x40000A ≡ a → ⊥) → (l : LoopAt) → Contains p.loops l → a ≡ l.address → ⊥
  no_loop a not l listed e = not (ap (λ (k : LoopAt). k.address) (only (loop_of_five 0x40000A (n_is 5)) l listed) ∙ sym e)

  not_back : (a : ℕ) → IsInCode p.code a → a ≡ s.regs.esi → ⊥
  not_back a inside e = start.return_out (subst (IsInCode p.code) e inside)

  fine0 : Fine s0
  unfolding goes0
  fine0 = record {
    goes_on = inl (goes_inside goes0, s1, goes_step goes0);
    keeps = keeps;
    at_function = λ g listed e. subst (λ (h : FunctionAt). Meets w h.signature s0 F) (only taking_five g listed) (record { values = ν; rest = F; keeps = includes_refl F; enters = en });
    at_loop = λ l listed e. absurd (no_loop 0x400000 (λ x. omega arith) l listed e);
    at_outside = λ called S named e. absurd (no_name _ called (out.apart 0x400000 goes0.inside) named);
    at_return = λ e. absurd (not_back 0x400000 goes0.inside e);
  }

  fine1 : Fine s1
  unfolding goes1
  fine1 = record {
    goes_on = inl (goes_inside goes1, s2, goes_step goes1);
    keeps = keeps;
    at_function = λ g listed e. absurd (no_function 0x400005 (omega arith) g listed e);
    at_loop = λ l listed e. absurd (no_loop 0x400005 (λ x. omega arith) l listed e);
    at_outside = λ called S named e. absurd (no_name _ called (out.apart 0x400005 goes1.inside) named);
    at_return = λ e. absurd (not_back 0x400005 goes1.inside e);
  }

  -- ---- the call

  has_g : X 0x500000 ≡ Some (codes "G")
  has_g = out.imports (record { address = 0x500000; signature = codes "G" }) (0, omega arith, refl)

  -- the frame of g is the first word of the caller's; the others, the heap and F are its rest
  abbrev first : Memory
  first = en.is_frame.0

  abbrev others : Memory
  others = en.is_frame.1

  abbrev split : Beside s.memory F first others en.heap
  split = beside s.memory F en.frame first others en.heap en.is_frame.2 en.parts

  enters : Enters w (imported just_emp) ν s2 split.rest
  enters = record {
    frame = first;
    heap = empty;
    parts = (split.rest, split.joins, (split.rest, joins_comm (to_empty split.rest), (empty, to_empty split.rest, refl)));
    back = en.back;
    area = [];
    args_count = refl;
    area_count = refl;
    is_frame = (first, empty, to_empty first, en.is_frame.3, refl);
    pre = (0, (empty, empty, to_empty empty, refl, refl));
  }

  rest_keeps : Includes split.rest F
  rest_keeps = includes_trans (joins_right split.inner.1) (includes_trans (joins_right split.inner.2.1) (joins_left split.inner.2.2.1))

  fine2 : Fine s2
  fine2 = record {
    goes_on = inr (inl (subst (λ o. IsSome o) (sym has_g) refl));
    keeps = keeps;
    at_function = λ g listed e. absurd (no_function 0x500000 (omega arith) g listed e);
    at_loop = λ l listed e. absurd (no_loop 0x500000 (λ x. omega arith) l listed e);
    at_outside = λ called S named e.
        let is : Some (imported just_emp) ≡ Some S = subst (λ x. signature_of w x ≡ Some S) (sym (g_called _ called has_g named)) e in
        (subst (λ (T : Signature). Meets w T s2 F) (some_same is) (record { values = ν; rest = split.rest; keeps = rest_keeps; enters = enters }), (omega arith, omega arith));
    at_return = λ e. absurd (no_name _ (codes "G") start.return_new (subst (λ a. X a ≡ Some (codes "G")) e has_g));
  }

  -- ---- the answer

  module _ (t : MachineState) (r : Returned w (imported just_emp) ν s2 t split.rest) where
    parts : Joins t.memory r.leaves.frame split.rest
    parts = last_of t.memory r.leaves.frame r.leaves.heap split.rest (emp_is w (set_word ν Answer t.regs.eax) 0 r.leaves.heap r.leaves.post) r.leaves.parts

    has_others : Includes t.memory others
    has_others = includes_trans (joins_right parts) (joins_left split.inner.1)

    n_there : words_at t.memory (wrap (s.regs.ebp + 4)) 1 ≡ n ∷ []
    n_there = read_words t.memory others (wrap (s.regs.ebp + 4)) (n ∷ []) en.area has_others en.is_frame.4

    whole : (both : Memory) × Joins both r.leaves.frame others × JoinsAll t.memory (both ∷ en.heap ∷ F ∷ [])
    whole = join_parts t.memory r.leaves.frame others (en.heap ∷ F ∷ []) (split.rest, parts, split.inner)

    block : AreWordsAt s.regs.ebp (r.leaves.is_frame.0 ++ (n ∷ en.area)) whole.0
    block =
        let back = r.leaves.is_frame in
        let next : wrap (s.regs.ebp + 4) ≡ wrap (s.regs.ebp + 4 * length back.0) = ap (λ k. wrap (s.regs.ebp + 4 * k)) (sym back.1) in
        append_words s.regs.ebp back.0 (n ∷ en.area) whole.0 r.leaves.frame others start.state.regs.ebp whole.1 back.2
        (subst (λ a. AreWordsAt a (n ∷ en.area) others) next en.is_frame.4)

    at_head : IsAtLoop w (taking (n_is 5)) (name (codes "n") ∷ []) (n_is 5) (record t { eip = 0x40000A }) F
    at_head = record {
      values = ν;
      rest = F;
      keeps = includes_refl F;
      meets = record {
        frame = whole.0;
        heap = en.heap;
        parts = whole.2;
        is_frame = subst (λ a. IsBlock a 2 whole.0) (sym r.ebp) (r.leaves.is_frame.0 ++ (n ∷ en.area), omega (arith, length-append r.leaves.is_frame.0 (n ∷ en.area), r.leaves.is_frame.1, en.area_count), block);
        holds =
            let same : words_at t.memory (wrap (t.regs.ebp + 4)) 1 ≡ n ∷ [] = ap (λ a. words_at t.memory (wrap (a + 4)) 1) r.ebp ∙ n_there in
            subst (λ vs. Holds w (set_words ν (name (codes "n") ∷ []) vs) en.heap (n_is 5)) (sym same) en.pre;
      };
    }

    fine_back : Fine (record t { eip = 0x40000A })
    unfolding spins
    fine_back = record {
      goes_on = inl (goes_inside (spins t), record t { eip = 0x40000A }, goes_step (spins t));
      keeps = includes_trans (joins_right parts) rest_keeps;
      at_function = λ g listed e. absurd (no_function 0x40000A (omega arith) g listed e);
      at_loop = λ l listed e. subst (λ (k : LoopAt). IsAtLoop w k.signature k.locals k.invariant (record t { eip = 0x40000A }) F) (only (loop_of_five 0x40000A (n_is 5)) l listed) at_head;
      at_outside = λ called S named e. absurd (no_name _ called (out.apart 0x40000A (spins t).inside) named);
      at_return = λ e. absurd (not_back 0x40000A (spins t).inside e);
    }

    spin : (k : ℕ) → FineFor p X taking_five ν s F k (record t { eip = 0x40000A })
    spin zero = fine_back
    spin (suc k) = fine_goes p X taking_five ν s F out k (spins t) fine_back (spin k)

    back : (k : ℕ) → FineFor p X taking_five ν s F k t
    back k = subst (λ e. FineFor p X taking_five ν s F k (record t { eip = e })) (sym r.eip) (spin k)

  turned : (t : MachineState) → Turn w p.code X s.regs.esi s2 t → (k : ℕ) → FineFor p X taking_five ν s F k t
  turned t (Steps new (NotInCode away e)) k = absurd cc
  turned t (Steps new (NoInstruction inside none e)) k = absurd (omega (arith, inside.1))
  turned t (Steps new (Makes inside i size begins e)) k = absurd (omega (arith, inside.1))
  turned t (Answers new some honest ok apart) k = back t (honest (codes "G") (imported just_emp) has_g refl ν split.rest enters) k

  call : (k : ℕ) → FineFor p X taking_five ν s F k s2
  call zero = fine2
  call (suc k) = (fine2, λ t turn. turned t turn k)

  runs : (k : ℕ) → FineFor p X taking_five ν s F k s0
  runs k =
      fine_then p X taking_five ν s F out k goes0 fine0 (λ k1 l1.
      fine_then p X taking_five ν s F out k1 goes1 fine1 (λ k2 l2. call k2))

  runs_from : (k : ℕ) → FineFor p X taking_five ν s F k s
  runs_from k = subst (λ e. FineFor p X taking_five ν s F k (record s { eip = e })) (sym start.eip) (runs k)

calling_sound : IsSound (calling just_emp)
calling_sound = record {
  fine = λ X out f ν s F exported start states run.
      let same : taking_five ≡ f = only taking_five f start.listed in
      fine_run (calling just_emp) X f ν s F s
      (subst (λ (g : FunctionAt). IsStart (calling just_emp) X g ν s F → (k : ℕ) → FineFor (calling just_emp) X g ν s F k s) same
      (λ (at : IsStart (calling just_emp) X taking_five ν s F). runs_from X out ν s F at) start)
      states run;
}

-- ---- answers

abbrev w0 : World
w0 = world_of (calling just_emp) just_g

-- an answer that goes on with what was there is honest
stays : IsHonest w0 just_g at_call (back_with at_call.memory)
stays called S named e ν F enters =
    let is : Some (imported just_emp) ≡ Some S = subst (λ x. signature_of w0 x ≡ Some S) (sym (g_called _ called refl named)) e in
    let same = some_same is in
    subst (λ (T : Signature). Returned w0 T ν at_call (back_with at_call.memory) F) same
    (returned (subst (λ (T : Signature). Enters w0 T ν at_call F) (sym same) enters))
  where
    returned : Enters w0 (imported just_emp) ν at_call F → Returned w0 (imported just_emp) ν at_call (back_with at_call.memory) F
    returned en = record {
      eip = refl;
      ebp = refl;
      ebx = refl;
      esp = refl;
      edi = refl;
      leaves = record {
        frame = en.frame;
        heap = en.heap;
        parts = en.parts;
        is_frame = (en.back ∷ en.area, omega (arith, en.area_count), en.is_frame);
        post = en.pre;
      };
    }

call_bytes : List ℕ
call_bytes = 0xBE ∷ 0x0A ∷ 0 ∷ 0x40 ∷ 0 ∷ 0xE9 ∷ 0xF6 ∷ 0xFF ∷ 0x0F ∷ 0 ∷ jump_to_itself

pub calling_example : CallingExample
unfolding call_bytes
calling_example =
    let start = starts call_bytes [] (loop_of_five 0x40000A (n_is 5) ∷ []) just_emp (omega arith) [] tt (omega arith) in
    let words = start.state.regs in (
      calling_sound,
      is_outside call_bytes [] (loop_of_five 0x40000A (n_is 5) ∷ []) just_emp (omega arith),
      Answers (λ e. omega arith) refl stays
          (record { regs = record { eax = words.eax; ecx = words.ecx; edx = words.edx; ebx = words.ebx; esp = words.esp; ebp = words.ebp; esi = omega arith; edi = words.edi }; eip = omega arith; memory = start.state.memory })
          start.apart,
    )

-- g enters with the first word of the frame as its own, beside the argument
g_enters : Enters w0 (imported just_emp) blank at_call (bytes_at 0x80000004 (5 ∷ 0 ∷ 0 ∷ 0 ∷ []))
g_enters =
    let argument : Memory = bytes_at 0x80000004 (5 ∷ 0 ∷ 0 ∷ 0 ∷ []) in
    let back : Memory = bytes_at 0x80000000 zero_word in
    record {
      frame = back;
      heap = empty;
      parts = (argument, joins_rows 0x80000000 zero_word (5 ∷ 0 ∷ 0 ∷ 0 ∷ []) 0x80000004 (omega arith), (argument, joins_comm (to_empty argument), (empty, to_empty argument, refl)));
      back = 0;
      area = [];
      args_count = refl;
      area_count = refl;
      is_frame = (back, empty, to_empty back, row_cell 0x80000000 0 0 0 0 zero_bytes (omega arith), refl);
      pre = (0, (empty, empty, to_empty empty, refl, refl));
    }

five_is_six : ◌≡◌ {A = Option ℕ} (Some 6) (Some 5) → ⊥
five_is_six e = let is : ◌≡◌ {A = ℕ} 6 5 = some_same e in omega (arith, is)

pub dishonest_example : DishonestExample
dishonest_example (Steps new (NotInCode away e)) = cc
dishonest_example (Steps new (NoInstruction inside none e)) = cc
dishonest_example (Steps new (Makes inside i size begins e)) = omega (arith, inside.1)
dishonest_example (Answers new some honest ok apart) =
    let r = honest (codes "G") (imported just_emp) refl refl blank (bytes_at 0x80000004 (5 ∷ 0 ∷ 0 ∷ 0 ∷ [])) g_enters in
    let q = r.leaves.parts.2 in
    let kept = (joins_right r.leaves.parts.1).at 0x80000004 5 ((joins_right q.1).at 0x80000004 5 ((joins_left q.2.1).at 0x80000004 5 refl)) in
    five_is_six kept

pub unmet_call_example : UnmetCallExample
unmet_call_example fine = never_met (world_of (calling never) just_g) at_call empty (fine.at_outside (codes "G") (imported never) refl refl).0

leaves : Goes tail_calling.code (five_state []) (record (five_state []) { eip = 0x500000 })
leaves = record {
  place = 0x400000;
  instruction = Jmp 0xFFFFB;
  size = 5;
  at = refl;
  inside = (omega arith, omega arith);
  begins = record { front = row (Jmp 0xFFFFB); rest = []; split = refl; instruction = record { allowed = omega arith; bytes_are = refl }; size_is = refl };
  gives = refl;
}

pub tail_call_example : TailCallExample
tail_call_example sound =
    let bytes : List ℕ = 0xE9 ∷ 0xFB ∷ 0xFF ∷ 0x0F ∷ 0 ∷ [] in
    let there : MachineState = record (five_state []) { eip = 0x500000 } in
    let run : IsRun (world_of tail_calling just_g) tail_calling.code just_g 0x1000 (five_state []) (there ∷ []) = (Steps (λ e. omega arith) (goes_step leaves), tt) in
    let start = starts bytes [] [] just_emp (omega arith) [] tt (omega arith) in
    let fine = sound.fine just_g (is_outside bytes [] [] just_emp (omega arith)) taking_five blank (five_state []) empty refl start (there ∷ []) run 1 there (omega arith) in
    let inside = (fine.at_outside (codes "G") (imported just_emp) refl refl).1 in
    omega (arith, inside.0)
