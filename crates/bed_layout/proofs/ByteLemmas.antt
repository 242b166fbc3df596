-- Blocks laid out in code are run by the machine: each turn of the blocks is an instruction there, and the states between are fine.
use Rattle.std.proofs.Common.{◌≡◌, ◌≢◌, ℕ, zero, ◌+◌, ◌-◌, ◌<◌, Bool, true, false, if◌then◌else◌, Option, Some, None, Ok, List, [], ◌∷◌, ◌++◌, length, slice_get, Contains, inl, inr, ◌⊎◌, refl, sym, ◌∙◌, ap, ap₂, subst, arith, append_assoc, length-append}
use Rattle.std.proofs.lemmas.List.{append-nil}
use Rattle.std.proofs.lemmas.List.Elements.{Contains-append_right}
use Rattle.bed_lang.specs.Numbers.{wrap}
use Rattle.bed_lang.specs.declared.module.Signature.{Signature}
use Rattle.bed_lang.specs.declared.module.Rel.{Rel}
use Rattle.bed_lang.specs.Values.{Values}
use Rattle.bed_machine.specs.Memory.{Memory}
use Rattle.bed_machine.specs.MachineCode.{IsInCode}
use Rattle.bed_machine.specs.Instructions.{row, IsAllowed}
use Rattle.bed_machine.specs.Machine.{MachineState, IsState, register, effect as machine_effect}
use Rattle.bed_machine.specs.declared.registers.Reg.{Reg}
use Rattle.bed_machine.specs.declared.registers.Reg.TheVariants.{Ecx, Edx, Esi}
use Rattle.bed_machine.specs.declared.instructions.Ins.{Ins}
use Rattle.bed_machine.specs.declared.instructions.Ins.TheVariants.{Cmp, Jmp, Jcc, JmpReg}
use Rattle.bed_machine.specs.declared.machine.Flags.{Flags}
use Rattle.bed_machine.proofs.StepLaws.{Goes, goes_inside, goes_step, step_state}
use Rattle.bed_machine.proofs.WordLaws.{wrap_lt}
use Rattle.bed_sat.specs.Parts.{Includes}
use Rattle.bed_sat.specs.Assertions.{World}
use Rattle.bed_sat.specs.Frames.{Meets, IsAtLoop, signature_of}
use Rattle.bed_sat.specs.Runs.{Outside}
use Rattle.bed_sat.specs.Sound.{Linked, FunctionAt, LoopAt, world_of, IsOutsideOf, IsStart, IsFine}
use Rattle.bed_sat.proofs.PartLaws.{includes_trans}
use Rattle.bed_il.specs.declared.blocks.Inst.{Inst}
use Rattle.bed_il.specs.declared.blocks.Jump.{Jump}
use Rattle.bed_il.specs.declared.blocks.Jump.TheVariants.{Goto, Fall, Test, Register}
use Rattle.bed_il.specs.declared.blocks.Block.{Block}
use Rattle.bed_il.specs.BlockMachine.{BlockState, Move, Within, Returns, Calls, il_move, effect, in_blocks, in_block, to_next, follows, compares, at_label, block_at, back_label}
use Rattle.bed_il.specs.Bytes.{ins_of, insts_bytes, jump_bytes, block_bytes, otherwise, distance}
use Rattle.bed_laws.specs.Activations.{FunctionSite, Activation}
use Rattle.bed_laws.specs.Keeps.{LoopHead}
use Rattle.bed_laws.proofs.StraightLaws.{after_inst, effect_place, get_middle, get_end}
use Rattle.bed_sat.proofs.LaidLaws.{HasAt, has_front, has_back, begins_at, positive, in_code_at}
use Rattle.bed_sat.proofs.RunLaws.{FineFor, fine_then}
use Rattle.bed_layout.proofs.InstructionLemmas.{Untouched, state_of, word_ins, word_row, IsSmall, word_allowed, one_step, known, test_second}
use Rattle.bed_layout.proofs.HeadLemmas.{head_state}
use Rattle.bed_layout.proofs.PlaceLemmas.{IsBusy}
use Rattle.bed_layout.proofs.MoveLemmas.{within_same, register_within, jump_returns, jump_calls, inst_returns, inst_calls, inst_within}
use Rattle.bed_layout.proofs.WholeLemmas.{Entered, Now, Onward}

module _ (p : Linked) (X : Outside) (out : IsOutsideOf p X) (f : FunctionAt) (ν0 : Values) (s0 : MachineState) (F0 : Memory) (start : IsStart p X f ν0 s0 F0)
    (Fun : Type 0) (site : Fun → FunctionSite) (places : Fun → ℕ → ℕ) (blocks : Fun → List Block) (heads : Fun → List LoopHead) (entry : Fun → ℕ) where
  abbrev w : World
  w = world_of p X

  abbrev sig : Fun → Signature
  sig g = (site g).signature

  -- the bytes of a block's first instructions
  abbrev front_bytes : Fun → List Inst → List ℕ
  front_bytes g is = insts_bytes w.labels (places g) is

  -- the address behind a block's first instructions, and that of its jump
  abbrev pub address : Fun → ℕ → List Inst → ℕ
  address g l done = places g l + length (insts_bytes w.labels (places g) done)

  abbrev pub has_block : Fun → ℕ → Block → Type 0
  has_block g l b = block_at (blocks g) l ≡ Some b

  -- what the layout gives
  pub record Layout : Type 0 where
    pub at_block : (g : Fun) (l : ℕ) (b : Block) → has_block g l b → HasAt p.code (places g l) (block_bytes w.labels (places g) b (places g l))
    pub small : (g : Fun) (l : ℕ) (b : Block) → has_block g l b → (i : Inst) → Contains b.insts i → IsSmall w.labels (places g) i
    -- the code ends at or below 2^32, and below it where it goes on
    pub small_place : (g : Fun) (l : ℕ) (b : Block) → has_block g l b → places g l < 4294967296
    pub small_next : (g : Fun) (l : ℕ) (b : Block) (done : List Inst) (i : Inst) (is : List Inst) → has_block g l b → b.insts ≡ done ++ (i ∷ is)
        → address g l done + length (row (ins_of w.labels (places g) i)) < 4294967296
    -- each label named has a block
    pub on_goto : (g : Fun) (l : ℕ) (b : Block) (k : ℕ) → has_block g l b → b.jump ≡ Goto k → (c : Block) × has_block g k c
    pub on_fall : (g : Fun) (l : ℕ) (b : Block) (k : ℕ) → has_block g l b → b.jump ≡ Fall k → (c : Block) × has_block g k c
    pub on_true : (g : Fun) (l : ℕ) (b : Block) (r : Rel) (y n : ℕ) → has_block g l b → b.jump ≡ Test r y n → (c : Block) × has_block g y c
    pub on_false : (g : Fun) (l : ℕ) (b : Block) (r : Rel) (y n : ℕ) → has_block g l b → b.jump ≡ Test r y n → (c : Block) × has_block g n c
    pub on_back : (g : Fun) (l : ℕ) (b : Block) (k : ℕ) → has_block g l b → back_label b.insts ≡ Some k → (c : Block) × has_block g k c
    -- a fall and a test go on at the block right after
    pub after_fall : (g : Fun) (l : ℕ) (b : Block) (k : ℕ) → has_block g l b → b.jump ≡ Fall k → places g k ≡ address g l b.insts
    pub after_test : (g : Fun) (l : ℕ) (b : Block) (r : Rel) (y n : ℕ) → has_block g l b → b.jump ≡ Test r y n → places g y ≡ address g l b.insts + 8
    pub rank : Fun → ℕ → ℕ
    pub nearer : (g : Fun) (l : ℕ) (b : Block) (k : ℕ) → has_block g l b → b.jump ≡ Fall k → rank g k < rank g l
    -- the functions and loops of the program
    pub fun_of : (h : FunctionAt) → Contains p.functions h → (g : Fun) × (places g (entry g) ≡ h.address) × (sig g ≡ h.signature)
    pub named : (h : FunctionAt) → Contains p.functions h → signature_of w h.signature.name.bytes ≡ Some h.signature
    pub at_entry : (g : Fun) → (c : Block) × has_block g (entry g) c
    pub never_again : (g : Fun) (s t : BlockState) → il_move w.labels (places g) (blocks g) s ≡ Within t → t.label ≡ entry g → t.next ≡ 0 → ⊥
    pub never_back : (g : Fun) (s : BlockState) (label : ℕ) → il_move w.labels (places g) (blocks g) s ≡ Calls (Some label) → label ≡ entry g → ⊥
    -- return labels, first instructions and loop heads are in the code
    pub back_in : (g : Fun) (l : ℕ) (b : Block) (k : ℕ) → has_block g l b → back_label b.insts ≡ Some k → IsInCode p.code (places g k)
    pub fun_in : (h : FunctionAt) → Contains p.functions h → IsInCode p.code h.address
    pub loop_in : (l : LoopAt) → Contains p.loops l → IsInCode p.code l.address
    -- a first instruction of a function or of a loop's head has an address of its own
    pub entry_only : (g : Fun) (l : ℕ) (b : Block) (done is : List Inst) → has_block g l b → b.insts ≡ done ++ is → IsBusy is b.jump
        → (h : FunctionAt) → Contains p.functions h → address g l done ≡ h.address → (sig g ≡ h.signature) × (l ≡ entry g) × (length done ≡ 0)
    pub head_only : (g : Fun) (l : ℕ) (b : Block) (done is : List Inst) → has_block g l b → b.insts ≡ done ++ is → IsBusy is b.jump
        → (x : LoopAt) → Contains p.loops x → address g l done ≡ x.address
        → (y : LoopHead) × Contains (heads g) y × (l ≡ y.label) × (length done ≡ 0) × (sig g ≡ x.signature) × ((site g).site.locals ≡ x.locals) × (y.invariant ≡ x.invariant)
    -- and the second instruction of a test is none
    pub test_only : (g : Fun) (l : ℕ) (b : Block) (r : Rel) (y n : ℕ) → has_block g l b → b.jump ≡ Test r y n
        → ((h : FunctionAt) → Contains p.functions h → address g l b.insts + 2 ≢ h.address) × ((x : LoopAt) → Contains p.loops x → address g l b.insts + 2 ≢ x.address)

  abbrev pub u : Untouched
  u = record { ebx = s0.regs.ebx; esp = s0.regs.esp; edi = s0.regs.edi }

  abbrev pub For : ℕ → MachineState → Type 0
  For n q = FineFor p X f ν0 s0 F0 n q

  -- the machine is at the first byte of what the blocks are about to do
  pub record Shows (g : Fun) (s : BlockState) (q : MachineState) : Type 0 where
    pub flags : Flags
    pub block : Block
    pub found : has_block g s.label block
    pub done : List Inst
    pub rest : List Inst
    pub split : block.insts ≡ done ++ rest
    pub next : s.next ≡ length done
    pub is : q ≡ state_of s u (address g s.label done) flags
    pub state : IsState q

  -- the machine has the registers and memory of the blocks, and is at an address
  pub record Jumped (s : BlockState) (a : ℕ) (q : MachineState) : Type 0 where
    pub flags : Flags
    pub is : q ≡ state_of s u a flags
    pub state : IsState q

  abbrev pub HereEntered : Signature → BlockState → Type 0
  HereEntered S s = Entered w Fun site places blocks heads entry MachineState For Shows Jumped F0 S s

  abbrev pub HereOnward : Fun → BlockState → MachineState → (MachineState → Type 0) → Type 0
  HereOnward g s q Then = Onward w Fun site places blocks heads entry MachineState For Shows Jumped F0 g s q Then

  abbrev NowIn : Fun → Activation → BlockState → Type 0
  NowIn g a s = Now w Fun site places blocks heads entry g a s

  module _ (L : Layout) where
    bytes_append : (g : Fun) (is js : List Inst) → front_bytes g (is ++ js) ≡ front_bytes g is ++ front_bytes g js
    bytes_append g [] js = refl
    bytes_append g (i ∷ is) js = ap (λ l. row (ins_of w.labels (places g) i) ++ l) (bytes_append g is js) ∙ sym (append_assoc (row (ins_of w.labels (places g) i)) (front_bytes g is) (front_bytes g js))

    -- the code has the rest of a block at its place
    has_rest : (g : Fun) (l : ℕ) (b : Block) (done is : List Inst) → has_block g l b → b.insts ≡ done ++ is
        → HasAt p.code (address g l done) (front_bytes g is ++ jump_bytes (places g) b.jump (address g l b.insts))
    has_rest g l b done is found split =
        let front : List ℕ = front_bytes g done in
        let j : List ℕ = jump_bytes (places g) b.jump (address g l b.insts) in
        let same : front_bytes g b.insts ++ j ≡ front ++ (front_bytes g is ++ j) =
        ap (λ l. l ++ j) (ap (front_bytes g) split ∙ bytes_append g done is) ∙ append_assoc front (front_bytes g is) j in
        has_back front (front_bytes g is ++ j) (subst (HasAt p.code (places g l)) same (L.at_block g l b found))

    -- one instruction of the machine
    goes_at : (x : ℕ) (i : Ins) (bytes : List ℕ) (s : BlockState) (fl : Flags) (t : MachineState) → IsAllowed i → HasAt p.code x (row i ++ bytes) → machine_effect i (wrap (x + length (row i))) (state_of s u x fl) ≡ Ok t → Goes p.code (state_of s u x fl) t
    goes_at x i bytes s fl t ok has e = record {
      place = x;
      instruction = i;
      size = length (row i);
      at = refl;
      inside = in_code_at (row i) (has_front (row i) bytes has) (positive i);
      begins = begins_at i ok (has_front (row i) bytes has);
      gives = e;
    }

    some_none : {A : Type 0} {x : A} → ◌≡◌ {A = Option A} (Some x) None → ⊥
    some_none z = cc

    not_outside : {q t : MachineState} → Goes p.code q t → (name : List ℕ) → X q.eip ≡ Some name → ⊥
    not_outside {q = q} g name e = some_none (sym e ∙ out.apart q.eip (goes_inside g))

    not_back : {q t : MachineState} → Goes p.code q t → q.eip ≡ s0.regs.esi → ⊥
    not_back g e = start.return_out (subst (IsInCode p.code) e (goes_inside g))

    -- a state at a busy place is fine
    fine_busy : (g : Fun) (s : BlockState) (b : Block) (done is : List Inst) (fl : Flags) (t : MachineState) → has_block g s.label b → b.insts ≡ done ++ is → s.next ≡ length done → IsBusy is b.jump
        → Goes p.code (state_of s u (address g s.label done) fl) t
        → (a : Activation) → NowIn g a s → Includes a.rest F0 → (s.label ≡ entry g → s.next ≡ 0 → HereEntered (sig g) s)
        → IsFine p X f ν0 s0 F0 (state_of s u (address g s.label done) fl)
    fine_busy g s b done is fl t found split next busy goes a now keeps first =
        let x : ℕ = address g s.label done in
        record {
          goes_on = inl (goes_inside goes, t, goes_step goes);
          keeps = includes_trans now.rest keeps;
          at_function = λ h is_in at.
              let o = L.entry_only g s.label b done is found split busy h is_in at in
              let en = first o.1 (next ∙ o.2) in
              subst (λ S. Meets w S (state_of s u x fl) F0) o.0 (record { values = en.values; rest = en.rest; keeps = en.keeps; enters = en.enters });
          at_loop = λ l is_in at.
              let o = L.head_only g s.label b done is found split busy l is_in at in
              let here = head_state w u (site g) a o.0.invariant s x fl F0 keeps (now.head o.0 o.1 o.2 (next ∙ o.3)) in
              subst (λ I. IsAtLoop w l.signature l.locals I (state_of s u x fl) F0) o.6
              (subst (λ ls. IsAtLoop w l.signature ls o.0.invariant (state_of s u x fl) F0) o.5
              (subst (λ S. IsAtLoop w S (site g).site.locals o.0.invariant (state_of s u x fl) F0) o.4 here));
          at_outside = λ name S is_some named. absurd (not_outside goes name is_some);
          at_return = λ at. absurd (not_back goes at);
        }

    -- and in the middle of a test
    fine_middle : (g : Fun) (s : BlockState) (b : Block) (r : Rel) (y n : ℕ) (fl : Flags) (t : MachineState) → has_block g s.label b → b.jump ≡ Test r y n
        → Goes p.code (state_of s u (address g s.label b.insts + 2) fl) t → Includes s.memory F0
        → IsFine p X f ν0 s0 F0 (state_of s u (address g s.label b.insts + 2) fl)
    fine_middle g s b r y n fl t found jump goes keeps =
        let o = L.test_only g s.label b r y n found jump in
        record {
          goes_on = inl (goes_inside goes, t, goes_step goes);
          keeps = keeps;
          at_function = λ h is_in at. absurd (o.0 h is_in at);
          at_loop = λ l is_in at. absurd (o.1 l is_in at);
          at_outside = λ name S is_some named. absurd (not_outside goes name is_some);
          at_return = λ at. absurd (not_back goes at);
        }

    rest_is : (g : Fun) (i : Inst) (is : List Inst) (j : List ℕ) → front_bytes g (i ∷ is) ++ j ≡ row (word_ins w.labels (places g) i) ++ (front_bytes g is ++ j)
    rest_is g i is j = append_assoc (row (ins_of w.labels (places g) i)) (front_bytes g is) j ∙ ap (λ l. l ++ (front_bytes g is ++ j)) (word_row w.labels (places g) i)

    next_place : (g : Fun) (l l2 : ℕ) (done : List Inst) (i : Inst) (x : ℕ) → x ≡ address g l done → l ≡ l2 → x + length (row (ins_of w.labels (places g) i)) < 4294967296
        → wrap (x + length (row (word_ins w.labels (places g) i))) ≡ address g l2 (done ++ (i ∷ []))
    next_place g l l2 done i x at same lt =
        let k : ℕ = length (row (ins_of w.labels (places g) i)) in
        let size : length (row (word_ins w.labels (places g) i)) ≡ k = ap length (sym (word_row w.labels (places g) i)) in
        let long : length (front_bytes g (done ++ (i ∷ []))) ≡ length (front_bytes g done) + k =
        ap length (bytes_append g done (i ∷ [])) ∙ length-append (front_bytes g done) _ ∙ ap (λ l. length (front_bytes g done) + length l) (append-nil (row (ins_of w.labels (places g) i))) in
        let q : places g l ≡ places g l2 = ap (places g) same in
        omega (arith, at, long, q, lt, size)

    -- an instruction of a block
    inst_onward : (g : Fun) (s v : BlockState) (b : Block) (done : List Inst) (i : Inst) (is : List Inst) (fl : Flags) → has_block g s.label b → b.insts ≡ done ++ (i ∷ is) → s.next ≡ length done
        → IsState (state_of s u (address g s.label done) fl) → effect w.labels (places g) i s ≡ Ok v
        → HereOnward g s (state_of s u (address g s.label done) fl) (Shows g (after_inst v))
    inst_onward g s v b done i is fl found split next state eff n a now keeps first go =
        let x : ℕ = address g s.label done in
        let ins : Ins = word_ins w.labels (places g) i in
        let x2 : ℕ = wrap (x + length (row ins)) in
        let has = subst (HasAt p.code x) (rest_is g i is _) (has_rest g s.label b done (i ∷ is) found split) in
        let step = one_step w.labels (places g) u i s v x x2 fl state.regs.ebp eff in
        let small : IsSmall w.labels (places g) i = L.small g s.label b found i (subst (λ l. Contains l i) (sym split) (Contains-append_right done (i ∷ is) i (zero, omega arith, refl))) in
        let goes = goes_at x ins _ s fl (state_of v u x2 step.0) (word_allowed w.labels (places g) i small) has step.1 in
        let kept = effect_place w (places g) i s v eff in
        let place : x2 ≡ address g v.label (done ++ (i ∷ [])) = next_place g s.label v.label done i x refl (sym kept.0) (L.small_next g s.label b done i is found split) in
        fine_then p X f ν0 s0 F0 out n goes (fine_busy g s b done (i ∷ is) fl _ found split next tt goes a now keeps first)
        (λ m lt. go m lt (state_of v u x2 step.0) (record {
          flags = step.0;
          block = b;
          found = ap (block_at (blocks g)) kept.0 ∙ found;
          done = done ++ (i ∷ []);
          rest = is;
          split = split ∙ sym (append_assoc done (i ∷ []) is);
          next = omega (arith, kept.1, next, length-append done (i ∷ []));
          is = ap (λ y. state_of v u y step.0) place;
          state = step_state p.code _ _ state (goes_step goes);
        }))

    -- what a turn is
    abbrev turn_of : Fun → List Inst → Block → BlockState → Move
    turn_of g [] b s = follows b.jump b.insts s
    turn_of g (i ∷ is) b s = to_next (effect w.labels (places g) i s)

    turn_is : (g : Fun) (s : BlockState) (b : Block) (done is : List Inst) → has_block g s.label b → b.insts ≡ done ++ is → s.next ≡ length done → il_move w.labels (places g) (blocks g) s ≡ turn_of g is b s
    turn_is g s b done [] found split next =
        let end : slice_get b.insts s.next ≡ None = ap₂ slice_get (split ∙ append-nil done) next ∙ get_end done in
        ap (λ o. in_blocks w.labels (places g) o s) found ∙ ap (λ o. in_block w.labels (places g) o b s) end
    turn_is g s b done (i ∷ is) found split next =
        let here : slice_get b.insts s.next ≡ Some i = ap₂ slice_get split next ∙ get_middle done i is in
        ap (λ o. in_blocks w.labels (places g) o s) found ∙ ap (λ o. in_block w.labels (places g) o b s) here

    -- the address of a block's jump
    abbrev pub end_place : Fun → ℕ → Block → ℕ
    end_place g l b = address g l b.insts

    has_jump : (g : Fun) (l : ℕ) (b : Block) → has_block g l b → HasAt p.code (end_place g l b) (jump_bytes (places g) b.jump (end_place g l b))
    has_jump g l b found = has_rest g l b b.insts [] found (sym (append-nil b.insts))

    -- the state at a block's first byte
    pub shows_start : (g : Fun) (l : ℕ) (c : Block) (s : BlockState) (x : ℕ) (fl : Flags) → has_block g l c → x ≡ places g l → IsState (state_of s u x fl) → Shows g (at_label l s) (state_of s u x fl)
    shows_start g l c s x fl found at state = record {
      flags = fl;
      block = c;
      found = found;
      done = [];
      rest = c.insts;
      split = refl;
      next = refl;
      is = let e : x ≡ places g l + 0 = omega arith in ap (λ y. state_of s u y fl) e;
      state = state;
    }

    back_to : (next k : ℕ) → next < 4294967296 → k < 4294967296 → wrap (next + wrap (k + (4294967296 - next))) ≡ k
    back_to next k lt lt2 = omega arith

    -- a jump to a label
    goto_onward : (g : Fun) (s : BlockState) (b : Block) (k : ℕ) (fl : Flags) → has_block g s.label b → b.jump ≡ Goto k → s.next ≡ length b.insts → IsState (state_of s u (end_place g s.label b) fl)
        → HereOnward g s (state_of s u (end_place g s.label b) fl) (Shows g (at_label k s))
    goto_onward g s b k fl found jump next state n a now keeps first go =
        let x : ℕ = end_place g s.label b in
        let nx : ℕ = wrap (x + 5) in
        let rel : ℕ = distance (places g) (x + 5) k in
        let has : HasAt p.code x (row (Jmp rel) ++ []) = subst (λ j. HasAt p.code x (jump_bytes (places g) j x)) jump (has_jump g s.label b found) in
        let target = L.on_goto g s.label b k found jump in
        let back : wrap (nx + rel) ≡ places g k = back_to nx (places g k) (wrap_lt (x + 5)) (L.small_place g k target.0 target.1) in
        let goes = goes_at x (Jmp rel) [] s fl (state_of s u (wrap (nx + rel)) fl) (wrap_lt _) has refl in
        let busy : IsBusy [] b.jump = subst (λ j. IsBusy [] j) (sym jump) tt in
        fine_then p X f ν0 s0 F0 out n goes (fine_busy g s b b.insts [] fl _ found (sym (append-nil b.insts)) next busy goes a now keeps first)
        (λ m lt. go m lt _ (shows_start g k target.0 s _ fl target.1 back (step_state p.code _ _ state (goes_step goes))))

    arrives : (t : Bool) (g : Fun) (y no_label : ℕ) → ((c : Block) × has_block g y c) → ((c : Block) × has_block g no_label c) → (s : BlockState) (x1 x2 : ℕ) (kn : Flags) → x1 ≡ places g y → x2 ≡ places g no_label
        → IsState (state_of s u (if t then x1 else x2) kn) → Shows g (at_label (if t then y else no_label) s) (state_of s u (if t then x1 else x2) kn)
    arrives true g y no_label oy on s x1 x2 kn e1 e2 st = shows_start g y oy.0 s x1 kn oy.1 e1 st
    arrives false g y no_label oy on s x1 x2 kn e1 e2 st = shows_start g no_label on.0 s x2 kn on.1 e2 st

    -- a test: the state between its two instructions is fine too
    test_onward : (g : Fun) (s : BlockState) (b : Block) (r : Rel) (y no_label : ℕ) (fl : Flags) → has_block g s.label b → b.jump ≡ Test r y no_label → s.next ≡ length b.insts → IsState (state_of s u (end_place g s.label b) fl)
        → HereOnward g s (state_of s u (end_place g s.label b) fl) (Shows g (at_label (if compares r s.first s.second then y else no_label) s))
    test_onward g s b r y no_label fl found jump next state n a now keeps first go =
        let x : ℕ = end_place g s.label b in
        let kn : Flags = known s in
        let rel : ℕ = distance (places g) (x + 8) no_label in
        let has : HasAt p.code x (row (Cmp Ecx Edx) ++ (row (Jcc (otherwise r) rel) ++ [])) = subst (λ j. HasAt p.code x (jump_bytes (places g) j x)) jump (has_jump g s.label b found) in
        let on_y = L.on_true g s.label b r y no_label found jump in
        let on_n = L.on_false g s.label b r y no_label found jump in
        let after : places g y ≡ x + 8 = L.after_test g s.label b r y no_label found jump in
        let lt8 : x + 8 < 4294967296 = (let small = L.small_place g y on_y.0 on_y.1 in omega (arith, after)) in
        let goes1 : Goes p.code (state_of s u x fl) (state_of s u (x + 2) kn) = (let z : wrap (x + 2) ≡ x + 2 = omega arith in goes_at x (Cmp Ecx Edx) (row (Jcc (otherwise r) rel) ++ []) s fl (state_of s u (x + 2) kn) tt has (ap (λ b. Ok (state_of s u b kn)) z)) in
        let to : ℕ = if compares r s.first s.second then wrap (x + 2 + 6) else wrap (wrap (x + 2 + 6) + rel) in
        let goes2 : Goes p.code (state_of s u (x + 2) kn) (state_of s u to kn) = goes_at (x + 2) (Jcc (otherwise r) rel) [] s kn (state_of s u to kn) (wrap_lt _) (has_back (row (Cmp Ecx Edx)) (row (Jcc (otherwise r) rel) ++ []) has) (test_second u r s (x + 2) (wrap (x + 2 + 6)) rel) in
        let state2 = step_state p.code _ _ state (goes_step goes1) in
        let state3 : IsState (state_of s u to kn) = step_state p.code _ _ state2 (goes_step goes2) in
        let busy : IsBusy [] b.jump = subst (λ j. IsBusy [] j) (sym jump) tt in
        let at_yes : wrap (x + 2 + 6) ≡ places g y = omega arith in
        let at_no : wrap (wrap (x + 2 + 6) + rel) ≡ places g no_label = (let z : wrap (x + 2 + 6) ≡ wrap (x + 8) = omega arith in ap (λ a. wrap (a + rel)) z ∙ back_to (wrap (x + 8)) (places g no_label) (wrap_lt (x + 8)) (L.small_place g no_label on_n.0 on_n.1)) in
        fine_then p X f ν0 s0 F0 out n goes1 (fine_busy g s b b.insts [] fl _ found (sym (append-nil b.insts)) next busy goes1 a now keeps first)
        (λ m lt. fine_then p X f ν0 s0 F0 out m goes2 (fine_middle g s b r y no_label kn _ found jump goes2 (includes_trans now.rest keeps))
        (λ k lt2. go k (omega arith) _ (arrives (compares r s.first s.second) g y no_label on_y on_n s (wrap (x + 2 + 6)) (wrap (wrap (x + 2 + 6) + rel)) kn at_yes at_no state3)))

    -- a turn in the blocks falls, or goes onward
    abbrev pub FallsOrOnward : Fun → BlockState → BlockState → MachineState → Type 0
    FallsOrOnward g s t q = (Shows g t q × (L.rank g t.label < L.rank g s.label)) ⊎ HereOnward g s q (Shows g t)

    jump_within : (g : Fun) (s t : BlockState) (b : Block) (fl : Flags) → has_block g s.label b → s.next ≡ length b.insts → IsState (state_of s u (end_place g s.label b) fl)
        → (j : Jump) → b.jump ≡ j → follows j b.insts s ≡ Within t → FallsOrOnward g s t (state_of s u (end_place g s.label b) fl)
    jump_within g s t b fl found next state (Goto k) jump turn = inr (subst (λ v. HereOnward g s (state_of s u (end_place g s.label b) fl) (Shows g v)) (within_same turn) (goto_onward g s b k fl found jump next state))
    jump_within g s t b fl found next state (Fall k) jump turn =
        let c = L.on_fall g s.label b k found jump in
        inl (subst (λ v. Shows g v (state_of s u (end_place g s.label b) fl) × (L.rank g v.label < L.rank g s.label)) (within_same turn)
        (shows_start g k c.0 s (end_place g s.label b) fl c.1 (sym (L.after_fall g s.label b k found jump)) state, L.nearer g s.label b k found jump))
    jump_within g s t b fl found next state (Test r y n) jump turn = inr (subst (λ v. HereOnward g s (state_of s u (end_place g s.label b) fl) (Shows g v)) (within_same turn) (test_onward g s b r y n fl found jump next state))
    jump_within g s t b fl found next state (Register r) jump turn = absurd (register_within r b.insts s t turn)

    within_at : (g : Fun) (s t : BlockState) (b : Block) (done is : List Inst) (fl : Flags) → has_block g s.label b → b.insts ≡ done ++ is → s.next ≡ length done
        → IsState (state_of s u (address g s.label done) fl) → turn_of g is b s ≡ Within t → FallsOrOnward g s t (state_of s u (address g s.label done) fl)
    within_at g s t b done (i ∷ is) fl found split next state turn =
        let e = inst_within _ t turn in
        inr (subst (λ v. HereOnward g s (state_of s u (address g s.label done) fl) (Shows g v)) (sym e.2) (inst_onward g s e.0 b done i is fl found split next state e.1))
    within_at g s t b done [] fl found split next state turn =
        let same : b.insts ≡ done = split ∙ append-nil done in
        subst (λ d. FallsOrOnward g s t (state_of s u (address g s.label d) fl)) same
        (jump_within g s t b fl found (next ∙ ap length (sym same)) (subst (λ d. IsState (state_of s u (address g s.label d) fl)) (sym same) state) b.jump refl turn)

    pub within : (g : Fun) (s t : BlockState) (q : MachineState) → Shows g s q → il_move w.labels (places g) (blocks g) s ≡ Within t → FallsOrOnward g s t q
    within g s t q sh turn =
        subst (λ r. FallsOrOnward g s t r) (sym sh.is)
        (within_at g s t sh.block sh.done sh.rest sh.flags sh.found sh.split sh.next (subst IsState sh.is sh.state) (sym (turn_is g s sh.block sh.done sh.rest sh.found sh.split sh.next) ∙ turn))

    -- a jump by a register
    leave_at : (g : Fun) (s : BlockState) (b : Block) (fl : Flags) (r : Reg) → has_block g s.label b → s.next ≡ length b.insts → IsState (state_of s u (end_place g s.label b) fl) → b.jump ≡ Register r
        → HereOnward g s (state_of s u (end_place g s.label b) fl) (Jumped s (register (state_of s u (end_place g s.label b) fl).regs r))
    leave_at g s b fl r found next state jump n a now keeps first go =
        let x : ℕ = end_place g s.label b in
        let to : ℕ = register (state_of s u x fl).regs r in
        let has : HasAt p.code x (row (JmpReg r) ++ []) = subst (λ j. HasAt p.code x (jump_bytes (places g) j x)) jump (has_jump g s.label b found) in
        let goes = goes_at x (JmpReg r) [] s fl (state_of s u to fl) tt has refl in
        let busy : IsBusy [] b.jump = subst (λ j. IsBusy [] j) (sym jump) tt in
        fine_then p X f ν0 s0 F0 out n goes (fine_busy g s b b.insts [] fl _ found (sym (append-nil b.insts)) next busy goes a now keeps first)
        (λ m lt. go m lt (state_of s u to fl) (record { flags = fl; is = refl; state = step_state p.code _ _ state (goes_step goes) }))

    -- a state whose block has only its jump left
    shown_end : (g : Fun) (s : BlockState) (q : MachineState) (sh : Shows g s q) → sh.rest ≡ [] → (s.next ≡ length sh.block.insts) × (q ≡ state_of s u (end_place g s.label sh.block) sh.flags)
    shown_end g s q sh none =
        let same : sh.block.insts ≡ sh.done = sh.split ∙ ap (λ l. sh.done ++ l) none ∙ append-nil sh.done in
        (sh.next ∙ ap length (sym same), sh.is ∙ ap (λ d. state_of s u (address g s.label d) sh.flags) (sym same))

    shown_turn : (g : Fun) (s : BlockState) (q : MachineState) (sh : Shows g s q) (m : Move) → il_move w.labels (places g) (blocks g) s ≡ m → turn_of g sh.rest sh.block s ≡ m
    shown_turn g s q sh m e = sym (turn_is g s sh.block sh.done sh.rest sh.found sh.split sh.next) ∙ e

    leave_by : (g : Fun) (s : BlockState) (q : MachineState) (sh : Shows g s q) (r : Reg) → sh.rest ≡ [] → sh.block.jump ≡ Register r
        → HereOnward g s q (Jumped s (register (state_of s u (end_place g s.label sh.block) sh.flags).regs r))
    leave_by g s q sh r none jump =
        let e = shown_end g s q sh none in
        subst (λ z. HereOnward g s z (Jumped s (register (state_of s u (end_place g s.label sh.block) sh.flags).regs r))) (sym e.1)
        (leave_at g s sh.block sh.flags r sh.found e.0 (subst IsState e.1 sh.state) jump)

    returns_at : (g : Fun) (s : BlockState) (b : Block) (is : List Inst) → turn_of g is b s ≡ Returns → (is ≡ []) × (b.jump ≡ Register Esi)
    returns_at g s b [] e = (refl, jump_returns b.jump b.insts s e)
    returns_at g s b (i ∷ is) e = absurd (inst_returns _ e)

    calls_at : (g : Fun) (s : BlockState) (b : Block) (o : Option ℕ) (is : List Inst) → turn_of g is b s ≡ Calls o → (is ≡ []) × (b.jump ≡ Register Edx) × (back_label b.insts ≡ o)
    calls_at g s b o [] e = let c = jump_calls b.jump b.insts s o e in (refl, c.0, c.1)
    calls_at g s b o (i ∷ is) e = absurd (inst_calls _ o e)

    pub returns : (g : Fun) (s : BlockState) (q : MachineState) → Shows g s q → il_move w.labels (places g) (blocks g) s ≡ Returns → HereOnward g s q (Jumped s s.rp)
    returns g s q sh turn =
        let c = returns_at g s sh.block sh.rest (shown_turn g s q sh Returns turn) in
        leave_by g s q sh Esi c.0 c.1

    pub calls : (g : Fun) (s : BlockState) (q : MachineState) → Shows g s q → (o : Option ℕ) → il_move w.labels (places g) (blocks g) s ≡ Calls o → HereOnward g s q (Jumped s s.second)
    calls g s q sh o turn =
        let c = calls_at g s sh.block o sh.rest (shown_turn g s q sh (Calls o) turn) in
        leave_by g s q sh Edx c.0 c.1

    -- the label to which a call comes back
    pub back_of : (g : Fun) (s : BlockState) (label : ℕ) (q : MachineState) (sh : Shows g s q) → il_move w.labels (places g) (blocks g) s ≡ Calls (Some label) → back_label sh.block.insts ≡ Some label
    back_of g s label q sh turn = (calls_at g s sh.block (Some label) sh.rest (shown_turn g s q sh (Calls (Some label)) turn)).2
