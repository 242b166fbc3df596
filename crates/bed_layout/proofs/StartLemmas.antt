-- Every state of every run from a start is fine, where functions keep their specifications and are laid out.
use Rattle.std.proofs.Common.{◌≡◌, ℕ, zero, suc, ◌<◌, Bool, true, false, nat_eq, Option, Some, None, IsSome, Ok, List, [], ◌∷◌, Contains, All, inl, inr, ◌⊎◌, refl, sym, ◌∙◌, ap, subst, arith}
use Rattle.std.proofs.lemmas.Bool.Decides.{nat_tests}
use Rattle.bed_lang.specs.declared.module.Signature.{Signature}
use Rattle.bed_lang.specs.Values.{Values}
use Rattle.bed_machine.specs.Memory.{Memory}
use Rattle.bed_machine.specs.MachineCode.{MachineCode, IsInCode}
use Rattle.bed_machine.specs.Machine.{MachineState, IsState, IsStep, Outside as NotInCode, NoInstruction, Makes}
use Rattle.bed_machine.specs.declared.machine.Flags.{Flags}
use Rattle.bed_sat.specs.Assertions.{World}
use Rattle.bed_sat.specs.Frames.{arguments_at, EntersAt, LeavesAt, Meets, Returned, signature_of}
use Rattle.bed_sat.specs.Runs.{Outside, Turn, Steps, Answers, IsRun}
use Rattle.bed_sat.specs.Sound.{Linked, FunctionAt, codes_of, world_of, IsOutsideOf, IsStart, IsFine}
use Rattle.bed_sat.proofs.PartLaws.{joins_left, joins_right, includes_trans, includes_refl}
use Rattle.bed_il.specs.declared.blocks.Block.{Block}
use Rattle.bed_il.specs.BlockMachine.{BlockState, Calls, il_move, at_label, block_at}
use Rattle.bed_laws.specs.Activations.{FunctionSite}
use Rattle.bed_laws.specs.Keeps.{LoopHead, IsAnswer}
use Rattle.bed_layout.specs.Keeping.{KeepsFunction}
use Rattle.bed_sat.proofs.RunLaws.{fine_run, fine_over}
use Rattle.bed_layout.proofs.InstructionLemmas.{state_of}
use Rattle.bed_layout.proofs.WholeLemmas.{Machine, function_well}
use Rattle.bed_layout.proofs.ByteLemmas.{Layout, u, For, Shows, Jumped, HereEntered, shows_start, within, returns, calls, back_of}

-- a step is made in the code
step_in_code : (c : MachineCode) (s t : MachineState) → IsStep c s (Ok t) → IsInCode c s.eip
step_in_code c s t (NotInCode beyond e) = absurd (cc)
step_in_code c s t (NoInstruction is never e) = is
step_in_code c s t (Makes is i n b e) = is

none_some : {A : Type 0} {x : A} → ◌≡◌ {A = Option A} None (Some x) → ⊥
none_some z = cc

some_same : {A : Type 0} {x y : A} → ◌≡◌ {A = Option A} (Some x) (Some y) → x ≡ y
some_same z = cc

-- the code map's names stand at functions of the code, or outside
code_cases : (X : Outside) (fs : List FunctionAt) (a : ℕ) (name : List ℕ) → codes_of fs X a ≡ Some name
    → ((h : FunctionAt) × Contains fs h × (h.address ≡ a) × (h.signature.name.bytes ≡ name)) ⊎ (X a ≡ Some name)
code_cases X [] a name e = inr e
code_cases X (h ∷ fs) a name e = by_test (nat_eq a h.address) refl (code_cases X fs a name)
  where
    by_test : (t : Bool) → nat_eq a h.address ≡ t → (codes_of fs X a ≡ Some name → ((k : FunctionAt) × Contains fs k × (k.address ≡ a) × (k.signature.name.bytes ≡ name)) ⊎ (X a ≡ Some name))
        → ((k : FunctionAt) × Contains (h ∷ fs) k × (k.address ≡ a) × (k.signature.name.bytes ≡ name)) ⊎ (X a ≡ Some name)
    by_test true t more = inl (h, (zero, omega arith, refl), grind (arith, nat_tests), some_same (sym (rw t refl) ∙ e))
    by_test false t more = elim (more (sym (rw t refl) ∙ e)) [
      | inl r ↦ inl (r.0, (suc r.1.0, omega (arith, r.1.1), r.1.2), r.2, r.3)
      | inr r ↦ inr r
    ]

module _ (p : Linked) (X : Outside) (out : IsOutsideOf p X) (f : FunctionAt) (ν0 : Values) (s0 : MachineState) (F0 : Memory) (start : IsStart p X f ν0 s0 F0)
    (Fun : Type 0) (site : Fun → FunctionSite) (places : Fun → ℕ → ℕ) (blocks : Fun → List Block) (heads : Fun → List LoopHead) (entry : Fun → ℕ) where
  abbrev w : World
  w = world_of p X

  abbrev sig : Fun → Signature
  sig g = (site g).signature

  abbrev ShowsHere : Fun → BlockState → MachineState → Type 0
  ShowsHere g s q = Shows p X out f ν0 s0 F0 start Fun site places blocks heads entry g s q

  abbrev JumpedHere : BlockState → ℕ → MachineState → Type 0
  JumpedHere s a q = Jumped p X out f ν0 s0 F0 start Fun site places blocks heads entry s a q

  abbrev ForHere : ℕ → MachineState → Type 0
  ForHere n q = For p X out f ν0 s0 F0 start Fun site places blocks heads entry n q

  abbrev EnteredHere : Signature → BlockState → Type 0
  EnteredHere S s = HereEntered p X out f ν0 s0 F0 start Fun site places blocks heads entry S s

  module _ (L : Layout p X out f ν0 s0 F0 start Fun site places blocks heads entry) where
    start_of : (g : Fun) (l : ℕ) (c : Block) (s : BlockState) (x : ℕ) (fl : Flags) → block_at (blocks g) l ≡ Some c → x ≡ places g l → IsState (state_of s (u p X out f ν0 s0 F0 start Fun site places blocks heads entry) x fl) → ShowsHere g (at_label l s) (state_of s (u p X out f ν0 s0 F0 start Fun site places blocks heads entry) x fl)
    start_of g l c s x fl found at state = shows_start p X out f ν0 s0 F0 start Fun site places blocks heads entry L g l c s x fl found at state

    back_label_of : (g : Fun) (s : BlockState) (label : ℕ) (q : MachineState) → ShowsHere g s q → il_move w.labels (places g) (blocks g) s ≡ Calls (Some label) → (c : Block) × (block_at (blocks g) label ≡ Some c) × IsInCode p.code (places g label)
    back_label_of g s label q sh turn =
        let back = back_of p X out f ν0 s0 F0 start Fun site places blocks heads entry L g s label q sh turn in
        let c = L.on_back g s.label sh.block label sh.found back in
        (c.0, c.1, L.back_in g s.label sh.block label sh.found back)

    resumes : (g : Fun) (s t : BlockState) (label : ℕ) (r q : MachineState) → ShowsHere g s q → il_move w.labels (places g) (blocks g) s ≡ Calls (Some label) → s.rp ≡ places g label → JumpedHere t s.rp r → ShowsHere g (at_label label t) r
    resumes g s t label r q sh e rp j =
        let c = back_label_of g s label q sh e in
        subst (ShowsHere g (at_label label t)) (sym j.is) (start_of g label c.0 t s.rp j.flags c.1 rp (subst IsState j.is j.state))

    back_small : (g : Fun) (s : BlockState) (label : ℕ) (q : MachineState) → ShowsHere g s q → il_move w.labels (places g) (blocks g) s ≡ Calls (Some label) → places g label < 4294967296
    back_small g s label q sh e = let c = back_label_of g s label q sh e in L.small_place g label c.0 c.1

    -- at an address of the outside, and after its answer
    module _ (S : Signature) (name : List ℕ) (s : BlockState) (a : ℕ) (fl : Flags) (is_out : X a ≡ Some name) (named : signature_of w name ≡ Some S) (esi_in : IsInCode p.code s.rp) (en : EnteredHere S s) where
      abbrev here : MachineState
      here = state_of s (u p X out f ν0 s0 F0 start Fun site places blocks heads entry) a fl

      not_in : IsInCode p.code a → ⊥
      not_in i = none_some (sym (out.apart a i) ∙ is_out)

      is_some : IsSome (X a)
      is_some = subst (λ o. IsSome o) (sym is_out) refl

      out_meets : (n : List ℕ) (T : Signature) → X a ≡ Some n → signature_of w n ≡ Some T → Meets w T here F0 × IsInCode p.code s.rp
      out_meets n T is2 named2 =
          let same_name : name ≡ n = some_same (sym is_out ∙ is2) in
          let same : S ≡ T = some_same (sym (subst (λ z. signature_of w z ≡ Some S) same_name named) ∙ named2) in
          (subst (λ z. Meets w z here F0) same (record { values = en.values; rest = en.rest; keeps = en.keeps; enters = en.enters }), esi_in)

      fine_out : IsFine p X f ν0 s0 F0 here
      fine_out = record {
        goes_on = inr (inl is_some);
        keeps = includes_trans (joins_right en.enters.parts.1) (includes_trans (joins_right en.enters.parts.2.1) (includes_trans (joins_left en.enters.parts.2.2.1) en.keeps));
        at_function = λ h is_in at. absurd (not_in (subst (IsInCode p.code) (sym at) (L.fun_in h is_in)));
        at_loop = λ l is_in at. absurd (not_in (subst (IsInCode p.code) (sym at) (L.loop_in l is_in)));
        at_outside = out_meets;
        at_return = λ at. absurd (none_some (sym (ap X at ∙ start.return_new) ∙ is_out));
      }

      answer : (n : ℕ) → ((m : ℕ) → m < suc n → (t : BlockState) (r : MachineState) → JumpedHere t s.rp r → IsAnswer w S s t → ForHere m r) → (t : MachineState) → Turn w p.code X s0.regs.esi here t → ForHere n t
      answer n go t (Steps new step) = absurd (not_in (step_in_code p.code here t step))
      answer n go t (Answers new some honest ok apart) =
          let r : Returned w S en.values here t en.rest = honest name S is_out named en.values en.rest en.enters in
          let il : BlockState = record { sp = s.sp; rp = t.regs.esi; rv = t.regs.eax; first = t.regs.ecx; second = t.regs.edx; label = 0; next = 0; memory = t.memory } in
          let same : t ≡ state_of il (u p X out f ν0 s0 F0 start Fun site places blocks heads entry) s.rp t.flags = (λ i. record {
            regs = record { eax = t.regs.eax; ecx = t.regs.ecx; edx = t.regs.edx; ebx = r.ebx i; esp = r.esp i; ebp = r.ebp i; esi = t.regs.esi; edi = r.edi i };
            eip = r.eip i;
            flags = t.flags;
            memory = t.memory;
          }) in
          go n (omega arith) il t (record { flags = t.flags; is = same; state = ok }) (record {
            sp = refl;
            answer = ok.regs.eax;
            bytes = ok.memory;
            leaves = λ ν F e. (honest name S is_out named ν F e).leaves;
          })

      out_for : (n : ℕ) → ((m : ℕ) → m < n → (t : BlockState) (r : MachineState) → JumpedHere t s.rp r → IsAnswer w S s t → ForHere m r) → ForHere n here
      out_for zero go = fine_out
      out_for (suc n) go = (fine_out, answer n go)

    target : (a : ℕ) (name : List ℕ) → w.codes a ≡ Some name
        → ((g : Fun) × (signature_of w name ≡ Some (sig g)) × ((s : BlockState) (q : MachineState) → JumpedHere s a q → ShowsHere g (at_label (entry g) s) q))
        ⊎ ((S : Signature) (s : BlockState) (q0 q : MachineState) (g : Fun) (label : ℕ) → signature_of w name ≡ Some S → ShowsHere g s q0 → il_move w.labels (places g) (blocks g) s ≡ Calls (Some label)
        → JumpedHere s a q → s.rp ≡ places g label → EnteredHere S s
        → (n : ℕ) → ((m : ℕ) → m < n → (t : BlockState) (r : MachineState) → JumpedHere t s.rp r → IsAnswer w S s t → ForHere m r) → ForHere n q)
    target a name e = elim (code_cases X p.functions a name e) [
      | inl r ↦ inl (let g = L.fun_of r.0 r.1 in (
        g.0,
        subst (λ T. signature_of w name ≡ Some T) (sym g.2) (subst (λ z. signature_of w z ≡ Some r.0.signature) r.3 (L.named r.0 r.1)),
        λ s q j. let c = L.at_entry g.0 in subst (ShowsHere g.0 (at_label (entry g.0) s)) (sym j.is) (start_of g.0 (entry g.0) c.0 s a j.flags c.1 (sym r.2 ∙ sym g.1) (subst IsState j.is j.state)),
      ))
      | inr is_out ↦ inr (λ S s q0 q g label named sh turn j rp en n go.
          let c = back_label_of g s label q0 sh turn in
          let esi_in : IsInCode p.code s.rp = subst (IsInCode p.code) (sym rp) c.2 in
          subst (ForHere n) (sym j.is) (out_for S name s a j.flags is_out named esi_in en n go))
    ]

    machine : Machine w Fun site places blocks heads entry MachineState ForHere ShowsHere JumpedHere F0
    machine = record {
      rank = L.rank;
      within = within p X out f ν0 s0 F0 start Fun site places blocks heads entry L;
      returns = returns p X out f ν0 s0 F0 start Fun site places blocks heads entry L;
      calls = calls p X out f ν0 s0 F0 start Fun site places blocks heads entry L;
      target = target;
      resumes = resumes;
      back_small = back_small;
      never_again = L.never_again;
      never_back = L.never_back;
    }

    -- a start, as blocks see it
    module _ (g : Fun) (at_g : places g (entry g) ≡ f.address) (sig_g : sig g ≡ f.signature) (keeps : (h : Fun) → KeepsFunction w (site h) (places h) (blocks h) (heads h) (entry h)) where
      abbrev first_state : BlockState
      first_state = record { sp = s0.regs.ebp; rp = s0.regs.esi; rv = s0.regs.eax; first = s0.regs.ecx; second = s0.regs.edx; label = entry g; next = 0; memory = s0.memory }

      start_enters : EntersAt w (sig g) ν0 s0.regs.ebp (arguments_at (sig g) s0.regs.ebp s0.memory) s0.memory F0
      start_enters = subst (λ S. EntersAt w S ν0 s0.regs.ebp (arguments_at S s0.regs.ebp s0.memory) s0.memory F0) (sym sig_g) start.enters

      -- at the return to the starter
      over : (m : ℕ) (t : BlockState) (r : MachineState) → JumpedHere t s0.regs.esi r → IsAnswer w (sig g) first_state t → ForHere m r
      over m t r j ans =
          let l : LeavesAt w (sig g) ν0 s0.regs.ebp (arguments_at (sig g) s0.regs.ebp s0.memory) t.rv t.memory F0 = ans.leaves ν0 F0 start_enters in
          let r2 : MachineState = state_of t (u p X out f ν0 s0 F0 start Fun site places blocks heads entry) s0.regs.esi j.flags in
          let back : Returned w (sig g) ν0 s0 r2 F0 = record { eip = refl; ebp = ans.sp; ebx = refl; esp = refl; edi = refl; leaves = l } in
          fine_over p X f ν0 s0 F0 out m (ap (λ (q : MachineState). q.eip) j.is) (subst (IsFine p X f ν0 s0 F0) (sym j.is) (record {
            goes_on = inr (inr refl);
            keeps = includes_trans (joins_right l.parts.1) (includes_trans (joins_right l.parts.2.1) (joins_left l.parts.2.2.1));
            at_function = λ h is_in at. absurd (start.return_out (subst (IsInCode p.code) (sym at) (L.fun_in h is_in)));
            at_loop = λ h is_in at. absurd (start.return_out (subst (IsInCode p.code) (sym at) (L.loop_in h is_in)));
            at_outside = λ n S is_out named. absurd (none_some (sym start.return_new ∙ is_out));
            at_return = λ at. subst (λ S. Returned w S ν0 s0 r2 F0) sig_g back;
          }))

      start_fine : (n : ℕ) → ForHere n s0
      start_fine n =
          let c = L.at_entry g in
          let at : s0.eip ≡ places g (entry g) = start.eip ∙ sym at_g in
          function_well w Fun site places blocks heads entry MachineState ForHere ShowsHere JumpedHere F0 machine keeps g first_state s0
          (record { label = refl; next = refl; return_address = start.state.regs.esi; bytes = start.state.memory }) (start_of g (entry g) c.0 first_state s0.eip s0.flags c.1 at start.state)
          (record { values = ν0; rest = F0; enters = start_enters; keeps = includes_refl F0 })
          n (λ m lt t r j ans. over m t r j ans)

      -- every state of every run from this start is fine
      pub start_sound : (states : List MachineState) → IsRun w p.code X s0.regs.esi s0 states → All (IsFine p X f ν0 s0 F0) (s0 ∷ states)
      start_sound states run = fine_run p X f ν0 s0 F0 s0 start_fine states run
