-- From what each function's blocks keep to what every run keeps, beside any machine that shows the states of blocks. There is no stack
-- of activations and no bound on depth: what a pending caller needs stands inside of what its callee is given to go on with.
use Rattle.std.proofs.Common.{◌≡◌, ℕ, zero, suc, ◌<◌, ◌≤◌, Option, Some, None, Result, Ok, Err, List, inl, inr, ◌⊎◌, refl, sym, ◌∙◌, ap, subst, arith}
use Rattle.bed_machine.specs.Memory.{Memory}
use Rattle.bed_machine.specs.declared.registers.Reg.{Reg}
use Rattle.bed_machine.specs.declared.registers.Reg.TheVariants.{Eax, Ecx, Edx, Ebx, Esp, Ebp, Esi, Edi}
use Rattle.bed_lang.specs.declared.module.Signature.{Signature}
use Rattle.bed_lang.specs.Values.{Values}
use Rattle.bed_sat.specs.Parts.{Includes}
use Rattle.bed_sat.specs.Assertions.{World}
use Rattle.bed_sat.specs.Frames.{arguments_at, EntersAt, signature_of}
use Rattle.bed_sat.proofs.PartLaws.{includes_trans}
use Rattle.bed_il.specs.declared.blocks.Inst.{Inst}
use Rattle.bed_il.specs.declared.blocks.Jump.{Jump}
use Rattle.bed_il.specs.declared.blocks.Jump.TheVariants.{Goto, Fall, Test, Register}
use Rattle.bed_il.specs.declared.blocks.Block.{Block}
use Rattle.bed_il.specs.BlockMachine.{BlockState, Move, Within, Returns, Calls, Strays, Faults, Missing, il_move, at_label, block_at, to_next, follows, in_block, in_blocks}
use Rattle.bed_laws.specs.Activations.{FunctionSite, Activation}
use Rattle.bed_laws.specs.Keeps.{LoopHead, IsAnswer, IsCall, IsNow, Turns, Safe}
use Rattle.bed_layout.specs.Keeping.{IsEntry, KeepsFunction}

some_same : {A : Type 0} {x y : A} → ◌≡◌ {A = Option A} (Some x) (Some y) → x ≡ y
some_same e = cc

-- a turn misses a block only where none has the label
module _ (functions : List ℕ → ℕ) (places : ℕ → ℕ) where
  to_next_missing : (x : Result BlockState ℕ) → to_next x ≡ Missing → ⊥
  to_next_missing (Ok t) e = cc
  to_next_missing (Err a) e = cc

  register_missing : (r : Reg) (is : List Inst) (s : BlockState) → follows (Register r) is s ≡ Missing → ⊥
  register_missing Eax is s e = cc
  register_missing Ecx is s e = cc
  register_missing Edx is s e = cc
  register_missing Ebx is s e = cc
  register_missing Esp is s e = cc
  register_missing Ebp is s e = cc
  register_missing Esi is s e = cc
  register_missing Edi is s e = cc

  jump_missing : (j : Jump) (is : List Inst) (s : BlockState) → follows j is s ≡ Missing → ⊥
  jump_missing (Goto l) is s e = cc
  jump_missing (Fall l) is s e = cc
  jump_missing (Test r p q) is s e = cc
  jump_missing (Register r) is s e = register_missing r is s e

  inst_missing : (o : Option Inst) (b : Block) (s : BlockState) → in_block functions places o b s ≡ Missing → ⊥
  inst_missing None b s e = jump_missing b.jump b.insts s e
  inst_missing (Some i) b s e = to_next_missing _ e

  block_missing : (o : Option Block) (s : BlockState) → in_blocks functions places o s ≡ Missing → o ≡ None
  block_missing None s e = refl
  block_missing (Some b) s e = absurd (inst_missing _ b s e)

  missing_none : (B : List Block) (s : BlockState) → il_move functions places B s ≡ Missing → block_at B s.label ≡ None
  missing_none B s e = block_missing _ s e

module _ (w : World) (Fun : Type 0) (site : Fun → FunctionSite) (places : Fun → ℕ → ℕ) (blocks : Fun → List Block) (heads : Fun → List LoopHead) (entry : Fun → ℕ) where
  abbrev pub sig : Fun → Signature
  sig g = (site g).signature

  abbrev pub Enters : Signature → Values → Memory → BlockState → Type 0
  Enters S ν F s = EntersAt w S ν s.sp (arguments_at S s.sp s.memory) s.memory F

  -- what is known at a state of an activation of a function
  abbrev pub Now : Fun → Activation → BlockState → Type 0
  Now g a s = IsNow w (site g) (places g) (blocks g) (heads g) a (λ t. ⊥) s

  abbrev pub SafeIn : Fun → Activation → ℕ → BlockState → Type 0
  SafeIn g a n s = Safe w (site g) (places g) (blocks g) (heads g) a (λ t. ⊥) n s

  abbrev pub turn : Fun → BlockState → Move
  turn g s = il_move w.labels (places g) (blocks g) s

  -- The machine's states are Q, and `For n q` is what is to be shown: all is well for n turns from q. `Shows g s q`: q is at the first byte of
  -- what s is about to do in g. `Jumped s a q`: q has the registers and memory of s, and is at the address a.
  module _ (Q : Type 0) (For : ℕ → Q → Type 0) (Shows : Fun → BlockState → Q → Type 0) (Jumped : BlockState → ℕ → Q → Type 0) (F0 : Memory) where
    -- a state meets a signature for some values and some rest that contains F0
    pub record Entered (S : Signature) (s : BlockState) : Type 0 where
      pub values : Values
      pub rest : Memory
      pub enters : Enters S values rest s
      pub keeps : Includes rest F0

    -- the state q of the machine, which shows s in g, is well for n turns, where it leads to what `Then` says
    abbrev pub Onward : Fun → BlockState → Q → (Q → Type 0) → Type 0
    Onward g s q Then =
        (n : ℕ) (a : Activation) → Now g a s → Includes a.rest F0 → (s.label ≡ entry g → s.next ≡ 0 → Entered (sig g) s)
        → ((m : ℕ) → m < n → (r : Q) → Then r → For m r) → For n q

    -- what is asked of the machine and of the layout
    pub record Machine : Type 1 where
      -- a turn in the blocks is a fall, which takes nothing and comes nearer to the blocks' end, or is instructions
      pub rank : Fun → ℕ → ℕ
      pub within : (g : Fun) (s t : BlockState) (q : Q) → Shows g s q → turn g s ≡ Within t
          → (Shows g t q × (rank g t.label < rank g s.label)) ⊎ Onward g s q (Shows g t)
      -- a jump by a register
      pub returns : (g : Fun) (s : BlockState) (q : Q) → Shows g s q → turn g s ≡ Returns → Onward g s q (Jumped s s.rp)
      pub calls : (g : Fun) (s : BlockState) (q : Q) → Shows g s q → (o : Option ℕ) → turn g s ≡ Calls o → Onward g s q (Jumped s s.second)
      -- the code map's addresses are those of functions, and of the outside
      pub target : (a : ℕ) (name : List ℕ) → w.codes a ≡ Some name
          → ((g : Fun) × (signature_of w name ≡ Some (sig g)) × ((s : BlockState) (q : Q) → Jumped s a q → Shows g (at_label (entry g) s) q))
          ⊎ ((S : Signature) (s : BlockState) (q0 q : Q) (g : Fun) (label : ℕ) → signature_of w name ≡ Some S → Shows g s q0 → turn g s ≡ Calls (Some label)
          → Jumped s a q → s.rp ≡ places g label → Entered S s
          → (n : ℕ) → ((m : ℕ) → m < n → (t : BlockState) (r : Q) → Jumped t s.rp r → IsAnswer w S s t → For m r) → For n q)
      -- at a return label a function goes on
      pub resumes : (g : Fun) (s t : BlockState) (label : ℕ) (r q : Q) → Shows g s q → turn g s ≡ Calls (Some label) → s.rp ≡ places g label → Jumped t s.rp r → Shows g (at_label label t) r
      pub back_small : (g : Fun) (s : BlockState) (label : ℕ) (q : Q) → Shows g s q → turn g s ≡ Calls (Some label) → places g label < 4294967296
      -- no turn leads to a function's first label
      pub never_again : (g : Fun) (s t : BlockState) → turn g s ≡ Within t → t.label ≡ entry g → t.next ≡ 0 → ⊥
      pub never_back : (g : Fun) (s : BlockState) (label : ℕ) → turn g s ≡ Calls (Some label) → label ≡ entry g → ⊥

    module _ (M : Machine) (keeps : (g : Fun) → KeepsFunction w (site g) (places g) (blocks g) (heads g) (entry g)) where
      -- the activation of a function that was entered at e, under these values and beside F
      abbrev act : (g : Fun) (e : BlockState) → IsEntry (entry g) e → (ν : Values) (F : Memory) → Enters (sig g) ν F e → Activation
      act g e begins ν F en = (keeps g ν F e begins en).activation

      -- A state of a function that was entered at e: it is safe for all values and rests for which e entered, and after the function's return
      -- all is well.
      record Stands (n : ℕ) (g : Fun) (e s : BlockState) (q : Q) : Type 0 where
        begins : IsEntry (entry g) e
        shows : Shows g s q
        entered : Entered (sig g) e
        safe : (ν : Values) (F : Memory) (en : Enters (sig g) ν F e) (k : ℕ) → SafeIn g (act g e begins ν F en) k s
        first : s.label ≡ entry g → s.next ≡ 0 → Entered (sig g) s
        after : (m : ℕ) → m < n → (t : BlockState) (r : Q) → Jumped t e.rp r → IsAnswer w (sig g) e t → For m r

      abbrev Well : ℕ → Type 0
      Well n = (g : Fun) (e s : BlockState) (q : Q) → Stands n g e s q → For n q

      module _ (n : ℕ) (fewer : (m : ℕ) → m < n → Well m) (g : Fun) (e s : BlockState) (q : Q) (st : Stands n g e s q) where
        abbrev mine : (ν : Values) (F : Memory) → Enters (sig g) ν F e → Activation
        mine ν F en = act g e st.begins ν F en

        abbrev one : Activation
        one = mine st.entered.values st.entered.rest st.entered.enters

        now : Now g one s
        now = (st.safe st.entered.values st.entered.rest st.entered.enters 1).0

        beside : Includes one.rest F0
        beside = includes_trans (keeps g st.entered.values st.entered.rest e st.begins st.entered.enters).rest st.entered.keeps

        -- what the turn is, for all values and rests
        does : (m : Move) → turn g s ≡ m → (ν : Values) (F : Memory) (en : Enters (sig g) ν F e) (k : ℕ)
            → Turns w (site g) (places g) (blocks g) (heads g) (mine ν F en) (λ t. ⊥) (SafeIn g (mine ν F en) k) m s
        does m is ν F en k = subst (λ x. Turns w (site g) (places g) (blocks g) (heads g) (mine ν F en) (λ t. ⊥) (SafeIn g (mine ν F en) k) x s) is (st.safe ν F en (suc k)).1

        -- it goes on at t in the same function
        goes_on : (m : ℕ) → m ≤ n → (t : BlockState) (r : Q) → turn g s ≡ Within t → Shows g t r → Stands m g e t r
        goes_on m le t r is shows = record {
          begins = st.begins;
          shows = shows;
          entered = st.entered;
          safe = λ ν F en k. does (Within t) is ν F en k;
          first = λ l z. absurd (M.never_again g s t is l z);
          after = λ k lt v x j ans. st.after k (omega arith) v x j ans;
        }

        return_well : turn g s ≡ Returns → For n q
        return_well is =
            let run = keeps g st.entered.values st.entered.rest e st.begins st.entered.enters in
            let back = does Returns is st.entered.values st.entered.rest st.entered.enters 0 in
            M.returns g s q st.shows is n one now beside st.first
            (λ m lt r jumped. st.after m lt s r (subst (λ b. Jumped s b r) (back.rp ∙ run.back) jumped) (record {
              sp = back.state.sp ∙ run.sp;
              answer = back.answer;
              bytes = back.state.memory.bytes;
              leaves = λ ν F en. (keeps g ν F e st.begins en).leaves s (does Returns is ν F en 0);
            }))

        module _ (o : Option ℕ) (is : turn g s ≡ Calls o) where
          call : IsCall w (site g) one (places g) (SafeIn g one 0) o s
          call = does (Calls o) is st.entered.values st.entered.rest st.entered.enters 0

          is_some : turn g s ≡ Calls (Some call.label)
          is_some = is ∙ ap Calls call.is_label

          same_label : {x y : ℕ} → o ≡ Some x → o ≡ Some y → x ≡ y
          same_label p r = some_same (sym p ∙ r)

          same_callee : {x y : List ℕ} {S T : Signature} → w.codes s.second ≡ Some x → w.codes s.second ≡ Some y → signature_of w x ≡ Some S → signature_of w y ≡ Some T → S ≡ T
          same_callee {x = x} {y = y} {S = S} {T = T} p r a b =
              let same : x ≡ y = some_same (sym p ∙ r) in
              some_same (sym (subst (λ z. signature_of w z ≡ Some S) same a) ∙ b)

          -- after an answer the caller goes on
          resume : (k : ℕ) → k < n → (t : BlockState) (r : Q) → Jumped t s.rp r → IsAnswer w call.callee s t → For k r
          resume k lt t r jumped ans = fewer k lt g e (at_label call.label t) r (record {
            begins = st.begins;
            entered = st.entered;
            shows = M.resumes g s t call.label r q st.shows is_some call.rp jumped;
            safe = λ ν F en j.
                let other = does (Calls o) is ν F en j in
                let callee : call.callee ≡ other.callee = same_callee call.code other.code call.declared other.declared in
                let theirs : IsAnswer w other.callee s t = subst (λ S. IsAnswer w S s t) callee ans in
                other.goes_on (at_label call.label t) (same_label call.is_label other.is_label) refl
                (record { sp = theirs.sp; answer = theirs.answer; bytes = theirs.bytes; leaves = theirs.leaves });
            first = λ l z. absurd (M.never_back g s call.label is_some l);
            after = λ j lt2 v x jumped2 ans2. st.after j (omega arith) v x jumped2 ans2;
          })

          entered : Entered call.callee s
          entered = record { values = call.values; rest = call.rest; enters = call.enters; keeps = includes_trans call.keeps beside }

          -- a function of the program is entered
          inner : (m : ℕ) → m < n → (g2 : Fun) → signature_of w call.name ≡ Some (sig g2) → (r : Q) → Shows g2 (at_label (entry g2) s) r → For m r
          inner m lt g2 named r shows =
              let same : call.callee ≡ sig g2 = same_callee call.code call.code call.declared named in
              let theirs : Entered (sig g2) s = subst (λ S. Entered S s) same entered in
              let here : Entered (sig g2) (at_label (entry g2) s) = record { values = theirs.values; rest = theirs.rest; enters = theirs.enters; keeps = theirs.keeps } in
              let rp : s.rp < 4294967296 = subst (λ x. x < 4294967296) (sym call.rp) (M.back_small g s call.label q st.shows is_some) in
              let begins : IsEntry (entry g2) (at_label (entry g2) s) = record { label = refl; next = refl; return_address = rp; bytes = call.bytes } in
              fewer m lt g2 (at_label (entry g2) s) (at_label (entry g2) s) r (record {
                begins = begins;
                shows = shows;
                entered = here;
                safe = λ ν F en k. (keeps g2 ν F (at_label (entry g2) s) begins en).safe k;
                first = λ l z. here;
                after = λ k lt2 t x jumped ans.
                    let mine2 : IsAnswer w call.callee s t = subst (λ S. IsAnswer w S s t) (sym same) (record { sp = ans.sp; answer = ans.answer; bytes = ans.bytes; leaves = ans.leaves }) in
                    resume k (omega arith) t x jumped mine2;
              })

          call_well : For n q
          call_well = M.calls g s q st.shows o is n one now beside st.first
              (λ m lt r jumped. elim (M.target s.second call.name call.code) [
                | inl f ↦ inner m lt f.0 f.1 r (f.2 s r jumped)
                | inr f ↦ f call.callee s q r g call.label call.declared st.shows is_some jumped call.rp entered m (λ k lt2 t x j ans. resume k (omega arith) t x j ans)
              ])

        turn_well : ((t : BlockState) → M.rank g t.label < M.rank g s.label → Stands n g e t q → For n q) → (m : Move) → turn g s ≡ m → For n q
        turn_well nearer (Within t) is = elim (M.within g s t q st.shows is) [
          | inl f ↦ nearer t f.1 (goes_on n (omega arith) t q is f.0)
          | inr f ↦ f n one now beside st.first (λ m less r shows. fewer m less g e t r (goes_on m (omega arith) t r is shows))
        ]
        turn_well nearer Returns is = return_well is
        turn_well nearer (Calls o) is = call_well o is
        turn_well nearer Strays is = absurd (does Strays is st.entered.values st.entered.rest st.entered.enters 0)
        turn_well nearer (Faults a) is = absurd (does (Faults a) is st.entered.values st.entered.rest st.entered.enters 0)
        turn_well nearer Missing is = absurd (now.beyond (missing_none w.labels (places g) (blocks g) s is))

      -- one turn, where all is well for fewer
      well_turn : (n : ℕ) → ((m : ℕ) → m < n → Well m) → (rank : ℕ) (g : Fun) (e s : BlockState) (q : Q) → M.rank g s.label < rank → Stands n g e s q → For n q
      well_turn n fewer zero g e s q lt st = absurd (omega arith)
      well_turn n fewer (suc rank) g e s q lt st = turn_well n fewer g e s q st (λ t near f. well_turn n fewer rank g e t q (omega arith) f) (turn g s) refl

      well : (n m : ℕ) → m ≤ n → Well m
      well zero m le g e s q st = well_turn m (λ k lt. absurd (omega arith)) (suc (M.rank g s.label)) g e s q (omega arith) st
      well (suc n) m le g e s q st = well_turn m (λ k lt. well n k (omega arith)) (suc (M.rank g s.label)) g e s q (omega arith) st

      -- a function that is entered is well for every number of turns, where the state after its return is
      pub function_well : (g : Fun) (e : BlockState) (q : Q) → IsEntry (entry g) e → Shows g e q → Entered (sig g) e
          → (n : ℕ) → ((m : ℕ) → m < n → (t : BlockState) (r : Q) → Jumped t e.rp r → IsAnswer w (sig g) e t → For m r) → For n q
      function_well g e q begins shows entered n after = well n n (omega arith) g e e q (record {
        begins = begins;
        shows = shows;
        entered = entered;
        safe = λ ν F en k. (keeps g ν F e begins en).safe k;
        first = λ l z. entered;
        after = after;
      })
