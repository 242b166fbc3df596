-- Code of functions that only return a value is sound.
use Rattle.std.proofs.Common.{◌≡◌, ℕ, zero, suc, ◌+◌, ◌*◌, ◌<◌, ◌≤◌, ◌⊎◌, Some, None, Ok, List, [], ◌∷◌, ◌++◌, length, slice_index, Contains, inl, inr, refl, sym, ◌∙◌, ap, subst, arith, append_assoc, length-append}
use Rattle.bed_machine.specs.declared.registers.Reg.TheVariants.{Eax, Ecx, Ebp, Esi}
use Rattle.bed_machine.specs.declared.registers.Regs.{Regs}
use Rattle.bed_machine.specs.declared.instructions.Rm.TheVariants.{Reg as InRegister, Mem}
use Rattle.bed_machine.specs.declared.instructions.Ins.TheVariants.{MovTo, MovFrom, JmpReg}
use Rattle.bed_lang.specs.Numbers.{wrap}
use Rattle.bed_machine.specs.Memory.{Memory, empty, word_at, put_word}
use Rattle.bed_machine.specs.Instructions.{row, IsAllowed}
use Rattle.bed_machine.specs.MachineCode.{IsInCode}
use Rattle.bed_machine.specs.Machine.{MachineState, set_register, with_register, effect}
use Rattle.bed_lang.specs.declared.word.Name.{Name}
use Rattle.bed_lang.specs.declared.word.Var.TheVariants as var
use Rattle.bed_lang.specs.declared.word.Word.{Word, Var as WordVar}
use Rattle.bed_lang.specs.declared.logic.Pure.TheVariants as pure
use Rattle.bed_lang.specs.declared.logic.Term.TheVariants as term
use Rattle.bed_lang.specs.declared.logic.Assertion.{Assertion}
use Rattle.bed_lang.specs.Values.{Values, Answer, set_word, value}
use Rattle.bed_lang.proofs.ValueLaws.{value-Number, value-Var}
use Rattle.bed_sat.specs.Parts.{Joins, Includes}
use Rattle.bed_sat.specs.Cells.{AreWordsAt}
use Rattle.bed_sat.specs.Assertions.{World, ForSomeValues, AreTrueTerms, meaning, Holds}
use Rattle.bed_sat.specs.Frames.{set_words, arguments, EntersAt, Returned, Meets}
use Rattle.bed_sat.specs.Runs.{Outside}
use Rattle.bed_sat.specs.Sound.{FunctionAt, Linked, world_of, IsOutsideOf, IsStart, IsFine, IsSound, IsSoundFromAll}
use Rattle.bed_sat.specs.Returns.{ReturnValue, OfNumber, OfArgument, fetch, return_code, Says, IsReturnSignature, AreReturns, IsReturnProgram}
use Rattle.bed_machine.proofs.StepLaws.{Goes, goes_inside, goes_step}
use Rattle.bed_sat.proofs.PartLaws.{joins_empty, to_empty, joins_left, joins_right, includes_trans, includes_refl}
use Rattle.bed_sat.proofs.BlockLaws.{word_place, load_slot, put_slot}
use Rattle.bed_sat.proofs.FrameLaws.{parameter_word, get_lt, index_front}
use Rattle.bed_sat.proofs.LaidLaws.{HasAt, has_front, has_back, begins_at, in_code_at, end_at, positive}
use Rattle.bed_sat.proofs.RunLaws.{FineFor, fine_run, fine_then, fine_over}

-- an assertion that is just `emp` holds on the empty memory alone
emp_only : (w : World) (ν : Values) (h : Memory) (A : Assertion) → A.binders ≡ [] → A.terms ≡ term.Emp ∷ [] → Holds w ν h A → h ≡ empty
emp_only w ν h A no_binders one is =
    let all = subst (λ bs. ForSomeValues bs ν (λ μ. AreTrueTerms w.codes w.labels (meaning w is.0) μ A.terms h)) no_binders is.1 in
    let just = subst (λ ts. AreTrueTerms w.codes w.labels (meaning w is.0) ν ts h) one all in
    joins_empty (subst (Joins h just.0) just.4 just.2) ∙ just.3

-- one that is just a fact holds there where the fact is true
fact_holds : (w : World) (ν : Values) (A : Assertion) (a b : Word) → A.binders ≡ [] → A.terms ≡ term.Pure (pure.Equal a b) ∷ [] → value w.labels ν a ≡ value w.labels ν b → Holds w ν empty A
fact_holds w ν A a b no_binders one same =
    let just : AreTrueTerms w.codes w.labels (meaning w 0) ν (term.Pure (pure.Equal a b) ∷ []) empty = (empty, empty, to_empty empty, (refl, same), refl) in
    let all = subst (λ ts. AreTrueTerms w.codes w.labels (meaning w 0) ν ts empty) (sym one) just in
    (0, subst (λ bs. ForSomeValues bs ν (λ μ. AreTrueTerms w.codes w.labels (meaning w 0) μ A.terms empty)) (sym no_binders) all)

-- the word that is returned, by the arguments
abbrev answer_of : ReturnValue → List ℕ → ℕ
answer_of (OfNumber n) args = n
answer_of (OfArgument i) args = slice_index args i

-- the postcondition's word has that value
said : (labels : List ℕ → ℕ) (ν : Values) (params : List Name) (args : List ℕ) (v : ReturnValue) (e : Word) → length args ≡ length params → Says params e v
    → value labels (set_word (set_words ν params args) Answer (answer_of v args)) e ≡ wrap (answer_of v args)
said labels ν params args (OfNumber n) e long s =
    let μ = set_word (set_words ν params args) Answer n in
    ap (value labels μ) s.1 ∙ value-Number labels μ n
said labels ν params args (OfArgument i) e long s =
    let μ = set_word (set_words ν params args) Answer (slice_index args i) in
    ap (value labels μ) s.1 ∙ value-Var labels μ (var.Named s.0)
    ∙ ap wrap (parameter_word ν params args s.0.bytes i s.2 long)

-- one of the functions, where it stands among them
record IsPlaced (p : Linked) (f : FunctionAt) : Type 0 where
  pub result : ReturnValue
  pub has : HasAt p.code f.address (return_code result)
  pub signature : IsReturnSignature f.signature result
  pub others : (g : FunctionAt) → Contains p.functions g → (f ≡ g) ⊎ (g.address < f.address) ⊎ (f.address + length (return_code result) ≤ g.address)
  pub in_code : (g : FunctionAt) → Contains p.functions g → IsInCode p.code g.address

code_long : (v : ReturnValue) → 20 < length (return_code v)
code_long (OfNumber n) = omega arith
code_long (OfArgument i) = omega arith

-- functions stand at or after the address from which they are laid
after_start : (a : ℕ) (fs : List FunctionAt) (bytes : List ℕ) (g : FunctionAt) → AreReturns a fs bytes → Contains fs g → a ≤ g.address
after_start a [] bytes g laid (k, lt, e) = absurd (omega arith)
after_start a (f ∷ fs) bytes g laid (zero, lt, e) = let at : f.address ≡ g.address = ap (λ x. x.address) e in omega (arith, laid.2)
after_start a (f ∷ fs) bytes g laid (suc k, lt, e) =
    let r = after_start (a + length (return_code laid.0)) fs laid.1 g laid.5 (k, omega arith, e) in omega arith

-- and before where they end
before_end : (a : ℕ) (fs : List FunctionAt) (bytes : List ℕ) (g : FunctionAt) → AreReturns a fs bytes → Contains fs g → g.address < a + length bytes
before_end a [] bytes g laid (k, lt, e) = absurd (omega arith)
before_end a (f ∷ fs) bytes g laid (zero, lt, e) =
    let at : f.address ≡ g.address = ap (λ x. x.address) e in
    let long : length bytes ≡ length (return_code laid.0) + length laid.1 = ap length laid.3 ∙ length-append (return_code laid.0) laid.1 in
    omega (arith, laid.2, code_long laid.0)
before_end a (f ∷ fs) bytes g laid (suc k, lt, e) =
    let r = before_end (a + length (return_code laid.0)) fs laid.1 g laid.5 (k, omega arith, e) in
    let long : length bytes ≡ length (return_code laid.0) + length laid.1 = ap length laid.3 ∙ length-append (return_code laid.0) laid.1 in
    omega arith

-- where a function's code is, and that no other function begins in it
record IsLaid (a : ℕ) (fs : List FunctionAt) (bytes : List ℕ) (f : FunctionAt) : Type 0 where
  pub result : ReturnValue
  pub before : List ℕ
  pub after : List ℕ
  pub split : bytes ≡ before ++ (return_code result ++ after)
  pub place : f.address ≡ a + length before
  pub signature : IsReturnSignature f.signature result
  pub others : (g : FunctionAt) → Contains fs g → (f ≡ g) ⊎ (g.address < f.address) ⊎ (f.address + length (return_code result) ≤ g.address)

laid_at : (a : ℕ) (fs : List FunctionAt) (bytes : List ℕ) (f : FunctionAt) → AreReturns a fs bytes → Contains fs f → IsLaid a fs bytes f
laid_at a [] bytes f laid (k, lt, e) = absurd (omega arith)
laid_at a (g ∷ fs) bytes f laid (zero, lt, e) =
    subst (IsLaid a (g ∷ fs) bytes) e (record {
      result = laid.0;
      before = [];
      after = laid.1;
      split = laid.3;
      place = omega (arith, laid.2);
      signature = laid.4;
      others = first_others;
    })
  where
    first_others : (h : FunctionAt) → Contains (g ∷ fs) h → (g ≡ h) ⊎ (h.address < g.address) ⊎ (g.address + length (return_code laid.0) ≤ h.address)
    first_others h (zero, l, q) = inl q
    first_others h (suc k, l, q) = inr (inr (let r = after_start (a + length (return_code laid.0)) fs laid.1 h laid.5 (k, omega arith, q) in omega (arith, laid.2)))
laid_at a (g ∷ fs) bytes f laid (suc k, lt, e) =
    let r = laid_at (a + length (return_code laid.0)) fs laid.1 f laid.5 (k, omega arith, e) in
    record {
      result = r.result;
      before = return_code laid.0 ++ r.before;
      after = r.after;
      split = laid.3 ∙ ap (λ l. return_code laid.0 ++ l) r.split ∙ sym (append_assoc (return_code laid.0) r.before (return_code r.result ++ r.after));
      place = r.place ∙ (let n = length-append (return_code laid.0) r.before in omega arith);
      signature = r.signature;
      others = rest_others r;
    }
  where
    rest_others : (r : IsLaid (a + length (return_code laid.0)) fs laid.1 f) (h : FunctionAt) → Contains (g ∷ fs) h → (f ≡ h) ⊎ (h.address < f.address) ⊎ (f.address + length (return_code r.result) ≤ h.address)
    rest_others r h (zero, l, q) =
        let at : g.address ≡ h.address = ap (λ x. x.address) q in
        inr (inl (omega (arith, laid.2, r.place, code_long laid.0)))
    rest_others r h (suc j, l, q) = r.others h (j, omega arith, q)

placed : (p : Linked) (f : FunctionAt) → IsReturnProgram p → Contains p.functions f → IsPlaced p f
placed p f is listed =
    let r = laid_at p.code.base p.functions p.code.bytes f is.laid listed in
    record {
      result = r.result;
      has = record { before = r.before; after = r.after; split = r.split; place = r.place };
      signature = r.signature;
      others = r.others;
      in_code = λ g g_listed. (after_start p.code.base p.functions p.code.bytes g is.laid g_listed, before_end p.code.base p.functions p.code.bytes g is.laid g_listed);
    }

module _ (p : Linked) (is : IsReturnProgram p) (X : Outside) (out : IsOutsideOf p X) (f : FunctionAt) (ν : Values) (s0 : MachineState) (F : Memory) (start : IsStart p X f ν s0 F) where
  abbrev here : IsPlaced p f
  here = placed p f is start.listed

  abbrev v : ReturnValue
  v = here.result

  abbrev w : World
  w = world_of p X

  abbrev a : ℕ
  a = f.address

  abbrev args : List ℕ
  args = arguments f.signature s0

  abbrev en : EntersAt w f.signature ν s0.regs.ebp args s0.memory F
  en = start.enters

  abbrev size : ℕ
  size = length (row (fetch v))

  -- the words of the frame once the return address is kept
  abbrev kept : List ℕ
  kept = s0.regs.esi ∷ (args ++ en.area)

  abbrev slot0 : ℕ
  slot0 = word_place s0.regs.ebp 0

  stored : Memory
  stored = put_word s0.memory slot0 s0.regs.esi

  frame_after : Memory
  frame_after = put_word en.frame slot0 s0.regs.esi

  parts_after : Joins stored frame_after en.parts.0 × AreWordsAt s0.regs.ebp kept frame_after
  unfolding stored frame_after
  parts_after = put_slot s0.regs.ebp (en.back ∷ (args ++ en.area)) 0 s0.regs.esi en.parts.1 en.is_frame (omega arith) (start.state.regs.esi)

  answer : ℕ
  answer = answer_of v args

  loaded : Regs
  loaded = set_register s0.regs Ecx answer

  last : Regs
  last = set_register loaded Eax answer

  s1 : MachineState
  s1 = record s0 { eip = a + 6; memory = stored }

  s2 : MachineState
  s2 = record s0 { eip = a + 6 + size; memory = stored; regs = loaded }

  s3 : MachineState
  s3 = record s0 { eip = a + 6 + size + 2; memory = stored; regs = last }

  s4 : MachineState
  s4 = record s0 { eip = a + 6 + size + 2 + 6; memory = stored; regs = last }

  s5 : MachineState
  s5 = record s0 { eip = s0.regs.esi; memory = stored; regs = last }

  has1 : HasAt p.code (a + 6) (row (fetch v) ++ (row (MovFrom Eax (InRegister Ecx)) ++ (row (MovFrom Esi (Mem Ebp 0)) ++ row (JmpReg Esi))))
  has1 = has_back (row (MovTo (Mem Ebp 0) Esi)) _ here.has

  has2 : HasAt p.code (a + 6 + size) (row (MovFrom Eax (InRegister Ecx)) ++ (row (MovFrom Esi (Mem Ebp 0)) ++ row (JmpReg Esi)))
  has2 = has_back (row (fetch v)) _ has1

  has3 : HasAt p.code (a + 6 + size + 2) (row (MovFrom Esi (Mem Ebp 0)) ++ row (JmpReg Esi))
  has3 = has_back (row (MovFrom Eax (InRegister Ecx))) _ has2

  has4 : HasAt p.code (a + 6 + size + 2 + 6) (row (JmpReg Esi))
  has4 = has_back (row (MovFrom Esi (Mem Ebp 0))) _ has3

  ends : a + 6 + size + 2 + 6 + 2 ≤ 4294967296
  ends = let e = end_at (row (JmpReg Esi)) has4 in omega (arith, is.fits)

  goes0 : Goes p.code s0 s1
  unfolding s1 stored
  goes0 = record {
    place = a;
    instruction = MovTo (Mem Ebp 0) Esi;
    size = 6;
    at = start.eip;
    inside = in_code_at (row (MovTo (Mem Ebp 0) Esi)) (has_front (row (MovTo (Mem Ebp 0) Esi)) _ here.has) (omega arith);
    begins = begins_at (MovTo (Mem Ebp 0) Esi) (λ e. absurd cc, omega arith) (has_front (row (MovTo (Mem Ebp 0) Esi)) _ here.has);
    gives =
        let next : wrap (a + 6) ≡ a + 6 = (let e = ends in omega arith) in
        rw (load_slot s0.regs.ebp (en.back ∷ (args ++ en.area)) 0 (joins_left en.parts.1) en.is_frame (omega arith), next) refl;
  }

  allowed : (u : ReturnValue) → Says f.signature.params here.signature.word u → IsAllowed (fetch u)
  allowed (OfNumber n) s = s.0
  allowed (OfArgument i) s = (λ e. absurd cc, omega arith)

  -- the value comes into ECX
  fetched : (u : ReturnValue) → Says f.signature.params here.signature.word u → (next : ℕ) → effect (fetch u) next s1 ≡ Ok (with_register s1 next Ecx (answer_of u args))
  unfolding s1
  fetched (OfNumber n) s next = refl
  fetched (OfArgument i) s next =
      let x = s.2 in
      let lt : i < length args = (let l = get_lt f.signature.params i x.parameter x.at in omega (arith, en.args_count)) in
      let place : wrap (s0.regs.ebp + wrap (4 + 4 * i)) ≡ word_place s0.regs.ebp (suc i) = omega arith in
      let read : word_at stored (word_place s0.regs.ebp (suc i)) ≡ Some (slice_index (args ++ en.area) i) =
      load_slot s0.regs.ebp kept (suc i) (joins_left parts_after.0) parts_after.1 (omega (arith, length-append args en.area)) in
      rw (place, read, index_front args en.area i lt) refl

  goes1 : Goes p.code s1 s2
  unfolding s1 s2 loaded answer
  goes1 = record {
    place = a + 6;
    instruction = fetch v;
    size = size;
    at = refl;
    inside = in_code_at (row (fetch v)) (has_front (row (fetch v)) _ has1) (positive (fetch v));
    begins = begins_at (fetch v) (allowed v here.signature.says) (has_front (row (fetch v)) _ has1);
    gives =
        let next : wrap (a + 6 + size) ≡ a + 6 + size = (let e = ends in omega arith) in
        fetched v here.signature.says (wrap (a + 6 + size)) ∙ ap (λ n. Ok (with_register s1 n Ecx (answer_of v args))) next;
  }

  goes2 : Goes p.code s2 s3
  unfolding s2 s3 last loaded
  goes2 = record {
    place = a + 6 + size;
    instruction = MovFrom Eax (InRegister Ecx);
    size = 2;
    at = refl;
    inside = in_code_at (row (MovFrom Eax (InRegister Ecx))) (has_front (row (MovFrom Eax (InRegister Ecx))) _ has2) (omega arith);
    begins = begins_at (MovFrom Eax (InRegister Ecx)) tt (has_front (row (MovFrom Eax (InRegister Ecx))) _ has2);
    gives =
        let next : wrap (a + 6 + size + 2) ≡ a + 6 + size + 2 = (let e = ends in omega arith) in
        rw next refl;
  }

  goes3 : Goes p.code s3 s4
  unfolding s3 s4 last loaded
  goes3 = record {
    place = a + 6 + size + 2;
    instruction = MovFrom Esi (Mem Ebp 0);
    size = 6;
    at = refl;
    inside = in_code_at (row (MovFrom Esi (Mem Ebp 0))) (has_front (row (MovFrom Esi (Mem Ebp 0))) _ has3) (omega arith);
    begins = begins_at (MovFrom Esi (Mem Ebp 0)) (λ e. absurd cc, omega arith) (has_front (row (MovFrom Esi (Mem Ebp 0))) _ has3);
    gives =
        let next : wrap (a + 6 + size + 2 + 6) ≡ a + 6 + size + 2 + 6 = (let e = ends in omega arith) in
        rw (load_slot s0.regs.ebp kept 0 (joins_left parts_after.0) parts_after.1 (omega arith), next) refl;
  }

  goes4 : Goes p.code s4 s5
  unfolding s4 s5 last loaded
  goes4 = record {
    place = a + 6 + size + 2 + 6;
    instruction = JmpReg Esi;
    size = 2;
    at = refl;
    inside = in_code_at (row (JmpReg Esi)) has4 (omega arith);
    begins = begins_at (JmpReg Esi) tt has4;
    gives = refl;
  }

  rest_keeps : Includes en.parts.0 F
  rest_keeps = let q = en.parts.2 in includes_trans (joins_right q.1) (joins_left q.2.1)

  keeps_after : Includes stored F
  keeps_after = includes_trans (joins_right parts_after.0) rest_keeps

  not_out : (s t : MachineState) → Goes p.code s t → s.eip ≡ s0.regs.esi → ⊥
  not_out s t g e = start.return_out (subst (IsInCode p.code) e (goes_inside g))

  no_name : (x : ℕ) → X x ≡ None → (n : List ℕ) → X x ≡ Some n → ⊥
  no_name x none n named = cc

  no_loop : (x : Linked) → x.loops ≡ [] → (k : ℕ) → k < length x.loops → ⊥
  no_loop x none k lt = omega (arith, ap length none)

  -- at an instruction that isn't a function's first
  fine_inner : (s t : MachineState) → Goes p.code s t → a < s.eip → s.eip < a + 6 + size + 2 + 6 + 2 → Includes s.memory F → IsFine p X f ν s0 F s
  fine_inner s t g low high keeps = record {
    goes_on = inl (goes_inside g, t, goes_step g);
    keeps = keeps;
    at_function = λ h listed e. absurd (elsewhere h listed e (here.others h listed));
    at_loop = λ l listed e. absurd (no_loop p is.no_loops listed.0 listed.1);
    at_outside = λ n S x named. absurd (no_name _ (out.apart s.eip (goes_inside g)) n x);
    at_return = λ e. absurd (not_out s t g e);
  }
    where
      long : length (return_code v) ≡ 6 + (size + (2 + (6 + 2)))
      long = omega (arith, length-append (row (fetch v)) (row (MovFrom Eax (InRegister Ecx)) ++ (row (MovFrom Esi (Mem Ebp 0)) ++ row (JmpReg Esi))))

      elsewhere : (h : FunctionAt) → Contains p.functions h → s.eip ≡ h.address → (f ≡ h) ⊎ (h.address < f.address) ⊎ (f.address + length (return_code v) ≤ h.address) → ⊥
      elsewhere h listed e (inl same) = let at : f.address ≡ h.address = ap (λ x. x.address) same in omega arith
      elsewhere h listed e (inr (inl lower)) = omega arith
      elsewhere h listed e (inr (inr higher)) = let l = long in omega arith

  fine0 : IsFine p X f ν s0 F s0
  fine0 = record {
    goes_on = inl (goes_inside goes0, s1, goes_step goes0);
    keeps = includes_trans (joins_right en.parts.1) rest_keeps;
    at_function = λ h listed e. same_function h e (here.others h listed);
    at_loop = λ l listed e. absurd (no_loop p is.no_loops listed.0 listed.1);
    at_outside = λ n S x named. absurd (no_name _ (out.apart s0.eip (goes_inside goes0)) n x);
    at_return = λ e. absurd (not_out s0 s1 goes0 e);
  }
    where
      same_function : (h : FunctionAt) → s0.eip ≡ h.address → (f ≡ h) ⊎ (h.address < f.address) ⊎ (f.address + length (return_code v) ≤ h.address) → Meets w h.signature s0 F
      same_function h e (inl same) = subst (λ q. Meets w q.signature s0 F) same (record { values = ν; rest = F; keeps = includes_refl F; enters = en })
      same_function h e (inr (inl lower)) = absurd (omega (arith, start.eip))
      same_function h e (inr (inr higher)) = absurd (omega (arith, start.eip, code_long v))

  heap_empty : en.heap ≡ empty
  heap_empty = emp_only w (set_words ν f.signature.params args) en.heap f.signature.pre here.signature.pre_binders here.signature.pre_terms en.pre

  returned : Returned w f.signature ν s0 s5 F
  unfolding s5 last loaded answer
  returned = record {
    eip = refl;
    ebp = refl;
    ebx = refl;
    esp = refl;
    edi = refl;
    leaves = record {
      frame = frame_after;
      heap = en.heap;
      parts = (en.parts.0, parts_after.0, en.parts.2);
      is_frame = (kept, omega (arith, length-append args en.area, en.args_count, en.area_count), parts_after.1);
      post =
          let μ = set_word (set_words ν f.signature.params args) Answer (answer_of v args) in
          let result : value w.labels μ (WordVar (var.Answer here.signature.place)) ≡ wrap (answer_of v args) = value-Var w.labels μ (var.Answer here.signature.place) in
          subst (λ h. Holds w μ h f.signature.post) (sym heap_empty)
          (fact_holds w μ f.signature.post (WordVar (var.Answer here.signature.place)) here.signature.word here.signature.post_binders here.signature.post_terms
          (result ∙ sym (said w.labels ν f.signature.params args v here.signature.word en.args_count here.signature.says)));
    };
  }

  fine5 : IsFine p X f ν s0 F s5
  unfolding s5
  fine5 = record {
    goes_on = inr (inr refl);
    keeps = keeps_after;
    at_function = λ h listed e. absurd (start.return_out (subst (IsInCode p.code) (sym e) (here.in_code h listed)));
    at_loop = λ l listed e. absurd (no_loop p is.no_loops listed.0 listed.1);
    at_outside = λ n S x named. absurd (no_name _ start.return_new n x);
    at_return = λ e. returned;
  }

  fine_for : (n : ℕ) → FineFor p X f ν s0 F n s0
  unfolding s1 s2 s3 s4 s5
  fine_for n =
      let pos = positive (fetch v) in
      fine_then p X f ν s0 F out n goes0 fine0 (λ n1 l1.
      fine_then p X f ν s0 F out n1 goes1 (fine_inner s1 s2 goes1 (omega arith) (omega arith) keeps_after) (λ n2 l2.
      fine_then p X f ν s0 F out n2 goes2 (fine_inner s2 s3 goes2 (omega arith) (omega arith) keeps_after) (λ n3 l3.
      fine_then p X f ν s0 F out n3 goes3 (fine_inner s3 s4 goes3 (omega arith) (omega arith) keeps_after) (λ n4 l4.
      fine_then p X f ν s0 F out n4 goes4 (fine_inner s4 s5 goes4 (omega arith) (omega arith) keeps_after) (λ n5 l5.
      fine_over p X f ν s0 F out n5 refl fine5)))))

-- code that is sound from all its functions is so from the exported ones
pub exported_sound : (p : Linked) → IsSoundFromAll p → IsSound p
exported_sound p all = record { fine = λ X out f ν s F exported start. all.fine X out f ν s F tt start }

-- the code of functions that only return a value is sound
pub return_program_sound_from_all : (p : Linked) → IsReturnProgram p → IsSoundFromAll p
return_program_sound_from_all p is = record {
  fine = λ X out f ν s F any start states run. fine_run p X f ν s F s (fine_for p is X out f ν s F start) states run;
}

pub return_program_sound : (p : Linked) → IsReturnProgram p → IsSound p
return_program_sound p is = exported_sound p (return_program_sound_from_all p is)
