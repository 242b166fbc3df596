-- What the layout gives, from functions laid out one right after the other.
use Rattle.std.proofs.Common.{◌≡◌, ◌≢◌, ℕ, zero, suc, ◌+◌, ◌<◌, ◌≤◌, Option, Some, None, IsSome, List, [], ◌∷◌, ◌++◌, map, length, Contains, inl, inr, ◌⊎◌, refl, sym, ◌∙◌, ap, subst, arith}
use Rattle.std.proofs.lemmas.List.{append-nil}
use Rattle.bed_lang.specs.declared.module.Rel.{Rel}
use Rattle.bed_lang.specs.Values.{Values}
use Rattle.bed_machine.specs.Memory.{Memory}
use Rattle.bed_machine.specs.MachineCode.{MachineCode, IsInCode}
use Rattle.bed_machine.specs.Machine.{MachineState}
use Rattle.bed_sat.specs.Runs.{Outside}
use Rattle.bed_sat.specs.Sound.{Linked, FunctionAt, LoopAt, IsOutsideOf, IsStart}
use Rattle.bed_il.specs.declared.blocks.Inst.{Inst}
use Rattle.bed_il.specs.declared.blocks.Inst.TheVariants.{SaveReturn, Fetch, Keep, KeepAnswer, Apply, LoadWord, LoadByte, StoreWord, StoreByte, RaiseSp, LowerSp, ReturnTo, SetAnswer, TakeReturn}
use Rattle.bed_il.specs.declared.blocks.Jump.TheVariants.{Fall, Test}
use Rattle.bed_il.specs.declared.blocks.Block.{Block}
use Rattle.bed_il.specs.BlockMachine.{block_at, back_label}
use Rattle.bed_il.specs.Bytes.{insts_bytes, laid}
use Rattle.bed_il.specs.Places.{insts_size, jump_size, block_size, blocks_size, place_of}
use Rattle.bed_il.specs.Fit.{first_label, named_labels, jump_labels, HasCode, FitFunction}
use Rattle.bed_il.proofs.PlaceLaws.{inst_size_is, insts_size_is, laid_size_is, place_first}
use Rattle.bed_laws.specs.Activations.{FunctionSite}
use Rattle.bed_laws.specs.Keeps.{LoopHead}
use Rattle.bed_layout.specs.Functions.{BlockFunction, places_in, function_bytes, code_bytes, StandFrom}
use Rattle.bed_layout.specs.Placed.{IsPlaced}
use Rattle.bed_sat.proofs.LaidLaws.{HasAt, has_front, has_back, end_at}
use Rattle.bed_layout.proofs.InstructionLemmas.{IsSmall}
use Rattle.bed_layout.proofs.PlaceLemmas.{some_same, none_some, IsBusy, found_among, block_has, place_low, rank_of, After, GoesOnAt, after_next, marked_positive, only_place, place_within, inside_not, inside_within, label_within, next_within}
use Rattle.bed_layout.proofs.MoveLemmas.{back_named, return_named, jump_named, call_named, within_named, calls_named}
use Rattle.bed_layout.proofs.ByteLemmas.{Layout}

-- functions in a row

abbrev pub blocks_in : List BlockFunction → List (List Block)
blocks_in fs = map (λ (f : BlockFunction). f.blocks) fs

-- where the code has the bytes of all, it has those of each
all_have : (c : MachineCode) (labels : List ℕ → ℕ) (fs : List BlockFunction) (at : ℕ) → StandFrom fs at → HasAt c at (code_bytes labels (blocks_in fs) at)
    → (f : BlockFunction) → Contains fs f → HasAt c f.address (function_bytes labels f.blocks f.address)
all_have c labels [] at stand has f is = let lt = is.1 in absurd (omega arith)
all_have c labels (g ∷ fs) at stand has f (zero, lt, e) =
    subst (λ (h : BlockFunction). HasAt c h.address (function_bytes labels h.blocks h.address)) e
    (subst (λ x. HasAt c x (function_bytes labels g.blocks x)) (sym stand.0) (has_front (function_bytes labels g.blocks at) _ has))
all_have c labels (g ∷ fs) at stand has f (suc k, lt, e) =
    let size : length (function_bytes labels g.blocks at) ≡ blocks_size g.blocks = laid_size_is labels (place_of g.blocks at) g.blocks at in
    all_have c labels fs (at + blocks_size g.blocks) stand.1
    (subst (λ n. HasAt c (at + n) (code_bytes labels (blocks_in fs) (at + blocks_size g.blocks))) size (has_back (function_bytes labels g.blocks at) (code_bytes labels (blocks_in fs) (at + blocks_size g.blocks)) has))
    f (k, omega arith, e)

-- each stands at or behind the first address
stands_low : (fs : List BlockFunction) (at : ℕ) → StandFrom fs at → (f : BlockFunction) → Contains fs f → at ≤ f.address
stands_low [] at stand f is = let lt = is.1 in absurd (omega arith)
stands_low (g ∷ fs) at stand f (zero, lt, e) = let same : g.address ≡ f.address = ap (λ (h : BlockFunction). h.address) e in omega (arith, stand.0)
stands_low (g ∷ fs) at stand f (suc k, lt, e) = let m = stands_low fs (at + blocks_size g.blocks) stand.1 f (k, omega arith, e) in omega arith

abbrev IsBefore : BlockFunction → BlockFunction → Type 0
IsBefore f g = f.address + blocks_size f.blocks ≤ g.address

first_before : (g : BlockFunction) (fs : List BlockFunction) (at : ℕ) → StandFrom (g ∷ fs) at → (f h : BlockFunction) → g ≡ f → Contains fs h → IsBefore f h
first_before g fs at stand f h e is =
    let low = stands_low fs (at + blocks_size g.blocks) stand.1 h is in
    let p : g.address ≡ f.address = ap (λ (x : BlockFunction). x.address) e in
    let q : blocks_size g.blocks ≡ blocks_size f.blocks = ap (λ (x : BlockFunction). blocks_size x.blocks) e in
    omega (arith, stand.0)

-- two are one, or stand apart
apart : (fs : List BlockFunction) (at : ℕ) → StandFrom fs at → (f h : BlockFunction) → Contains fs f → Contains fs h → (f ≡ h) ⊎ (IsBefore f h ⊎ IsBefore h f)
apart [] at stand f h is is2 = let lt = is.1 in absurd (omega arith)
apart (g ∷ fs) at stand f h (zero, lt, e) (zero, lt2, e2) = inl (sym e ∙ e2)
apart (g ∷ fs) at stand f h (zero, lt, e) (suc j, lt2, e2) = inr (inl (first_before g fs at stand f h e (j, omega arith, e2)))
apart (g ∷ fs) at stand f h (suc k, lt, e) (zero, lt2, e2) = inr (inr (first_before g fs at stand h f e2 (k, omega arith, e)))
apart (g ∷ fs) at stand f h (suc k, lt, e) (suc j, lt2, e2) = apart fs (at + blocks_size g.blocks) stand.1 f h (k, omega arith, e) (j, omega arith, e2)

some_is : {A : Type 0} (o : Option A) → IsSome o → (x : A) × (o ≡ Some x)
some_is None is = absurd (cc)
some_is (Some x) is = (x, refl)

-- ---- one function that fits

module _ (B : List Block) (entry : ℕ) (fits : FitFunction B entry) where
  -- each label that is named has a block
  label_block : (l : ℕ) → Contains (named_labels B) l → (c : Block) × (block_at B l ≡ Some c)
  label_block l is = elim (fits.fit.named l is) [
    | inl some ↦ some_is (block_at B l) some
    | inr behind ↦ absurd (none_some behind)
  ]

  entry_first : (x : ℕ) → place_of B x entry ≡ x
  entry_first x = go B fits.first
    where
      go : (C : List Block) → first_label C None ≡ Some entry → place_of C x entry ≡ x
      go [] e = refl
      go (b ∷ C) e = place_first b C x entry (some_same e)

module _ (p : Linked) (X : Outside) (fs : List BlockFunction) (P : IsPlaced p fs) where
  -- one of the functions
  pub record Fun : Type 0 where
    pub function : BlockFunction
    pub is : Contains fs function

  abbrev pub site : Fun → FunctionSite
  site g = g.function.site

  abbrev pub places : Fun → ℕ → ℕ
  places g l = places_in g.function l

  abbrev pub blocks : Fun → List Block
  blocks g = g.function.blocks

  abbrev pub heads : Fun → List LoopHead
  heads g = g.function.heads

  abbrev pub entry : Fun → ℕ
  entry g = g.function.entry

  abbrev base : Fun → ℕ
  base g = g.function.address

  fit : (g : Fun) → FitFunction (blocks g) (entry g)
  fit g = P.fit g.function g.is

  has : (g : Fun) → HasAt p.code (base g) (laid p.labels (places g) (blocks g) (base g))
  has g =
      let all : HasAt p.code p.code.base (code_bytes p.labels (blocks_in fs) p.code.base) = record { before = []; after = []; split = P.bytes ∙ sym (append-nil (code_bytes p.labels (blocks_in fs) p.code.base)); place = omega arith } in
      all_have p.code p.labels fs p.code.base P.stand all g.function g.is

  laid_size : (g : Fun) → length (laid p.labels (places g) (blocks g) (base g)) ≡ blocks_size (blocks g)
  laid_size g = laid_size_is p.labels (places g) (blocks g) (base g)

  fun_end : (g : Fun) → base g + blocks_size (blocks g) ≤ 4294967296
  fun_end g = let e = end_at (laid p.labels (places g) (blocks g) (base g)) (has g) in omega (arith, P.end, laid_size g)

  -- an address inside the code of one function, and a first address of another
  two_funs : (g h : Fun) (x k : ℕ) (c : Block) → base g ≤ x → x < base g + blocks_size (blocks g) → block_at (blocks h) k ≡ Some c → c.insts ≢ [] → x ≡ places h k
      → IsBefore g.function h.function ⊎ IsBefore h.function g.function → ⊥
  two_funs g h x k c low high found some at (inl far) = let q = place_low (blocks h) (base h) k in omega arith
  two_funs g h x k c low high found some at (inr far) = let q = inside_within (blocks h) (base h) k c 0 found (marked_positive c some) in omega arith

  busy_place : (g : Fun) (l : ℕ) (done : List Inst) → places g l + length (insts_bytes p.labels (places g) done) ≡ places g l + insts_size done
  busy_place g l done = ap (λ n. places g l + n) (insts_size_is p.labels (places g) done)

  -- a busy address at a marked one: in the same function
  marked : (g h : Fun) (l k : ℕ) (b c : Block) (done is : List Inst) → block_at (blocks g) l ≡ Some b → b.insts ≡ done ++ is → IsBusy is b.jump → block_at (blocks h) k ≡ Some c → c.insts ≢ []
      → places g l + length (insts_bytes p.labels (places g) done) ≡ places h k → (g.function ≡ h.function) × (l ≡ k) × (length done ≡ 0)
  marked g h l k b c done is found split busy found2 some at = elim (apart fs p.code.base P.stand g.function h.function g.is h.is) [
    | inl same ↦ (let at2 : places g l + insts_size done ≡ places g k = sym (busy_place g l done) ∙ at ∙ ap (λ z. places_in z k) (sym same) in
        let found3 : block_at (blocks g) k ≡ Some c = subst (λ (z : BlockFunction). block_at z.blocks k ≡ Some c) (sym same) found2 in
        let r = only_place (blocks g) (base g) l b done is found split busy k c found3 some at2 in (same, r.0, r.1))
    | inr far ↦ (let q = place_low (blocks g) (base g) l in
        absurd (two_funs g h (places g l + insts_size done) k c (omega arith) (place_within (blocks g) (base g) l b done is found split busy) found2 some (sym (busy_place g l done) ∙ at) far))
  ]

  middle : (g h : Fun) (l k : ℕ) (b c : Block) (d : ℕ) → block_at (blocks g) l ≡ Some b → 0 < d → d < block_size b → block_at (blocks h) k ≡ Some c → c.insts ≢ [] → places g l + d ≡ places h k → ⊥
  middle g h l k b c d found pos less found2 some at = elim (apart fs p.code.base P.stand g.function h.function g.is h.is) [
    | inl same ↦ inside_not (blocks g) (base g) l b d found pos less k c (subst (λ (z : BlockFunction). block_at z.blocks k ≡ Some c) (sym same) found2) (marked_positive c some) (at ∙ ap (λ z. places_in z k) (sym same))
    | inr far ↦ (let q = place_low (blocks g) (base g) l in two_funs g h (places g l + d) k c (omega arith) (inside_within (blocks g) (base g) l b d found less) found2 some at far)
  ]

  after_of : (g : Fun) (l : ℕ) (b : Block) (k : ℕ) → block_at (blocks g) l ≡ Some b → GoesOnAt b.jump k → After (blocks g) (base g) l b k
  after_of g l b k found next = let f = (fit g).fit in after_next (blocks g) (base g) l b k f.distinct f.go_on found next

  in_code : (g : Fun) (l : ℕ) (b : Block) → block_at (blocks g) l ≡ Some b → IsInCode p.code (places g l)
  in_code g l b found =
      let h = has g in
      let e = end_at (laid p.labels (places g) (blocks g) (base g)) h in
      let m = label_within (blocks g) (base g) l b (fit g).fit.go_on found in
      let q = place_low (blocks g) (base g) l in
      (omega (arith, h.place), omega (arith, laid_size g))

  small_place : (g : Fun) (l : ℕ) (b : Block) → block_at (blocks g) l ≡ Some b → places g l < 4294967296
  small_place g l b found = let e = fun_end g in let m = label_within (blocks g) (base g) l b (fit g).fit.go_on found in omega arith

  jump_block : (g : Fun) (l : ℕ) (b : Block) (k : ℕ) → block_at (blocks g) l ≡ Some b → Contains (jump_labels b.jump) k → (c : Block) × (block_at (blocks g) k ≡ Some c)
  jump_block g l b k found is = label_block (blocks g) (entry g) (fit g) k (jump_named (blocks g) l b k found is)

  back_block : (g : Fun) (l : ℕ) (b : Block) (k : ℕ) → block_at (blocks g) l ≡ Some b → back_label b.insts ≡ Some k → (c : Block) × (block_at (blocks g) k ≡ Some c)
  back_block g l b k found e = label_block (blocks g) (entry g) (fit g) k (call_named (blocks g) l b k found (back_named b.insts k e))

  test_size : (b : Block) (r : Rel) (y n : ℕ) → b.jump ≡ Test r y n → block_size b ≡ insts_size b.insts + 8
  test_size b r y n e = ap (λ j. insts_size b.insts + jump_size j) e

  fall_size : (b : Block) (k : ℕ) → b.jump ≡ Fall k → block_size b ≡ insts_size b.insts + 0
  fall_size b k e = ap (λ j. insts_size b.insts + jump_size j) e

  -- the numbers that matter are words
  small : (g : Fun) (l : ℕ) (b : Block) → block_at (blocks g) l ≡ Some b → (i : Inst) → Contains b.insts i → IsSmall p.labels (places g) i
  small g l b found (LowerSp n) is = P.words g.function g.is b (found_among (blocks g) l b found) n is
  small g l b found (ReturnTo k) is =
      let c = label_block (blocks g) (entry g) (fit g) k (call_named (blocks g) l b k found (return_named b.insts k is)) in
      small_place g k c.0 c.1
  small g l b found SaveReturn is = tt
  small g l b found (Fetch into value) is = tt
  small g l b found (Keep d) is = tt
  small g l b found (KeepAnswer d) is = tt
  small g l b found (Apply o) is = tt
  small g l b found (LoadWord d) is = tt
  small g l b found (LoadByte d) is = tt
  small g l b found (StoreWord d) is = tt
  small g l b found (StoreByte d) is = tt
  small g l b found (RaiseSp n) is = tt
  small g l b found SetAnswer is = tt
  small g l b found TakeReturn is = tt

  entry_block : (g : Fun) → HasCode (blocks g) (entry g)
  entry_block g = (fit g).code

  head_block : (g : Fun) (x : LoopHead) → Contains (heads g) x → HasCode (blocks g) x.label
  head_block g x is = P.heads g.function g.is x is

  -- the function, and the loop, that stands at an address
  pub fun_at : (h : FunctionAt) → Contains p.functions h → (g : Fun) × (places g (entry g) ≡ h.address) × ((site g).signature ≡ h.signature)
  fun_at h is =
      let k = P.functions h is in
      (record { function = k.function; is = k.listed }, entry_first k.function.blocks k.function.entry (P.fit k.function k.listed) k.function.address ∙ k.address, k.signature)

  abbrev pub loop_fun : (l : LoopAt) → Contains p.loops l → Fun
  loop_fun l is = record { function = (P.loops l is).function; is = (P.loops l is).listed }

  pub layout : (out : IsOutsideOf p X) (f : FunctionAt) (ν0 : Values) (s0 : MachineState) (F0 : Memory) (start : IsStart p X f ν0 s0 F0)
      → Layout p X out f ν0 s0 F0 start Fun site places blocks heads entry
  layout out f ν0 s0 F0 start = record {
    at_block = λ g l b found. block_has p.labels (places g) p.code (blocks g) (base g) l b (has g) found;
    small = small;
    small_place = small_place;
    small_next = λ g l b done i is found split. let e = fun_end g in let m = next_within (blocks g) (base g) l b done i is (fit g).fit.go_on found split in omega (arith, insts_size_is p.labels (places g) done, inst_size_is p.labels (places g) i);
    on_goto = λ g l b k found e. jump_block g l b k found (subst (λ j. Contains (jump_labels j) k) (sym e) (zero, omega arith, refl));
    on_fall = λ g l b k found e. let a = after_of g l b k found (subst (λ j. GoesOnAt j k) (sym e) refl) in (a.block, a.found);
    on_true = λ g l b r y n found e. let a = after_of g l b y found (subst (λ j. GoesOnAt j y) (sym e) refl) in (a.block, a.found);
    on_false = λ g l b r y n found e. jump_block g l b n found (subst (λ j. Contains (jump_labels j) n) (sym e) (suc zero, omega arith, refl));
    on_back = back_block;
    after_fall = λ g l b k found e. let a = after_of g l b k found (subst (λ j. GoesOnAt j k) (sym e) refl) in omega (arith, a.place, fall_size b k e, insts_size_is p.labels (places g) b.insts);
    after_test = λ g l b r y n found e. let a = after_of g l b y found (subst (λ j. GoesOnAt j y) (sym e) refl) in omega (arith, a.place, test_size b r y n e, insts_size_is p.labels (places g) b.insts);
    rank = λ g l. rank_of (blocks g) l;
    nearer = λ g l b k found e. (after_of g l b k found (subst (λ j. GoesOnAt j k) (sym e) refl)).nearer;
    fun_of = fun_at;
    named = P.declared;
    at_entry = λ g. ((entry_block g).block, (entry_block g).found);
    never_again = λ g s t turn at z. (fit g).alone (subst (Contains (named_labels (blocks g))) at (within_named p.labels (places g) (blocks g) s t turn z));
    never_back = λ g s label turn at. (fit g).alone (subst (Contains (named_labels (blocks g))) at (calls_named p.labels (places g) (blocks g) s label turn));
    back_in = λ g l b k found e. let c = back_block g l b k found e in in_code g k c.0 c.1;
    fun_in = λ h is. let g = fun_at h is in subst (IsInCode p.code) g.1 (in_code g.0 (entry g.0) (entry_block g.0).block (entry_block g.0).found);
    loop_in = λ l is. let k = P.loops l is in let b = head_block (loop_fun l is) k.head k.among in subst (IsInCode p.code) k.address (in_code (loop_fun l is) k.head.label b.block b.found);
    entry_only = λ g l b done is found split busy h is_in at.
        let k = fun_at h is_in in let c = entry_block k.0 in
        let r = marked g k.0 l (entry k.0) b c.block done is found split busy c.found c.some (at ∙ sym k.1) in
        (ap (λ (z : BlockFunction). z.site.signature) r.0 ∙ k.2, r.1 ∙ ap (λ (z : BlockFunction). z.entry) (sym r.0), r.2);
    head_only = λ g l b done is found split busy x is_in at.
        let k = P.loops x is_in in let c = head_block (loop_fun x is_in) k.head k.among in
        let r = marked g (loop_fun x is_in) l k.head.label b c.block done is found split busy c.found c.some (at ∙ sym k.address) in
        (k.head, subst (λ (z : BlockFunction). Contains z.heads k.head) (sym r.0) k.among, r.1, r.2, ap (λ (z : BlockFunction). z.site.signature) r.0 ∙ k.signature, ap (λ (z : BlockFunction). z.site.site.locals) r.0 ∙ k.locals, k.invariant);
    test_only = λ g l b r y n found e.
        let long = test_size b r y n e in
        let same = insts_size_is p.labels (places g) b.insts in (
          λ h is_in at. let k = fun_at h is_in in let c = entry_block k.0 in
              middle g k.0 l (entry k.0) b c.block (insts_size b.insts + 2) found (omega arith) (omega arith) c.found c.some (omega (arith, at, k.1, same)),
          λ x is_in at. let k = P.loops x is_in in let c = head_block (loop_fun x is_in) k.head k.among in
              middle g (loop_fun x is_in) l k.head.label b c.block (insts_size b.insts + 2) found (omega arith) (omega arith) c.found c.some (omega (arith, at, k.address, same)),
        );
  }
