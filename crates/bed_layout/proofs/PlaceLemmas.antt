-- Blocks in code, by the addresses of their labels.
use Rattle.std.proofs.Common.{◌≡◌, ◌≢◌, ℕ, zero, suc, ◌+◌, ◌<◌, ◌≤◌, Bool, true, false, nat_eq, if◌then◌else◌, Option, Some, None, List, [], ◌∷◌, ◌++◌, length, Contains, inl, inr, ◌⊎◌, refl, sym, ◌∙◌, ap, ap₂, subst, arith}
use Rattle.std.proofs.lemmas.Bool.Decides.{nat_tests}
use Rattle.bed_machine.specs.MachineCode.{MachineCode}
use Rattle.bed_il.specs.declared.blocks.Inst.{Inst}
use Rattle.bed_il.specs.declared.blocks.Jump.{Jump}
use Rattle.bed_il.specs.declared.blocks.Jump.TheVariants.{Goto, Fall, Test, Register}
use Rattle.bed_il.specs.declared.blocks.Block.{Block}
use Rattle.bed_il.specs.BlockMachine.{block_at}
use Rattle.bed_il.specs.Bytes.{ins_of, block_bytes, laid}
use Rattle.bed_il.specs.Places.{inst_size, insts_size, jump_size, block_size, blocks_size, place_of}
use Rattle.bed_il.specs.Fit.{AreDistinct, first_label, GoesOn, AllGoOn}
use Rattle.bed_il.proofs.PlaceLaws.{block_size_is, place_first, place_other}
use Rattle.bed_machine.proofs.InstructionLaws.{row_size}
use Rattle.bed_sat.proofs.LaidLaws.{HasAt, has_front, has_back}

pub some_same : {A : Type 0} {x y : A} → ◌≡◌ {A = Option A} (Some x) (Some y) → x ≡ y
some_same e = cc

pub none_some : {A : Type 0} {x : A} → ◌≡◌ {A = Option A} None (Some x) → ⊥
none_some e = cc

-- an instruction or a jump that has bytes is next
abbrev pub IsBusy : List Inst → Jump → Type 0
IsBusy (i ∷ is) j = Unit {0}
IsBusy [] (Fall l) = ⊥
IsBusy [] (Goto l) = Unit {0}
IsBusy [] (Test r p q) = Unit {0}
IsBusy [] (Register r) = Unit {0}

-- a found block is the first, or another
pub found_cases : (b : Block) (bs : List Block) (l : ℕ) (d : Block) → block_at (b ∷ bs) l ≡ Some d → ((b.label ≡ l) × (b ≡ d)) ⊎ ((b.label ≢ l) × (block_at bs l ≡ Some d))
found_cases b bs l d e = by_test (nat_eq b.label l) refl
  where
    by_test : (t : Bool) → nat_eq b.label l ≡ t → ((b.label ≡ l) × (b ≡ d)) ⊎ ((b.label ≢ l) × (block_at bs l ≡ Some d))
    by_test true t = inl (grind (arith, nat_tests), some_same (sym (rw t refl) ∙ e))
    by_test false t = inr (grind (arith, nat_tests), sym (rw t refl) ∙ e)

-- it is among the blocks
pub found_among : (B : List Block) (l : ℕ) (b : Block) → block_at B l ≡ Some b → Contains B b
found_among [] l b found = absurd (none_some found)
found_among (d ∷ B) l b found = elim (found_cases d B l b found) [
  | inl r ↦ (zero, omega arith, r.1)
  | inr r ↦ (let m = found_among B l b r.1 in (suc m.0, omega (arith, m.1), m.2))
]

-- each block stands at its label's address
pub block_has : (functions : List ℕ → ℕ) (places : ℕ → ℕ) (c : MachineCode) (B : List Block) (x l : ℕ) (b : Block) → HasAt c x (laid functions places B x) → block_at B l ≡ Some b
    → HasAt c (place_of B x l) (block_bytes functions places b (place_of B x l))
block_has functions places c [] x l b has found = absurd (none_some found)
block_has functions places c (d ∷ bs) x l b has found = elim (found_cases d bs l b found) [
  | inl r ↦ (let at : place_of (d ∷ bs) x l ≡ x = place_first d bs x l r.0 in
      subst (λ y. HasAt c y (block_bytes functions places b y)) (sym at) (subst (λ e. HasAt c x (block_bytes functions places e x)) r.1 (has_front (block_bytes functions places d x) _ has)))
  | inr r ↦ (let at : place_of (d ∷ bs) x l ≡ place_of bs (x + block_size d) l = place_other d bs x l r.0 in
      subst (λ y. HasAt c y (block_bytes functions places b y)) (sym at)
      (block_has functions places c bs (x + block_size d) l b
      (subst (λ k. HasAt c (x + k) (laid functions places bs (x + k))) (block_size_is functions places d x) (has_back (block_bytes functions places d x) (laid functions places bs (x + length (block_bytes functions places d x))) has)) r.1))
]

-- at or after the first address
pub place_low : (B : List Block) (x l : ℕ) → x ≤ place_of B x l
place_low [] x l = omega arith
place_low (b ∷ bs) x l = by_test (nat_eq b.label l) (place_low bs (x + block_size b) l)
  where
    by_test : (t : Bool) → x + block_size b ≤ place_of bs (x + block_size b) l → x ≤ (if t then x else place_of bs (x + block_size b) l)
    by_test true le = omega arith
    by_test false le = omega arith

-- how many blocks stand from a label on
abbrev pub rank_of : List Block → ℕ → ℕ
rank_of [] l = 0
rank_of (b ∷ bs) l = if nat_eq b.label l then suc (length bs) else rank_of bs l

rank_first : (b : Block) (bs : List Block) (l : ℕ) → b.label ≡ l → rank_of (b ∷ bs) l ≡ suc (length bs)
rank_first b bs l e = let t : nat_eq b.label l ≡ true = grind (arith, nat_tests) in rw t refl

rank_other : (b : Block) (bs : List Block) (l : ℕ) → b.label ≢ l → rank_of (b ∷ bs) l ≡ rank_of bs l
rank_other b bs l ne = let t : nat_eq b.label l ≡ false = grind (arith, nat_tests) in rw t refl

-- the block right after: its label's address, and that one stands there
pub record After (B : List Block) (x : ℕ) (l : ℕ) (b : Block) (k : ℕ) : Type 0 where
  pub block : Block
  pub found : block_at B k ≡ Some block
  pub place : place_of B x k ≡ place_of B x l + block_size b
  pub nearer : rank_of B k < rank_of B l

first_next : (bs : List Block) (k : ℕ) → first_label bs None ≡ Some k → (c : Block) × (block_at bs k ≡ Some c) × ((x : ℕ) → place_of bs x k ≡ x) × (rank_of bs k ≡ length bs)
first_next [] k is = absurd (none_some is)
first_next (c ∷ bs) k is =
    let same : c.label ≡ k = some_same is in
    let t : nat_eq c.label k ≡ true = grind (arith, nat_tests) in
    (c, rw t refl, λ x. place_first c bs x k same, rank_first c bs k same)

-- which label a jump goes on at, without a jump
abbrev pub GoesOnAt : Jump → ℕ → Type 0
GoesOnAt (Fall l) k = l ≡ k
GoesOnAt (Test r p q) k = p ≡ k
GoesOnAt (Goto l) k = ⊥
GoesOnAt (Register r) k = ⊥

next_is : (j : Jump) (o : Option ℕ) (k : ℕ) → GoesOn j o → GoesOnAt j k → o ≡ Some k
next_is (Fall l) o k g e = g ∙ ap Some e
next_is (Test r p q) o k g e = g ∙ ap Some e
next_is (Goto l) o k g e = absurd e
next_is (Register r) o k g e = absurd e

pub after_next : (B : List Block) (x l : ℕ) (b : Block) (k : ℕ) → AreDistinct B → AllGoOn B None → block_at B l ≡ Some b → GoesOnAt b.jump k → After B x l b k
after_next [] x l b k distinct on found next = absurd (none_some found)
after_next (d ∷ bs) x l b k distinct on found next = elim (found_cases d bs l b found) [
  | inl r ↦ (let n = first_next bs k (next_is d.jump (first_label bs None) k on.0 (subst (λ e. GoesOnAt e.jump k) (sym r.1) next)) in
      let other : d.label ≢ k = (λ e. none_some (sym distinct.0 ∙ subst (λ z. block_at bs z ≡ Some n.0) (sym e) n.1)) in
      record {
        block = n.0;
        found = (let t : nat_eq d.label k ≡ false = grind (arith, nat_tests) in rw t n.1);
        place = place_other d bs x k other ∙ n.2 (x + block_size d) ∙ ap₂ (λ a c. a + block_size c) (sym (place_first d bs x l r.0)) r.1;
        nearer = omega (arith, rank_other d bs k other, rank_first d bs l r.0, n.3);
      })
  | inr r ↦ (let m = after_next bs (x + block_size d) l b k distinct.1 on.1 r.1 next in
      let other : d.label ≢ k = (λ e. none_some (sym distinct.0 ∙ subst (λ z. block_at bs z ≡ Some m.block) (sym e) m.found)) in
      record {
        block = m.block;
        found = (let t : nat_eq d.label k ≡ false = grind (arith, nat_tests) in rw t m.found);
        place = place_other d bs x k other ∙ m.place ∙ ap (λ a. a + block_size b) (sym (place_other d bs x l r.0));
        nearer = omega (arith, rank_other d bs k other, rank_other d bs l r.0, m.nearer);
      })
]

-- an instruction has bytes
pub inst_positive : (i : Inst) → 0 < inst_size i
inst_positive i = (row_size (ins_of (λ f. 0) (λ l. 0) i)).0

size_append : (is js : List Inst) → insts_size (is ++ js) ≡ insts_size is + insts_size js
size_append [] js = let e : insts_size js ≡ 0 + insts_size js = omega arith in e
size_append (i ∷ is) js = let e = size_append is js in omega arith

size_zero : (is : List Inst) → insts_size is ≡ 0 → length is ≡ 0
size_zero [] e = refl
size_zero (i ∷ is) e = let p = inst_positive i in absurd (omega arith)

rest_positive : (is : List Inst) (j : Jump) → IsBusy is j → 0 < insts_size is + jump_size j
rest_positive (i ∷ is) j busy = let p = inst_positive i in omega arith
rest_positive [] (Goto l) busy = omega arith
rest_positive [] (Fall l) busy = absurd busy
rest_positive [] (Test r p q) busy = omega arith
rest_positive [] (Register r) busy = omega arith

busy_less : (b : Block) (done is : List Inst) → b.insts ≡ done ++ is → IsBusy is b.jump → insts_size done < block_size b
busy_less b done is split busy = let p = rest_positive is b.jump busy in omega (arith, ap insts_size split, size_append done is)

pub marked_positive : (b : Block) → b.insts ≢ [] → 0 < block_size b
marked_positive b some = go b.insts some
  where
    go : (is : List Inst) → is ≢ [] → 0 < insts_size is + jump_size b.jump
    go [] some = absurd (some refl)
    go (i ∷ is) some = let p = inst_positive i in omega arith

-- an address with something to do, and the first address of a block that has instructions, are the same only where they are
pub only_place : (B : List Block) (x l : ℕ) (b : Block) (done is : List Inst) → block_at B l ≡ Some b → b.insts ≡ done ++ is → IsBusy is b.jump
    → (k : ℕ) (c : Block) → block_at B k ≡ Some c → c.insts ≢ [] → place_of B x l + insts_size done ≡ place_of B x k → (l ≡ k) × (length done ≡ 0)
only_place [] x l b done is found split busy k c found2 some at = absurd (none_some found)
only_place (d ∷ bs) x l b done is found split busy k c found2 some at = elim (found_cases d bs l b found) [
  | inl r ↦ elim (found_cases d bs k c found2) [
    | inl q ↦ (sym r.0 ∙ q.0, size_zero done (omega (arith, at, place_first d bs x l r.0, place_first d bs x k q.0)))
    | inr q ↦ (let less = busy_less b done is split busy in let same : block_size d ≡ block_size b = ap block_size r.1 in
        absurd (omega (arith, at, place_first d bs x l r.0, place_other d bs x k q.0, place_low bs (x + block_size d) k)))
  ]
  | inr r ↦ elim (found_cases d bs k c found2) [
    | inl q ↦ (let pos = marked_positive c some in let same : block_size d ≡ block_size c = ap block_size q.1 in
        absurd (omega (arith, at, place_other d bs x l r.0, place_first d bs x k q.0, place_low bs (x + block_size d) l)))
    | inr q ↦ only_place bs (x + block_size d) l b done is r.1 split busy k c q.1 some (sym (ap (λ a. a + insts_size done) (place_other d bs x l r.0)) ∙ at ∙ place_other d bs x k q.0)
  ]
]

-- it is within the blocks
pub place_within : (B : List Block) (x l : ℕ) (b : Block) (done is : List Inst) → block_at B l ≡ Some b → b.insts ≡ done ++ is → IsBusy is b.jump → place_of B x l + insts_size done < x + blocks_size B
place_within [] x l b done is found split busy = absurd (none_some found)
place_within (d ∷ bs) x l b done is found split busy = elim (found_cases d bs l b found) [
  | inl r ↦ (let less = busy_less b done is split busy in let same : block_size d ≡ block_size b = ap block_size r.1 in omega (arith, place_first d bs x l r.0))
  | inr r ↦ (let m = place_within bs (x + block_size d) l b done is r.1 split busy in omega (arith, place_other d bs x l r.0))
]

-- an address inside a block is the first address of none that has bytes
pub inside_not : (B : List Block) (x l : ℕ) (b : Block) (d : ℕ) → block_at B l ≡ Some b → 0 < d → d < block_size b
    → (k : ℕ) (c : Block) → block_at B k ≡ Some c → 0 < block_size c → place_of B x l + d ≡ place_of B x k → ⊥
inside_not [] x l b d found pos less k c found2 some at = none_some found
inside_not (e ∷ bs) x l b d found pos less k c found2 some at = elim (found_cases e bs l b found) [
  | inl r ↦ elim (found_cases e bs k c found2) [
    | inl q ↦ omega (arith, at, place_first e bs x l r.0, place_first e bs x k q.0)
    | inr q ↦ (let same : block_size e ≡ block_size b = ap block_size r.1 in omega (arith, at, place_first e bs x l r.0, place_other e bs x k q.0, place_low bs (x + block_size e) k))
  ]
  | inr r ↦ elim (found_cases e bs k c found2) [
    | inl q ↦ (let same : block_size e ≡ block_size c = ap block_size q.1 in omega (arith, at, place_other e bs x l r.0, place_first e bs x k q.0, place_low bs (x + block_size e) l))
    | inr q ↦ inside_not bs (x + block_size e) l b d r.1 pos less k c q.1 some (sym (ap (λ a. a + d) (place_other e bs x l r.0)) ∙ at ∙ place_other e bs x k q.0)
  ]
]

pub inside_within : (B : List Block) (x l : ℕ) (b : Block) (d : ℕ) → block_at B l ≡ Some b → d < block_size b → place_of B x l + d < x + blocks_size B
inside_within [] x l b d found less = absurd (none_some found)
inside_within (e ∷ bs) x l b d found less = elim (found_cases e bs l b found) [
  | inl r ↦ (let same : block_size e ≡ block_size b = ap block_size r.1 in omega (arith, place_first e bs x l r.0))
  | inr r ↦ (let m = inside_within bs (x + block_size e) l b d r.1 less in omega (arith, place_other e bs x l r.0))
]

-- a block's jump has bytes, or there are more blocks
jump_more : (j : Jump) (bs : List Block) → GoesOn j (first_label bs None) → (0 < jump_size j) ⊎ ((c : Block) × (cs : List Block) × (bs ≡ c ∷ cs))
jump_more (Goto l) bs g = inl (omega arith)
jump_more (Fall l) [] g = absurd (none_some g)
jump_more (Fall l) (c ∷ cs) g = inr (c, cs, refl)
jump_more (Test r p q) bs g = inl (omega arith)
jump_more (Register r) bs g = inl (omega arith)

-- so blocks have bytes, where nothing stands right after them
pub blocks_positive : (e : Block) (bs : List Block) → AllGoOn (e ∷ bs) None → 0 < blocks_size (e ∷ bs)
blocks_positive e [] on = elim (jump_more e.jump [] on.0) [ inl p ↦ omega arith | inr p ↦ absurd (nil_cons p.2) ]
  where
    nil_cons : {c : Block} {cs : List Block} → ◌≡◌ {A = List Block} [] (c ∷ cs) → ⊥
    nil_cons q = cc
blocks_positive e (d ∷ bs) on = let m = blocks_positive d bs on.1 in omega arith

jump_or_more : (e : Block) (bs : List Block) → AllGoOn (e ∷ bs) None → (0 < jump_size e.jump) ⊎ (0 < blocks_size bs)
jump_or_more e [] on = elim (jump_more e.jump [] on.0) [ inl p ↦ inl p | inr p ↦ absurd (nil_cons p.2) ]
  where
    nil_cons : {c : Block} {cs : List Block} → ◌≡◌ {A = List Block} [] (c ∷ cs) → ⊥
    nil_cons q = cc
jump_or_more e (d ∷ bs) on = inr (blocks_positive d bs on.1)

-- the last block has bytes, so each label is below the end
pub label_within : (B : List Block) (x l : ℕ) (b : Block) → AllGoOn B None → block_at B l ≡ Some b → place_of B x l < x + blocks_size B
label_within [] x l b on found = absurd (none_some found)
label_within (e ∷ bs) x l b on found = elim (found_cases e bs l b found) [
  | inl r ↦ (let pos = blocks_positive e bs on in omega (arith, place_first e bs x l r.0))
  | inr r ↦ (let m = label_within bs (x + block_size e) l b on.1 r.1 in omega (arith, place_other e bs x l r.0))
]

-- the address after an instruction is within the blocks too
pub next_within : (B : List Block) (x l : ℕ) (b : Block) (done : List Inst) (i : Inst) (is : List Inst) → AllGoOn B None → block_at B l ≡ Some b → b.insts ≡ done ++ (i ∷ is)
    → place_of B x l + insts_size done + inst_size i < x + blocks_size B
next_within [] x l b done i is on found split = absurd (none_some found)
next_within (e ∷ bs) x l b done i is on found split = elim (found_cases e bs l b found) [
  | inl r ↦ (let same : block_size e ≡ block_size b = ap block_size r.1 in
      let insts : insts_size e.insts ≡ insts_size done + (inst_size i + insts_size is) = ap (λ z. insts_size z.insts) r.1 ∙ ap insts_size split ∙ size_append done (i ∷ is) in
      elim (jump_or_more e bs on) [
        | inl pos ↦ omega (arith, place_first e bs x l r.0)
        | inr pos ↦ omega (arith, place_first e bs x l r.0)
      ])
  | inr r ↦ (let m = next_within bs (x + block_size e) l b done i is on.1 r.1 split in omega (arith, place_other e bs x l r.0))
]
