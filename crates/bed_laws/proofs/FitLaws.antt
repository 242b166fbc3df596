-- Blocks that fit: one block, and two lists one after the other.
use Rattle.std.proofs.Common.{◌≡◌, ◌≢◌, ℕ, zero, suc, ◌+◌, ◌<◌, ◌≤◌, Bool, true, false, Option, Some, None, IsSome, List, [], ◌∷◌, ◌++◌, length, nat_eq, if◌then◌else◌, Contains, append_assoc, inl, inr, ◌⊎◌, refl, sym, ◌∙◌, ap, subst, arith}
use Rattle.std.proofs.lemmas.Bool.Decides.{nat_tests}
use Rattle.std.proofs.lemmas.List.Elements.{Contains-append_left, Contains-append_right, Contains-append_cases}
use Rattle.bed_il.specs.declared.blocks.Inst.{Inst}
use Rattle.bed_il.specs.declared.blocks.Jump.{Jump}
use Rattle.bed_il.specs.declared.blocks.Jump.TheVariants.{Goto, Fall, Test, Register}
use Rattle.bed_il.specs.declared.blocks.Block.{Block}
use Rattle.bed_il.specs.BlockMachine.{block_at}
use Rattle.bed_il.specs.Fit.{back_labels, jump_labels, named_labels, AreDistinct, first_label, GoesOn, AllGoOn, LeavesOnce, Fit}
use Rattle.bed_laws.specs.Keeps.{LoopHead}
use Rattle.bed_laws.specs.Spans.{Spans}
use Rattle.bed_laws.specs.Lays.{behind}
use Rattle.bed_laws.proofs.SequenceLaws.{not_there, append_front, append_back, append_none}
use Rattle.bed_laws.proofs.RunLaws.{some_or_none}
use Rattle.bed_laws.proofs.TestLaws.{only_one}

-- what fits with nothing behind it fits with anything there
goes_on_more : (j : Jump) (after : Option ℕ) → GoesOn j None → GoesOn j after
goes_on_more (Goto l) after g = tt
goes_on_more (Fall l) after g = absurd cc
goes_on_more (Test r p q) after g = absurd cc
goes_on_more (Register r) after g = tt

all_go_on_more : (B : List Block) (after : Option ℕ) → AllGoOn B None → AllGoOn B after
all_go_on_more [] after g = tt
all_go_on_more (b ∷ []) after g = (goes_on_more b.jump after g.0, tt)
all_go_on_more (b ∷ d ∷ B) after g = (g.0, all_go_on_more (d ∷ B) after g.1)

none_some : {A : Type 0} {l : ℕ} → ◌≡◌ {A = Option ℕ} None (Some l) → A
none_some e = absurd cc

named_more : (B : List Block) (after : Option ℕ) (l : ℕ) → IsSome (block_at B l) ⊎ (◌≡◌ {A = Option ℕ} None (Some l)) → IsSome (block_at B l) ⊎ (after ≡ Some l)
named_more B after l (inl is) = inl is
named_more B after l (inr e) = none_some e

pub fit_more : (B : List Block) (after : Option ℕ) → Fit B None → Fit B after
fit_more B after f = record { distinct = f.distinct; named = λ l is. named_more B after l (f.named l is); go_on = all_go_on_more B after f.go_on; leave = f.leave }

-- so with a label behind it, whether or not control comes to its end
pub fit_behind : (B : List Block) (falls : Bool) (next : ℕ) → Fit B (behind falls next) → Fit B (Some next)
fit_behind B true next f = f
fit_behind B false next f = fit_more B (Some next) f

pub some_is : {A : Type 0} {o : Option A} {x : A} → o ≡ Some x → IsSome o
some_is {A = A} e = subst (λ (o : Option A). IsSome o) (sym e) refl

pub is_some_is : {A : Type 0} (o : Option A) → IsSome o → (x : A) × (o ≡ Some x)
is_some_is None is = absurd cc
is_some_is (Some x) is = (x, refl)

-- blocks fit among more blocks, which have these labels
pub record FitIn (L : ℕ → Type 0) (B : List Block) (after : Option ℕ) : Type 0 where
  pub distinct : AreDistinct B
  pub named : (l : ℕ) → Contains (named_labels B) l → IsSome (block_at B l) ⊎ ((after ≡ Some l) ⊎ L l)
  pub go_on : AllGoOn B after
  pub leave : (b : Block) → Contains B b → LeavesOnce b.jump b.insts

module _ (L : ℕ → Type 0) where
  in_named : (B : List Block) (after : Option ℕ) (l : ℕ) → IsSome (block_at B l) ⊎ (after ≡ Some l) → IsSome (block_at B l) ⊎ ((after ≡ Some l) ⊎ L l)
  in_named B after l (inl is) = inl is
  in_named B after l (inr e) = inr (inl e)

  pub fit_in : (B : List Block) (after : Option ℕ) → Fit B after → FitIn L B after
  fit_in B after f = record { distinct = f.distinct; named = λ l is. in_named B after l (f.named l is); go_on = f.go_on; leave = f.leave }

  of_named : (B : List Block) (after : Option ℕ) → ((l : ℕ) → L l → IsSome (block_at B l) ⊎ (after ≡ Some l)) → (l : ℕ) → IsSome (block_at B l) ⊎ ((after ≡ Some l) ⊎ L l) → IsSome (block_at B l) ⊎ (after ≡ Some l)
  of_named B after has l (inl is) = inl is
  of_named B after has l (inr (inl e)) = inr e
  of_named B after has l (inr (inr is)) = has l is

  -- where the labels are theirs after all, or that of what stands behind them, they fit
  pub fit_of : (B : List Block) (after : Option ℕ) → ((l : ℕ) → L l → IsSome (block_at B l) ⊎ (after ≡ Some l)) → FitIn L B after → Fit B after
  fit_of B after has f = record { distinct = f.distinct; named = λ l is. of_named B after has l (f.named l is); go_on = f.go_on; leave = f.leave }

  -- ---- one block

  pub one_in : (b : Block) (after : Option ℕ) → ((l : ℕ) → Contains (back_labels b.insts ++ jump_labels b.jump) l → (after ≡ Some l) ⊎ L l) → GoesOn b.jump after → LeavesOnce b.jump b.insts → FitIn L (b ∷ []) after
  one_in b after named goes leaves = record {
    distinct = (refl, tt);
    named = λ l is. inr (elim (Contains-append_cases (back_labels b.insts ++ jump_labels b.jump) [] l is) [ inl p ↦ named l p | inr p ↦ (let lt = p.1 in absurd (omega arith)) ]);
    go_on = (goes, tt);
    leave = λ d is. subst (λ x. LeavesOnce x.jump x.insts) (only_one is) leaves;
  }

-- ---- two lists

-- a block of a list has its label there
pub contains_label : (B : List Block) (b : Block) → Contains B b → (d : Block) × (block_at B b.label ≡ Some d)
contains_label [] b is = let lt = is.1 in absurd (omega arith)
contains_label (d ∷ B) b (zero, lt, e) =
    let t : nat_eq d.label b.label ≡ true = (let same = ap (λ x. x.label) e in grind (arith, nat_tests)) in
    (d, rw t refl)
contains_label (d ∷ B) b (suc k, lt, e) =
    let r = contains_label B b (k, omega arith, e) in
    by_test (nat_eq d.label b.label) refl r
  where
    by_test : (t : Bool) → nat_eq d.label b.label ≡ t → ((x : Block) × (block_at B b.label ≡ Some x)) → (x : Block) × (block_at (d ∷ B) b.label ≡ Some x)
    by_test true t r = (d, rw t refl)
    by_test false t r = (r.0, rw t r.1)

distinct_append : (B C : List Block) → AreDistinct B → AreDistinct C → ((b : Block) → Contains B b → block_at C b.label ≡ None) → AreDistinct (B ++ C)
distinct_append [] C db dc apart = dc
distinct_append (b ∷ B) C db dc apart =
    (append_none B C b.label db.0 (apart b (zero, omega arith, refl)), distinct_append B C db.1 dc (λ d is. apart d (suc is.0, omega (arith, is.1), is.2)))

named_append : (B C : List Block) → named_labels (B ++ C) ≡ named_labels B ++ named_labels C
named_append [] C = refl
named_append (b ∷ B) C =
    ap (λ ls. (back_labels b.insts ++ jump_labels b.jump) ++ ls) (named_append B C)
    ∙ sym (append_assoc (back_labels b.insts ++ jump_labels b.jump) (named_labels B) (named_labels C))

first_append : (B C : List Block) (after : Option ℕ) (mid : ℕ) → first_label C after ≡ Some mid → first_label (B ++ C) after ≡ first_label B (Some mid)
first_append [] C after mid e = e
first_append (b ∷ B) C after mid e = refl

go_on_append : (B C : List Block) (after : Option ℕ) (mid : ℕ) → first_label C after ≡ Some mid → AllGoOn B (Some mid) → AllGoOn C after → AllGoOn (B ++ C) after
go_on_append [] C after mid e gb gc = gc
go_on_append (b ∷ B) C after mid e gb gc = (subst (GoesOn b.jump) (sym (first_append B C after mid e)) gb.0, go_on_append B C after mid e gb.1 gc)

pub some_left : (B C : List Block) (l : ℕ) → IsSome (block_at B l) → IsSome (block_at (B ++ C) l)
some_left B C l is = let r = is_some_is _ is in some_is (append_front B C l r.0 r.1)

pub some_right : (B C : List Block) (l : ℕ) → IsSome (block_at C l) → IsSome (block_at (B ++ C) l)
some_right B C l is = elim (some_or_none (block_at B l)) [
  | inl none ↦ (let r = is_some_is _ is in some_is (append_back B C l r.0 none r.1))
  | inr some ↦ some_is (append_front B C l some.0 some.1)
]

-- a list that fits before the label with which another begins, and that other
pub fit_append : (L : ℕ → Type 0) (B C : List Block) (hb hc : List LoopHead) (lo mid hi : ℕ) (after : Option ℕ) → Spans B hb lo mid → Spans C hc mid hi → first_label C after ≡ Some mid → IsSome (block_at C mid)
    → FitIn L B (Some mid) → FitIn L C after → FitIn L (B ++ C) after
fit_append L B C hb hc lo mid hi after sb sc begins has fb fc = record {
  distinct = distinct_append B C fb.distinct fc.distinct (λ b is. let r = contains_label B b is in let i = sb.blocks_in b.label r.0 r.1 in not_there sc b.label (inl i.1));
  named = λ l is. elim (Contains-append_cases (named_labels B) (named_labels C) l (subst (λ ls. Contains ls l) (named_append B C) is)) [
    | inl p ↦ from_front l (fb.named l p)
    | inr p ↦ from_back l (fc.named l p)
  ];
  go_on = go_on_append B C after mid begins fb.go_on fc.go_on;
  leave = λ b is. elim (Contains-append_cases B C b is) [ inl p ↦ fb.leave b p | inr p ↦ fc.leave b p ];
}
  where
    some_inj : {x y : ℕ} → ◌≡◌ {A = Option ℕ} (Some x) (Some y) → x ≡ y
    some_inj e = cc

    from_front : (l : ℕ) → IsSome (block_at B l) ⊎ ((◌≡◌ {A = Option ℕ} (Some mid) (Some l)) ⊎ L l) → IsSome (block_at (B ++ C) l) ⊎ ((after ≡ Some l) ⊎ L l)
    from_front l (inl is) = inl (some_left B C l is)
    from_front l (inr (inl e)) = inl (some_right B C l (subst (λ k. IsSome (block_at C k)) (some_inj e) has))
    from_front l (inr (inr is)) = inr (inr is)

    from_back : (l : ℕ) → IsSome (block_at C l) ⊎ ((after ≡ Some l) ⊎ L l) → IsSome (block_at (B ++ C) l) ⊎ ((after ≡ Some l) ⊎ L l)
    from_back l (inl is) = inl (some_right B C l is)
    from_back l (inr e) = inr e
