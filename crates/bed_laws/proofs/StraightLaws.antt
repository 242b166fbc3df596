-- Instructions made one after the other in a block.
use Rattle.std.proofs.Common.{◌≡◌, ℕ, zero, suc, ◌+◌, ◌<◌, Option, Some, None, Result, Ok, Err, List, [], ◌∷◌, ◌++◌, length, slice_get, Contains, refl, sym, ◌∙◌, ap, ap₂, append_assoc, subst, arith, length-append}
use Rattle.std.proofs.lemmas.List.{append-nil}
use Rattle.bed_sat.specs.Parts.{Includes}
use Rattle.bed_sat.specs.Assertions.{World}
use Rattle.bed_il.specs.declared.blocks.Scratch.TheVariants.{First, Second}
use Rattle.bed_il.specs.declared.blocks.Value.TheVariants.{Number, Slot, Function}
use Rattle.bed_il.specs.declared.blocks.Inst.{Inst}
use Rattle.bed_il.specs.declared.blocks.Inst.TheVariants.{SaveReturn, Fetch, Keep, KeepAnswer, Apply, LoadWord, LoadByte, StoreWord, StoreByte, RaiseSp, LowerSp, ReturnTo, SetAnswer, TakeReturn}
use Rattle.bed_il.specs.declared.blocks.Block.{Block}
use Rattle.bed_il.specs.BlockMachine.{BlockState, il_move, effect, block_at, in_blocks, in_block, to_next, follows, on_access}
use Rattle.bed_laws.specs.Activations.{FunctionSite, Activation}
use Rattle.bed_laws.specs.Keeps.{LoopHead, IsNow, IsAtHead, Turns, Safe}

pub get_middle : {A : Type 0} (xs : List A) (y : A) (ys : List A) → slice_get (xs ++ (y ∷ ys)) (length xs) ≡ Some y
get_middle [] y ys = refl
get_middle (x ∷ xs) y ys = get_middle xs y ys

pub get_end : {A : Type 0} (xs : List A) → slice_get xs (length xs) ≡ None
get_end [] = refl
get_end (x ∷ xs) = get_end xs

ok_same : {s t : BlockState} → ◌≡◌ {A = Result BlockState ℕ} (Ok s) (Ok t) → s ≡ t
ok_same e = cc

err_ok : {t : BlockState} {x : ℕ} → ◌≡◌ {A = Result BlockState ℕ} (Err x) (Ok t) → ⊥
err_ok z = cc

ok_place : (s : BlockState) {u t : BlockState} → u.label ≡ s.label → u.next ≡ s.next → ◌≡◌ {A = Result BlockState ℕ} (Ok u) (Ok t) → (t.label ≡ s.label) × (t.next ≡ s.next)
ok_place s p q e = let same = ok_same e in (sym (ap (λ x. x.label) same) ∙ p, sym (ap (λ x. x.next) same) ∙ q)

abbrev pub after_inst : BlockState → BlockState
after_inst t = record t { next = t.next + 1 }

module _ (w : World) (places : ℕ → ℕ) where
  get_place : (o : Option ℕ) (x : ℕ) (f : ℕ → BlockState) (s t : BlockState) → ((v : ℕ) → (f v).label ≡ s.label) → ((v : ℕ) → (f v).next ≡ s.next) → on_access o x f ≡ Ok t → (t.label ≡ s.label) × (t.next ≡ s.next)
  get_place None x f s t p q e = absurd (err_ok e)
  get_place (Some v) x f s t p q e = ok_place s (p v) (q v) e

  -- an instruction keeps the place
  pub effect_place : (i : Inst) (s t : BlockState) → effect w.labels places i s ≡ Ok t → (t.label ≡ s.label) × (t.next ≡ s.next)
  effect_place SaveReturn s t e = get_place _ _ _ s t (λ v. refl) (λ v. refl) e
  effect_place TakeReturn s t e = get_place _ _ _ s t (λ v. refl) (λ v. refl) e
  effect_place SetAnswer s t e = ok_place s refl refl e
  effect_place (Fetch First (Number n)) s t e = ok_place s refl refl e
  effect_place (Fetch Second (Number n)) s t e = ok_place s refl refl e
  effect_place (Fetch First (Slot d)) s t e = get_place _ _ _ s t (λ v. refl) (λ v. refl) e
  effect_place (Fetch Second (Slot d)) s t e = get_place _ _ _ s t (λ v. refl) (λ v. refl) e
  effect_place (Fetch First (Function f)) s t e = ok_place s refl refl e
  effect_place (Fetch Second (Function f)) s t e = ok_place s refl refl e
  effect_place (Apply o) s t e = ok_place s refl refl e
  effect_place (Keep d) s t e = get_place _ _ _ s t (λ v. refl) (λ v. refl) e
  effect_place (KeepAnswer d) s t e = get_place _ _ _ s t (λ v. refl) (λ v. refl) e
  effect_place (LoadWord d) s t e = get_place _ _ _ s t (λ v. refl) (λ v. refl) e
  effect_place (LoadByte d) s t e = get_place _ _ _ s t (λ v. refl) (λ v. refl) e
  effect_place (StoreWord d) s t e = get_place _ _ _ s t (λ v. refl) (λ v. refl) e
  effect_place (StoreByte d) s t e = get_place _ _ _ s t (λ v. refl) (λ v. refl) e
  effect_place (RaiseSp n) s t e = ok_place s refl refl e
  effect_place (LowerSp n) s t e = ok_place s refl refl e
  effect_place (ReturnTo l) s t e = ok_place s refl refl e

  module _ (a : Activation) where
    -- the rest stays while these instructions are made one after the other, none faults, and P holds at the end
    abbrev pub Runs : List Inst → (BlockState → Type 0) → BlockState → Type 0
    Runs [] P s = P s
    Runs (i ∷ is) P s = Includes s.memory a.rest × (t : BlockState) × (effect w.labels places i s ≡ Ok t) × Runs is P (after_inst t)

    pub runs_append : (is js : List Inst) (P : BlockState → Type 0) (s : BlockState) → Runs is (Runs js P) s → Runs (is ++ js) P s
    runs_append [] js P s r = r
    runs_append (i ∷ is) js P s r = (r.0, r.1, r.2, runs_append is js P (after_inst r.1) r.3)

    pub runs_more : (is : List Inst) (P P2 : BlockState → Type 0) → ((t : BlockState) → P t → P2 t) → (s : BlockState) → Runs is P s → Runs is P2 s
    runs_more [] P P2 f s r = f s r
    runs_more (i ∷ is) P P2 f s r = (r.0, r.1, r.2, runs_more is P P2 f (after_inst r.1) r.3)

module _ (w : World) (c : FunctionSite) (places : ℕ → ℕ) (B : List Block) (heads : List LoopHead) (a : Activation) (Q : BlockState → Type 0) where
  abbrev pub SafeHere : ℕ → BlockState → Type 0
  SafeHere n s = Safe w c places B heads a Q n s

  module _ (b : Block) (found : block_at B b.label ≡ Some b) where
    move_is : (s : BlockState) → s.label ≡ b.label → il_move w.labels places B s ≡ in_block w.labels places (slice_get b.insts s.next) b s
    move_is s e = ap (λ o. in_blocks w.labels places o s) (ap (block_at B) e ∙ found)

    -- inside a block no loop begins
    inside : (s : BlockState) → s.label ≡ b.label → Includes s.memory a.rest → ((x : LoopHead) → Contains heads x → b.label ≡ x.label → s.next ≡ 0 → IsAtHead w c a x.invariant s) → IsNow w c places B heads a Q s
    inside s e rest head = record {
      rest = rest;
      head = λ x is l n. head x is (sym e ∙ l) n;
      beyond = λ none. absurd (some_none (sym (ap (block_at B) e ∙ found) ∙ none));
    }
      where
        some_none : {A : Type 0} {x : A} → Some x ≡ None → ⊥
        some_none q = cc

    -- a block is safe where its instructions run, and then its jump is safe
    pub straight : (n : ℕ) (done is : List Inst) (s : BlockState) → b.insts ≡ done ++ is → s.label ≡ b.label → s.next ≡ length done
        → ((x : LoopHead) → Contains heads x → b.label ≡ x.label → s.next ≡ 0 → IsAtHead w c a x.invariant s)
        → Runs w places a is (λ t. Includes t.memory a.rest × ((m : ℕ) → m < n → Turns w c places B heads a Q (SafeHere m) (follows b.jump b.insts t) t)) s
        → SafeHere n s
    straight zero done [] s split e at head runs = inside s e runs.0 head
    straight zero done (i ∷ is) s split e at head runs = inside s e runs.0 head
    straight (suc n) done [] s split e at head runs =
        let end : slice_get b.insts s.next ≡ None = ap₂ slice_get (split ∙ append-nil done) at ∙ get_end done in
        (inside s e runs.0 head, subst (λ m. Turns w c places B heads a Q (SafeHere n) m s) (sym (move_is s e ∙ ap (λ o. in_block w.labels places o b s) end)) (runs.1 n (omega arith)))
    straight (suc n) done (i ∷ is) s split e at head runs =
        let here : slice_get b.insts s.next ≡ Some i = ap₂ slice_get split at ∙ get_middle done i is in
        let kept = effect_place w places i s runs.1 runs.2 in
        let then : SafeHere n (after_inst runs.1) = straight n (done ++ (i ∷ [])) is (after_inst runs.1)
        (split ∙ sym (append_assoc done (i ∷ []) is)) (kept.0 ∙ e) (omega (arith, kept.1, length-append done (i ∷ [])))
        (λ x is l z. absurd (omega arith))
        (runs_more w places a is _ _ (λ t p. (p.0, λ m lt. p.1 m (omega arith))) (after_inst runs.1) runs.3) in (
          inside s e runs.0 head,
          subst (λ m. Turns w c places B heads a Q (SafeHere n) m s)
              (sym (move_is s e ∙ ap (λ o. in_block w.labels places o b s) here ∙ ap to_next runs.2)) then,
        )
