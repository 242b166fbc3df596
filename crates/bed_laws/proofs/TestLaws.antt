-- Tests, and assertions that are met at the end of a path.
use Rattle.std.proofs.Common.{◌≡◌, ◌≢◌, ℕ, zero, suc, ◌+◌, ◌<◌, ◌≤◌, Bool, true, false, not, IsTrue, Option, Some, None, List, [], ◌∷◌, nat_eq, if◌then◌else◌, Contains, inl, inr, ◌⊎◌, refl, sym, ◌∙◌, ap, subst, arith}
use Rattle.std.proofs.lemmas.Bool.Decides.{nat_tests}
use Rattle.std.proofs.lemmas.Bool.{cases_Bool}
use Rattle.bed_machine.specs.Memory.{Memory}
use Rattle.bed_lang.specs.declared.logic.Assertion.{Assertion}
use Rattle.bed_lang.specs.declared.module.Operand.{Operand}
use Rattle.bed_lang.specs.declared.module.Rel.{Rel}
use Rattle.bed_lang.specs.declared.module.Rel.TheVariants.{Equal, Unequal, Less, AtMost}
use Rattle.bed_lang.specs.declared.module.Test.{Test}
use Rattle.bed_lang.specs.declared.module.Action.TheVariants.{Assume}
use Rattle.bed_lang.specs.declared.condition.Goal.TheVariants.{Meets}
use Rattle.bed_lang.specs.Values.{Values}
use Rattle.bed_sat.specs.Parts.{Includes}
use Rattle.bed_sat.specs.Assertions.{World, Holds}
use Rattle.bed_sat.specs.Valid.{AreRelated, operand_value, IsTrueTest, After}
use Rattle.bed_sat.specs.Conditions.{Path, path_from, negated, turned, where_true, condition, met}
use Rattle.bed_il.specs.declared.blocks.Scratch.TheVariants.{First, Second}
use Rattle.bed_il.specs.declared.blocks.Block.{Block}
use Rattle.bed_il.specs.BlockMachine.{BlockState, block_at, at_label, compares, set_scratch}
use Rattle.bed_laws.specs.Activations.{FunctionSite, Activation, IsStateOf}
use Rattle.bed_laws.specs.Described.{StartHolds, IsSure, AreSure, Describes}
use Rattle.bed_laws.specs.Keeps.{LoopHead, IsAtHead, IsNow, Turns, Safe, Reaches, AllHold}
use Rattle.bed_laws.specs.Spans.{Spans}
use Rattle.bed_laws.specs.StatementBlocks.{IsKnown, test_block}
use Rattle.bed_laws.proofs.PathLaws.{after_more, after_leads, leads_more, starts_more}
use Rattle.bed_laws.proofs.SlotLaws.{fetch, memory_rest}
use Rattle.bed_laws.proofs.StraightLaws.{straight, after_inst}

-- ---- one block

pub one_block : (b : Block) → block_at (b ∷ []) b.label ≡ Some b
one_block b = let e : nat_eq b.label b.label ≡ true = grind (arith, nat_tests) in rw e refl

one_if : (b d : Block) (t : Bool) → ◌≡◌ {A = Option Block} (if t then Some b else None) (Some d) → t ≡ true
one_if b d true e = refl
one_if b d false e = absurd cc

pub one_label : (b : Block) (l : ℕ) (d : Block) → block_at (b ∷ []) l ≡ Some d → b.label ≡ l
one_label b l d e = let t : nat_eq b.label l ≡ true = one_if b d _ e in grind (arith, nat_tests)

pub no_heads : {A : Type 0} (x : LoopHead) → Contains [] x → A
no_heads x is = let lt = is.1 in absurd (omega arith)

pub only_one : {A : Type 0} {x y : A} → Contains (x ∷ []) y → x ≡ y
only_one (zero, lt, e) = e
only_one (suc k, lt, e) = absurd (omega arith)

pub one_span : (b : Block) (heads : List LoopHead) → ((x : LoopHead) → Contains heads x → x.label ≡ b.label) → Spans (b ∷ []) heads b.label (b.label + 1)
one_span b heads own = record {
  blocks_in = λ l d e. let same : b.label ≡ l = one_label b l d e in omega arith;
  heads_in = λ x is. let same = own x is in omega arith;
}

-- ---- tests

tells_true : (r : Rel) (a b : ℕ) → compares r a b ≡ true → AreRelated r a b
tells_true Equal a b e = grind (arith, nat_tests)
tells_true Unequal a b e = grind (arith, nat_tests)
tells_true Less a b e = grind (arith, nat_tests)
tells_true AtMost a b e = grind (arith, nat_tests)

tells_false : (labels : List ℕ → ℕ) (ν : Values) (r : Rel) (at : ℕ) (a b : Operand) → compares r (operand_value labels ν a) (operand_value labels ν b) ≡ false → IsTrueTest labels ν (turned r at a b)
tells_false labels ν Equal at a b e = grind (arith, nat_tests)
tells_false labels ν Unequal at a b e = grind (arith, nat_tests)
tells_false labels ν Less at a b e = grind (arith, nat_tests)
tells_false labels ν AtMost at a b e = grind (arith, nat_tests)

no : ◌≡◌ {A = Bool} false true → ⊥
no e = cc

-- a description speaks of sp and memory alone
pub describes_at : {w : World} {c : FunctionSite} {a : Activation} {p : Path} {s : BlockState} (l : ℕ) → Describes w c a p s → Describes w c a p (at_label l s)
describes_at l d = record { values0 = d.values0; heap0 = d.heap0; starts = d.starts; values = d.values; heap = d.heap; leads = d.leads; state = record { sp = d.state.sp; memory = d.state.memory } }

module _ (w : World) (c : FunctionSite) (places : ℕ → ℕ) where
  -- what a condition that ends in an assertion gives
  meets : (place : ℕ) (p : Path) (A : Assertion) → AllHold w c (condition c.site place (Meets A) p ∷ []) → (ν : Values) (h : Memory) → StartHolds w c p ν h → After w.labels p.actions (λ μ g. Holds w μ g A) ν h
  meets place p A valid ν h st = valid (condition c.site place (Meets A) p) (zero, omega arith, refl) ν h (record { holds = st.holds; entry = st.entry })

  pub meets_sure : (place : ℕ) (p : Path) (A : Assertion) → AllHold w c (condition c.site place (Meets A) p ∷ []) → IsSure w c p
  meets_sure place p A valid ν h st = after_more w p.actions _ _ (λ μ g q. tt) ν h (meets place p A valid ν h st)

  pub meets_head : (place : ℕ) (p : Path) (A : Assertion) → AllHold w c (condition c.site place (Meets A) p ∷ []) → (a : Activation) (s : BlockState) → Describes w c a p s → IsAtHead w c a A s
  meets_head place p A valid a s d = record { values = d.values; heap = d.heap; state = d.state; holds = after_leads w p.actions _ d.values0 d.heap0 d.values d.heap (meets place p A valid d.values0 d.heap0 d.starts) d.leads }

  -- the same where the path may not be there
  pub met_sure : (place : ℕ) (o : Option Path) (A : Assertion) → AllHold w c (met c.site place A o) → AreSure w c o
  met_sure place None A valid = tt
  met_sure place (Some p) A valid = meets_sure place p A valid

  pub met_head : (place : ℕ) (o : Option Path) (A : Assertion) → AllHold w c (met c.site place A o) → (label : ℕ) (a : Activation) (s : BlockState) → Reaches w c label o a s → IsAtHead w c a A s
  met_head place None A valid label a s r = absurd r
  met_head place (Some p) A valid label a s r = meets_head place p A valid a s r.2

  -- a state at which an assertion holds is described by the path that starts from it
  pub describes_from : (A : Assertion) (a : Activation) (s : BlockState) → IsAtHead w c a A s → Describes w c a (path_from A) s
  describes_from A a s h = record {
    values0 = h.values;
    heap0 = h.heap;
    starts = record { holds = h.holds; entry = λ e. absurd (no e) };
    values = h.values;
    heap = h.heap;
    leads = (refl, refl);
    state = h.state;
  }

  -- and where a test is true, by that path with the test
  pub describes_start : (A : Assertion) (t : Test) (a : Activation) (ν : Values) (h : Memory) (s : BlockState) → Holds w ν h A → IsStateOf c a ν h s → IsTrueTest w.labels ν t → Describes w c a (where_true t (path_from A)) s
  describes_start A t a ν h s holds st is = record {
    values0 = ν;
    heap0 = h;
    starts = record { holds = holds; entry = λ e. absurd (no e) };
    values = ν;
    heap = h;
    leads = (is, (refl, refl));
    state = st;
  }

  -- a state that a path describes, where a test is true, is described by the path with the test
  pub describes_true : (t : Test) (from : Path) (a : Activation) (s u : BlockState) (d : Describes w c a from s) → IsStateOf c a d.values d.heap u → IsTrueTest w.labels d.values t → Describes w c a (where_true t from) u
  describes_true t from a s u d st is = record {
    values0 = d.values0;
    heap0 = d.heap0;
    starts = starts_more w c from (Assume t ∷ []) d.values0 d.heap0 d.starts;
    values = d.values;
    heap = d.heap;
    leads = leads_more w from.actions (Assume t ∷ []) d.values0 d.heap0 d.values d.heap d.values d.heap d.leads (is, (refl, refl));
    state = st;
  }

  -- a test goes to one of two labels
  module _ (t : Test) (left_known : IsKnown c.site.locals t.left) (right_known : IsKnown c.site.locals t.right) (first true_label false_label : ℕ) where
    abbrev block : Block
    block = test_block c.site.locals t first true_label false_label

    pub test_safe : (C : List Block) (heads : List LoopHead) (a : Activation) (Q : BlockState → Type 0) → block_at C first ≡ Some block
        → (n : ℕ) (ν : Values) (h : Memory) (s : BlockState) → s.label ≡ first → s.next ≡ 0 → IsStateOf c a ν h s
        → ((x : LoopHead) → Contains heads x → first ≡ x.label → s.next ≡ 0 → IsAtHead w c a x.invariant s)
        → ((m : ℕ) → m < n → (u : BlockState) → u.label ≡ true_label → u.next ≡ 0 → IsStateOf c a ν h u → IsTrueTest w.labels ν t → Safe w c places C heads a Q m u)
        → ((m : ℕ) → m < n → (u : BlockState) → u.label ≡ false_label → u.next ≡ 0 → IsStateOf c a ν h u → IsTrueTest w.labels ν (negated t) → Safe w c places C heads a Q m u)
        → Safe w c places C heads a Q n s
    test_safe C heads a Q found n ν h s at next st head on_true on_false =
        let vl = operand_value w.labels ν t.left in
        let vr = operand_value w.labels ν t.right in
        let rest = memory_rest st.memory in
        let s1 : BlockState = after_inst (set_scratch First vl s) in
        let st1 : IsStateOf c a ν h s1 = record { sp = st.sp; memory = st.memory } in
        let s2 : BlockState = after_inst (set_scratch Second vr s1) in
        straight w c places C heads a Q block found n [] block.insts s refl at next head (
          rest,
          set_scratch First vl s,
          fetch w c places a First t.left ν h s st left_known,
          (
            rest,
            set_scratch Second vr s1,
            fetch w c places a Second t.right ν h s1 st1 right_known,
            (
              rest,
              λ m lt. elim (cases_Bool (compares t.rel vl vr)) [
                | inl e ↦ subst (λ b. Safe w c places C heads a Q m (at_label (if b then true_label else false_label) s2)) (sym e)
                    (on_true m lt (at_label true_label s2) refl refl (record { sp = st.sp; memory = st.memory }) (tells_true t.rel vl vr e))
                | inr e ↦ subst (λ b. Safe w c places C heads a Q m (at_label (if b then true_label else false_label) s2)) (sym e)
                    (on_false m lt (at_label false_label s2) refl refl (record { sp = st.sp; memory = st.memory }) (tells_false w.labels ν t.rel t.at t.left t.right e))
              ],
            ),
          ),
        )
