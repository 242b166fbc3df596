-- The rules for facts are sound: where all premises of a node hold there are as many goals as children, and where these follow so
-- does the node's goal.
use Rattle.std.proofs.Common.{◌≡◌, ◌≢◌, ℕ, zero, suc, ◌+◌, ◌-◌, ◌<◌, ◌≤◌, ◌⊎◌, Bool, true, false, ◌==◌, not, if◌then◌else◌, List, [], ◌∷◌, ◌++◌, length, slice_get, Option, Some, None, refl, sym, ◌∙◌, subst, arith, inl, inr}
use Rattle.std.specs.Cmp.{unsigned_Decides}
use Rattle.std.proofs.lemmas.Bool.{and_parts, cases_lt}
use Rattle.bed_machine.specs.Memory.{Memory}
use Rattle.bed_machine.proofs.WordLaws.{some_same}
use Rattle.bed_lang.specs.declared.word.Word.{Word, Number, Add}
use Rattle.bed_lang.specs.declared.logic.Pure.{Pure}
use Rattle.bed_lang.specs.declared.logic.Pure.TheVariants.{Equal, Unequal, Less, AtMost, Same, Member, NonMember, Code}
use Rattle.bed_lang.specs.Numbers.{wrap}
use Rattle.bed_lang.specs.Values.{Values, value}
use Rattle.bed_lang.proofs.ValueLaws.{value-Number, value-Add, value-small}
use Rattle.bed_sat.specs.Facts.{IsTrueFact}
use Rattle.bed_sat.specs.Assertions.{World, meaning}
use Rattle.bed_deriv.specs.declared.derivation.DArg.{DArg}
use Rattle.bed_deriv.specs.declared.state.SymState.{SymState}
use Rattle.bed_deriv.specs.declared.state.Sequent.{Sequent}
use Rattle.bed_deriv.specs.Arguments.{numbered, at_number, number_at, fact_at, counts}
use Rattle.bed_deriv.specs.Checks.{Goals, with_fact}
use Rattle.bed_deriv.specs.PureRules.{hyp, norm, order, order_children, order_goals, cut, carry, split, contradiction, distinct, bound}
use Rattle.bed_check_pure.specs.States.{AreTrueFacts, StateHolds}
use Rattle.bed_check_pure.proofs.SameLaws.{not_equal, same_facts-true, one_true, not_both, by_norm-true}
use Rattle.bed_check_pure.proofs.AtomLaws.{bounded, listed_atom, listed_apart}
use Rattle.bed_check_pure.proofs.CheckLaws.{IsSoundCheck}

pub same_number : (m n : ℕ) → (m == n) ≡ true → m ≡ n
same_number m n = (unsigned_Decides m n).0

-- as many children as the count says
pub counted : (args : List DArg) (m n k : ℕ) → counts args m n k ≡ true → k ≡ n
counted args m n k e = sym (same_number n k (and_parts (length args == m) (n == k) e).1)

-- items are numbered from 1
pub numbered_is : {A : Type 0} (xs : List A) (n : ℕ) (x : A) → numbered xs n ≡ Some x → (n ≢ 0) × (slice_get xs (n - 1) ≡ Some x)
numbered_is {A} xs n x e = by (n == 0) (λ z. (unsigned_Decides n 0).1 z) e
  where
    by : (b : Bool) → (n ≡ 0 → b ≡ true) → (if b then None else slice_get xs (n - 1)) ≡ Some x → (n ≢ 0) × (slice_get xs (n - 1) ≡ Some x)
    by true d e = absurd (cc)
    by false d e = (λ z. absurd (let k = d z in cc), e)

pub numbered_at : {A : Type 0} (xs : List A) (n : Option ℕ) (x : A) → at_number xs n ≡ Some x → (k : ℕ) × (slice_get xs k ≡ Some x)
numbered_at xs None x e = absurd (cc)
numbered_at xs (Some n) x e = (n - 1, (numbered_is xs n x e).1)

module _ (w : World) (ν : Values) (h : Memory) where
  abbrev Is : Pure → Type 0
  Is = IsTrueFact w.codes w.labels ν

  abbrev V : Word → ℕ
  V = value w.labels ν

  abbrev IsSound : Sequent → ℕ → Goals → Type 0
  IsSound = IsSoundCheck w ν h

  -- a fact of a list is true
  pub listed_fact : (ps : List Pure) (i : ℕ) (p : Pure) → AreTrueFacts w ν ps → slice_get ps i ≡ Some p → Is p
  listed_fact [] i p t e = absurd (cc)
  listed_fact (x ∷ ps) zero p t e = subst (λ (z : Pure). Is z) (some_same e) t.0
  listed_fact (x ∷ ps) (suc i) p t e = listed_fact ps i p t.1 e

  -- the fact with a number is true where the state holds
  pub numbered_fact : (s : SymState) (n : ℕ) (p : Pure) → numbered s.facts n ≡ Some p → StateHolds w ν h s → Is p
  numbered_fact s n p at holds = listed_fact s.facts (n - 1) p holds.facts (numbered_is s.facts n p at).1

  -- and so is the one that an argument numbers
  pub fact_true : (s : SymState) (args : List DArg) (i : ℕ) (p : Pure) → fact_at s args i ≡ Some p → StateHolds w ν h s → Is p
  fact_true s args i p at holds = let (k, is) = numbered_at s.facts (number_at args i) p at in listed_fact s.facts k p holds.facts is

  facts_with : (ps : List Pure) (p : Pure) → AreTrueFacts w ν ps → Is p → AreTrueFacts w ν (ps ++ p ∷ [])
  facts_with [] p t u = (u, tt)
  facts_with (x ∷ ps) p t u = (t.0, facts_with ps p t.1 u)

  -- a state that holds does so with a further fact that is true
  pub holds_with : (s : SymState) (p : Pure) → StateHolds w ν h s → Is p → StateHolds w ν h (with_fact s p)
  holds_with s p holds u = record { facts = facts_with s.facts p holds.facts u; depth = holds.depth; atoms = holds.atoms }

  -- the goal that a check was given is the node's
  pub goal_true : (q : Sequent) (g : Pure) → Some q.goal ≡ Some g → Is g → Is q.goal
  goal_true q g is t = subst (λ (z : Pure). Is z) (sym (some_same is)) t

  -- ---- the rules

  pub hyp_sound : (q : Sequent) (args : List DArg) (n : ℕ) → IsSound q n (hyp q.state (Some q.goal) args n)
  hyp_sound q args n count p at g is same = (
    counted args 1 n 0 count,
    λ above holds. goal_true q g is (same_facts-true w.codes w.labels ν g p same (fact_true q.state args 0 p at holds)),
  )

  pub norm_sound : (q : Sequent) (args : List DArg) (n : ℕ) → IsSound q n (norm (Some q.goal) args n)
  norm_sound q args n count g is t = (counted args 0 n 0 count, λ above holds. goal_true q g is (by_norm-true w.codes w.labels ν g t))

  pub cut_sound : (q : Sequent) (args : List DArg) (n : ℕ) → IsSound q n (cut q.state (Some q.goal) args n)
  cut_sound q args n count p at g is = (
    counted args 1 n 2 count,
    λ above holds. goal_true q g is (above.1.0 (holds_with q.state p holds (above.0 holds))),
  )

  pub split_sound : (q : Sequent) (args : List DArg) (n : ℕ) → IsSound q n (split q.state (Some q.goal) args n)
  split_sound q args n count p at r neg g is = (
    counted args 1 n 2 count,
    λ above holds. goal_true q g is (elim (one_true w.codes w.labels ν p r neg) [
      | inl t ↦ above.0 (holds_with q.state p holds t)
      | inr t ↦ above.1.0 (holds_with q.state r holds t)
    ]),
  )

  pub absurd_sound : (q : Sequent) (args : List DArg) (n : ℕ) → IsSound q n (contradiction q.state (Some q.goal) args n)
  absurd_sound q args n count p at r neg g is = (
    counted args 1 n 1 count,
    λ above holds. absurd (not_both w.codes w.labels ν p r neg (fact_true q.state args 0 p at holds) (above.0 holds)),
  )

  -- a word and the word with something added to it are different
  carries : (e : Word) (c : ℕ) → wrap c ≢ 0 → Is (Less e (Add e (Number c))) ⊎ Is (Less (Add e (Number c)) e)
  carries e c some = rw (value-Add w.labels ν e (Number c), value-Number w.labels ν c) (by (cases_lt (V e) (wrap (V e + wrap c))))
    where
      by : (V e < wrap (V e + wrap c)) ⊎ (wrap (V e + wrap c) ≤ V e) → (V e < wrap (V e + wrap c)) ⊎ (wrap (V e + wrap c) < V e)
      by (inl l) = inl l
      by (inr l) = inr (let k = value-small w.labels ν e in omega arith)

  pub carry_sound : (q : Sequent) (args : List DArg) (n : ℕ) → IsSound q n (carry q.state (Some q.goal) args n)
  carry_sound q args n count e at c at' some g is = (
    counted args 2 n 2 count,
    λ above holds. goal_true q g is (elim (carries e c (not_equal (wrap c) 0 some)) [
      | inl t ↦ above.0 (holds_with q.state _ holds t)
      | inr t ↦ above.1.0 (holds_with q.state _ holds t)
    ]),
  )

  between : (m n : ℕ) → m ≤ n → n ≤ m → m ≡ n
  between m n k l = omega arith

  differs : (first : Bool) (a b : Word) → Is (if first then Less a b else Less b a) → V a ≢ V b
  differs true a b l = λ e. omega arith
  differs false a b l = λ e. omega arith

  one_child : (first : Bool) → not first ≡ true → (let m : ℕ = if first then 2 else 1 in m ≡ 1)
  one_child true z = absurd (cc)
  one_child false z = refl

  two_children : (k : ℕ) → k ≡ 0 → order_children k ≡ 2
  two_children k e = rw e refl

  ordered : (q : Sequent) (k n : ℕ) → n ≡ order_children k → (g : Pure) → Some q.goal ≡ Some g → IsSound q n (order_goals q.state k g)
  ordered q k n count (Equal a b) is = λ z. (
    sym (count ∙ two_children k (same_number k 0 z)),
    λ above holds. goal_true q (Equal a b) is (between (V a) (V b) (above.0 holds) (above.1.0 holds)),
  )
  ordered q k n count (Unequal a b) is = λ z. (
    sym (count ∙ one_child (k == 0) z),
    λ above holds. goal_true q (Unequal a b) is (differs (k == 1) a b (above.0 holds)),
  )
  ordered q k n count (Less a b) is = tt
  ordered q k n count (AtMost a b) is = tt
  ordered q k n count (Same s t) is = tt
  ordered q k n count (Member a s) is = tt
  ordered q k n count (NonMember a s) is = tt
  ordered q k n count (Code a name) is = tt

  pub order_sound : (q : Sequent) (args : List DArg) (n : ℕ) → IsSound q n (order q.state (Some q.goal) args n)
  order_sound q args n one k number count g is = ordered q k n (same_number n (order_children k) count) g is

  different : (i j : ℕ) → i ≢ 0 → j ≢ 0 → i ≢ j → i - 1 ≢ j - 1
  different i j ni nj d e = d (omega arith)

  pub distinct_sound : (q : Sequent) (args : List DArg) (n : ℕ) → IsSound q n (distinct q.state (Some q.goal) args n)
  distinct_sound q args n count i at x ix j at' y jy other a xa b yb g is same = (
    counted args 2 n 0 count,
    λ above holds.
        let (ni, is_x) = numbered_is q.state.atoms i x ix in
        let (nj, is_y) = numbered_is q.state.atoms j y jy in
        goal_true q g is (same_facts-true w.codes w.labels ν g (Unequal a b) same
        (listed_apart w ν (meaning w holds.depth) q.state.atoms (i - 1) (j - 1) x y a b h holds.atoms is_x is_y
        (different i j ni nj (not_equal i j other)) xa yb)),
  )

  pub bound_sound : (q : Sequent) (args : List DArg) (n : ℕ) → IsSound q n (bound q.state (Some q.goal) args n)
  bound_sound q args n count x at p of g is same = (
    counted args 1 n 0 count,
    λ above holds.
        let (k, is_x) = numbered_at q.state.atoms (number_at args 0) x at in
        let (part, within, true') = listed_atom w ν (meaning w holds.depth) q.state.atoms k x h holds.atoms is_x in
        goal_true q g is (same_facts-true w.codes w.labels ν g p same (bounded w ν (meaning w holds.depth) x p part true' of)),
  )
