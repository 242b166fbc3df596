-- A step along an action closes what it stands for, where its facts are proved and what it goes on with is closed.
use Rattle.std.proofs.Common.{◌≡◌, ℕ, ◌%◌, ◌<◌, Bool, true, false, List, ◌∷◌, drop, Option, Some, None, refl, sym, ◌∙◌, ap, ap₂, subst, arith}
use Rattle.std.proofs.lemmas.Bool.{eqb-true}
use Rattle.bed_machine.specs.Memory.{Memory, word_at}
use Rattle.bed_lang.specs.declared.word.Name.{Name}
use Rattle.bed_lang.specs.declared.word.Word.{Word}
use Rattle.bed_lang.specs.declared.logic.Atom.{Atom}
use Rattle.bed_lang.specs.declared.module.Signature.{Signature}
use Rattle.bed_lang.specs.declared.module.Operand.{Operand}
use Rattle.bed_lang.specs.declared.module.Op.{Op}
use Rattle.bed_lang.specs.declared.module.Place.{Place}
use Rattle.bed_lang.specs.declared.module.Test.{Test}
use Rattle.bed_lang.specs.declared.module.Action.{Action}
use Rattle.bed_lang.specs.declared.module.Action.TheVariants as action
use Rattle.bed_lang.specs.Numbers.{wrap}
use Rattle.bed_lang.specs.Values.{Values, Fresh, set_word, value}
use Rattle.bed_lang.proofs.ValueLaws.{value-Number, value-small}
use Rattle.bed_sat.specs.Assertions.{World, meaning}
use Rattle.bed_sat.specs.Valid.{op_result, operand_value, place_value, set_local, Does, After, GoalHolds}
use Rattle.bed_sat.proofs.CellLaws.{word_includes}
use Rattle.bed_deriv.specs.declared.derivation.DArg.{DArg}
use Rattle.bed_deriv.specs.declared.state.SymState.{SymState}
use Rattle.bed_deriv.specs.Arguments.{numbered, number_at}
use Rattle.bed_deriv.specs.HeapRules.{cell_of, byte_of, fresh_word}
use Rattle.bed_deriv.specs.Steps.{operand_term, place_term, relation, with_result, computed, assign, compute, load, store, flag_children, stored_byte, store_byte, assume, act}
use Rattle.bed_deriv.specs.declared.rest.Rest.{Rest}
use Rattle.bed_deriv.specs.declared.rest.Onward.{Onward}
use Rattle.bed_deriv.specs.Fresh.{IsKnownState}
use Rattle.bed_check_pure.specs.States.{StateHolds}
use Rattle.bed_check_pure.proofs.RuleLaws.{counted, holds_with, numbered_at}
use Rattle.bed_check_pure.proofs.AtomLaws.{listed_atom}
use Rattle.bed_check_heap.proofs.KeepLaws.{Every}
use Rattle.bed_check_heap.proofs.FreshLaws.{agree_self, agree_more, set_here, value_fresh, facts_known, atoms_known}
use Rattle.bed_check_heap.proofs.ShapeLaws.{cell_is, byte_is}
use Rattle.bed_check_heap.specs.Sound.{AgreeBelow}
use Rattle.bed_check_cond.specs.Paths.{ReadsLocals}
use Rattle.bed_check_cond.proofs.ReplacingLaws.{value-once}
use Rattle.bed_check_cond.proofs.ReadLaws.{operand_read, place_read, relation_true, local_set, reads_known}
use Rattle.bed_check_cond.proofs.ComputeLaws.{computed-value}
use Rattle.bed_check_cond.proofs.StoreLaws.{word_stored, byte_stored}
use Rattle.bed_check_cond.proofs.EndLaws.{ClosesBy}

-- a known state holds under any values that agree on what it knows
state_known : (w : World) (s : SymState) (ν μ : Values) (h : Memory) → IsKnownState s → AgreeBelow s.next ν μ → StateHolds w ν h s → StateHolds w μ h s
state_known w s ν μ h known g holds = record {
  facts = facts_known w s.next ν μ g s.facts known.facts holds.facts;
  depth = holds.depth;
  atoms = atoms_known w s.next ν μ g (meaning w holds.depth) s.atoms h known.atoms holds.atoms;
}

module _ (w : World) (S : Option Signature) (r : Rest) (n : ℕ) where
  abbrev s : SymState
  s = r.state

  abbrev By : Onward → Type 0
  By = ClosesBy w S r n

  -- what holds after the other actions
  abbrev Then : Values → Memory → Type 0
  Then = After w.labels (drop 1 r.actions) (GoalHolds w S r.goal)

  -- the next action is done, and then the others
  acts : (a : Action) (more : List Action) (μ : Values) (h : Memory) → r.actions ≡ a ∷ more → Does w.labels a Then μ h → After w.labels r.actions (GoalHolds w S r.goal) μ h
  acts a more μ h e does =
      let rest : drop 1 r.actions ≡ more = ap (drop 1) e in
      let first : Does w.labels a (After w.labels more (GoalHolds w S r.goal)) μ h = subst (λ (as' : List Action). Does w.labels a (After w.labels as' (GoalHolds w S r.goal)) μ h) rest does in
      subst (λ (as' : List Action). After w.labels as' (GoalHolds w S r.goal) μ h) (sym e) first

  -- a state with other locals
  with_others : (ν : Values) (h : Memory) (ls : List (Name × Word)) → StateHolds w ν h s → StateHolds w ν h (record s { locals = ls })
  with_others ν h ls holds = record { facts = holds.facts; depth = holds.depth; atoms = holds.atoms }

  is_operand : (ν μ : Values) (a : Operand) (t : Word) → ReadsLocals w.labels s.locals ν μ → operand_term s.locals a ≡ Some t → wrap (operand_value w.labels μ a) ≡ value w.labels ν t
  is_operand ν μ a t reads e = ap wrap (operand_read w.labels ν μ s.locals a t reads.locals e) ∙ value-once w.labels ν t

  -- ---- assignments

  assign_closes : (x : Name) (a : Operand) (more : List Action) (args : List DArg) → r.actions ≡ action.Assign x a ∷ more → Every By (assign r x a args n)
  assign_closes x a more args e c t is ls set = (
    counted args 0 n 1 c,
    λ known proved closed ν μ h holds reads.
        acts (action.Assign x a) more μ h e
        (closed.0 ν (set_local μ x (operand_value w.labels μ a)) h (with_others ν h ls holds)
        (local_set w.labels ν μ x t (operand_value w.labels μ a) (is_operand ν μ a t reads is) s.locals ls set reads)),
  )

  result_closes : (x : Name) (o : Op) (a b : Operand) (more : List Action) → r.actions ≡ action.Compute x o a b ∷ more → 1 ≡ n → (result : Option Word)
      → ((t : Word) → result ≡ Some t → (ν μ : Values) → ReadsLocals w.labels s.locals ν μ
      → wrap (op_result o (operand_value w.labels μ a) (operand_value w.labels μ b)) ≡ value w.labels ν t)
      → Every By (with_result r x result)
  result_closes x o a b more e count (Some t) is = λ ls set. (
    count,
    λ known proved closed ν μ h holds reads.
        let v = op_result o (operand_value w.labels μ a) (operand_value w.labels μ b) in
        acts (action.Compute x o a b) more μ h e
        (closed.0 ν (set_local μ x v) h (with_others ν h ls holds) (local_set w.labels ν μ x t v (is t refl ν μ reads) s.locals ls set reads)),
  )
  result_closes x o a b more e count None is = λ ls set. (
    count,
    λ known proved closed ν μ h holds reads.
        let v = op_result o (operand_value w.labels μ a) (operand_value w.labels μ b) in
        let κ = set_word ν (Fresh s.next) v in
        let g = agree_more s.next s.next v ν ν (omega arith) (agree_self s.next ν) in
        let same = state_known w s ν κ h known.0 g holds in
        let has : wrap v ≡ value w.labels κ (fresh_word s.next) = ap wrap (sym (set_here ν s.next v)) ∙ sym (value_fresh w.labels κ s.next) in
        acts (action.Compute x o a b) more μ h e
        (closed.0 κ (set_local μ x v) h (record { facts = same.facts; depth = same.depth; atoms = same.atoms })
        (local_set w.labels κ μ x (fresh_word s.next) v has s.locals ls set (reads_known w s.next ν κ μ g s.locals known.0.locals reads))),
  )

  compute_closes : (x : Name) (o : Op) (a b : Operand) (more : List Action) (args : List DArg) → r.actions ≡ action.Compute x o a b ∷ more → Every By (compute r x o a b args n)
  compute_closes x o a b more args e c t first u second =
      result_closes x o a b more e (counted args 0 n 1 c) (computed o t u)
      (λ v is ν μ reads.
      ap₂ (λ i j. wrap (op_result o i j)) (operand_read w.labels ν μ s.locals a t reads.locals first) (operand_read w.labels ν μ s.locals b u reads.locals second)
      ∙ computed-value w.labels ν o t u v is)

  -- ---- loads

  word_loaded : (x : Name) (p : Place) (more : List Action) (args : List DArg) → r.actions ≡ action.Load x p ∷ more → Every By (load cell_of r x p args n)
  word_loaded x p more args e c a at d is t place ls set = (
    counted args 1 n 2 c,
    λ known proved closed ν μ h holds reads.
        let (k, listed) = numbered_at s.atoms (number_at args 0) a at in
        let (part, within, true') = listed_atom w ν (meaning w holds.depth) s.atoms k a h holds.atoms listed in
        let cell = cell_is w (meaning w holds.depth) ν a d part is true' in
        let here : place_value w.labels μ p ≡ value w.labels ν d.0 = place_read w.labels ν μ s.locals p t reads.locals place ∙ sym (proved ν h holds).0 in
        let found : word_at h (place_value w.labels μ p) ≡ Some (value w.labels ν d.1) = subst (λ z. word_at h z ≡ Some (value w.labels ν d.1)) (sym here) (word_includes within (value w.labels ν d.0) (value w.labels ν d.1) cell.holds) in
        acts (action.Load x p) more μ h e (
          value w.labels ν d.1,
          found,
          closed.0 ν (set_local μ x (value w.labels ν d.1)) h (with_others ν h ls holds)
              (local_set w.labels ν μ x d.1 (value w.labels ν d.1) (value-once w.labels ν d.1) s.locals ls set reads),
        ),
  )

  byte_loaded : (x : Name) (p : Place) (more : List Action) (args : List DArg) → r.actions ≡ action.LoadByte x p ∷ more → Every By (load byte_of r x p args n)
  byte_loaded x p more args e c a at d is t place ls set = (
    counted args 1 n 2 c,
    λ known proved closed ν μ h holds reads.
        let (k, listed) = numbered_at s.atoms (number_at args 0) a at in
        let (part, within, true') = listed_atom w ν (meaning w holds.depth) s.atoms k a h holds.atoms listed in
        let byte = byte_is w (meaning w holds.depth) ν a d part is true' in
        let here : place_value w.labels μ p ≡ value w.labels ν d.0 = place_read w.labels ν μ s.locals p t reads.locals place ∙ sym (proved ν h holds).0 in
        let found : h (place_value w.labels μ p) ≡ Some (value w.labels ν d.1) = subst (λ z. h z ≡ Some (value w.labels ν d.1)) (sym here) (within.at (value w.labels ν d.0) (value w.labels ν d.1) byte.holds) in
        acts (action.LoadByte x p) more μ h e (
          value w.labels ν d.1,
          found,
          closed.0 ν (set_local μ x (value w.labels ν d.1)) h (with_others ν h ls holds)
              (local_set w.labels ν μ x d.1 (value w.labels ν d.1) (value-once w.labels ν d.1) s.locals ls set reads),
        ),
  )

  -- ---- stores

  word_kept : (p : Place) (b : Operand) (more : List Action) (args : List DArg) → r.actions ≡ action.Store p b ∷ more → Every By (store r p b args n)
  word_kept p b more args e c i number a at d is t place u content = (
    counted args 1 n 2 c,
    λ known proved closed ν μ h holds reads.
        let here : place_value w.labels μ p ≡ value w.labels ν d.0 = place_read w.labels ν μ s.locals p t reads.locals place ∙ sym (proved ν h holds).0 in
        let value_is : operand_value w.labels μ b ≡ value w.labels ν u = operand_read w.labels ν μ s.locals b u reads.locals content in
        let small : operand_value w.labels μ b < 4294967296 = (let v = value-small w.labels ν u in omega arith) in
        let k = word_stored w ν (meaning w holds.depth) s i a d u h (place_value w.labels μ p) (operand_value w.labels μ b) at is holds.atoms here value_is small in
        acts (action.Store p b) more μ h e (k.mapped, closed.0 ν μ _ (record { facts = holds.facts; depth = holds.depth; atoms = k.atoms }) reads),
  )

  stored_closes : (p : Place) (b : Operand) (more : List Action) → r.actions ≡ action.StoreByte p b ∷ more → (i : ℕ) (a : Atom) → numbered s.atoms i ≡ Some a
      → (d : Word × Word) → byte_of a ≡ Some d → (t : Word) → place_term s.locals p ≡ Some t → (u : Word) → operand_term s.locals b ≡ Some u
      → (k : Bool) → n ≡ flag_children k → Every By (stored_byte r i d.0 t u k)
  stored_closes p b more e i a at d is t place u content true count = (
    sym count,
    λ known proved closed ν μ h holds reads.
        let goals = proved ν h holds in
        let here : place_value w.labels μ p ≡ value w.labels ν d.0 = place_read w.labels ν μ s.locals p t reads.locals place ∙ sym goals.0 in
        let value_is : operand_value w.labels μ b ≡ value w.labels ν u = operand_read w.labels ν μ s.locals b u reads.locals content in
        let low : operand_value w.labels μ b % 256 ≡ value w.labels ν u = (let l = goals.1.0 in let m = value-Number w.labels ν 255 in omega arith) in
        let k = byte_stored w ν (meaning w holds.depth) s i a d u h (place_value w.labels μ p) (operand_value w.labels μ b) at is holds.atoms here low in
        acts (action.StoreByte p b) more μ h e (k.mapped, closed.0 ν μ _ (record { facts = holds.facts; depth = holds.depth; atoms = k.atoms }) reads),
  )
  stored_closes p b more e i a at d is t place u content false count = (
    sym count,
    λ known proved closed ν μ h holds reads.
        let v = operand_value w.labels μ b % 256 in
        let κ = set_word ν (Fresh s.next) v in
        let g = agree_more s.next s.next v ν ν (omega arith) (agree_self s.next ν) in
        let same = state_known w s ν κ h known.0 g holds in
        let read = reads_known w s.next ν κ μ g s.locals known.0.locals reads in
        let here : place_value w.labels μ p ≡ value w.labels κ d.0 = place_read w.labels κ μ s.locals p t read.locals place ∙ sym (proved κ h same).0 in
        let has : v ≡ value w.labels κ (fresh_word s.next) = (let z = value_fresh w.labels κ s.next in let y = set_here ν s.next v in omega arith) in
        let k = byte_stored w κ (meaning w same.depth) s i a d (fresh_word s.next) h (place_value w.labels μ p) (operand_value w.labels μ b) at is same.atoms here has in
        acts (action.StoreByte p b) more μ h e (k.mapped, closed.0 κ μ _ (record { facts = same.facts; depth = same.depth; atoms = k.atoms }) read),
  )

  byte_kept : (p : Place) (b : Operand) (more : List Action) (args : List DArg) → r.actions ≡ action.StoreByte p b ∷ more → Every By (store_byte r p b args n)
  byte_kept p b more args e two k is_flag size i number a at d is t place u content =
      stored_closes p b more e i a at d is t place u content k (eqb-true n (flag_children k) size)

  -- ---- tests

  test_closes : (t : Test) (more : List Action) (args : List DArg) → r.actions ≡ action.Assume t ∷ more → Every By (assume r t args n)
  test_closes t more args e c a left b right = (
    counted args 0 n 1 c,
    λ known proved closed ν μ h holds reads.
        acts (action.Assume t) more μ h e
        (λ is.
        let fact = relation_true w.labels ν μ w t.rel a b (operand_value w.labels μ t.left) (operand_value w.labels μ t.right)
        (operand_read w.labels ν μ s.locals t.left a reads.locals left) (operand_read w.labels ν μ s.locals t.right b reads.locals right) is in
        closed.0 ν μ h (holds_with w ν h s (relation t.rel a b) holds fact) reads),
  )

  -- each action
  pub action_closes : (a : Action) (more : List Action) (args : List DArg) → r.actions ≡ a ∷ more → Every By (act r a args n)
  action_closes (action.Assign x a) more args e = assign_closes x a more args e
  action_closes (action.Compute x o a b) more args e = compute_closes x o a b more args e
  action_closes (action.Load x p) more args e = word_loaded x p more args e
  action_closes (action.LoadByte x p) more args e = byte_loaded x p more args e
  action_closes (action.Store p b) more args e = word_kept p b more args e
  action_closes (action.StoreByte p b) more args e = byte_kept p b more args e
  action_closes (action.Assume t) more args e = test_closes t more args e
