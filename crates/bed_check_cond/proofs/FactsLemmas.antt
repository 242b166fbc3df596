-- The turns of the walk of trees for facts.
use Rattle.std.proofs.Common.{◌≡◌, ℕ, zero, suc, ◌+◌, ◌-◌, ◌<◌, ◌≤◌, true, false, get_or, take, List, [], ◌∷◌, ◌++◌, map, drop, length, Option, Some, None, slice_get, Result, Ok, Err, refl, ap, sym, ◌∙◌, subst, arith}
use Rattle.std.proofs.lemmas.List.{append-nil, length-map, take_all}
use Rattle.bed_lang.specs.declared.condition.Decls.{Decls}
use Rattle.bed_deriv.specs.declared.derivation.Deriv.{Deriv, out-Deriv, fold_out-Deriv}
use Rattle.bed_deriv.specs.declared.state.Sequent.{Sequent}
use Rattle.bed_deriv.specs.Walk.{Walk, Walked, and_then, walk_all, walk_below, walk_step, walk}
use Rattle.bed_deriv.specs.declared.derivation.Rule.{Rule}
use Rattle.bed_deriv.specs.declared.derivation.DArg.{DArg}
use Rattle.bed_deriv.specs.declared.state.SymState.{SymState}
use Rattle.bed_lang.specs.declared.logic.Pure.{Pure}
use Rattle.bed_deriv.specs.Checks.{sequent, outcome}
use Rattle.bed_deriv.specs.Derives.{Purpose, ForFacts, ForStates, ForSteps, ForEnds, purpose, refused as refused_by, pure_rule}
use Rattle.bed_check_pure.specs.declared.fault.Fault.{Fault}
use Rattle.bed_check_pure.specs.declared.verdict.Verdict.{Verdict}
use Rattle.bed_check_pure.specs.declared.verdict.Verdict.TheVariants.{Reject, Memory}
use Rattle.bed_check_pure.specs.Faults.{AnswersRule}
use Rattle.bed_check_pure.specs.Answers.{at_fact, goal_table}
use Rattle.bed_check_heap.specs.Steps.{at_state}
use Rattle.bed_check_cond.specs.declared.facts.Goals.{Goals}
use Rattle.bed_check_cond.specs.declared.facts.Descent.{Descent}
use Rattle.bed_check_cond.specs.Stack.{left_walk, size, children_size}
use Rattle.bed_check_cond.specs.Facts.{goals_walk, goals_waiting_for, goals_waiting, goals_size, goals_left_size, is_for_states, is_for_paths, refused_goals, AnswersGoals, AnswersGoalsTurn}
use Rattle.bed_check_cond.proofs.RestsLemmas.{then_same}
use Rattle.bed_check_cond.proofs.StackLemmas.{left_last, turn_spent, turn_refused}
use Rattle.bed_check_cond.proofs.TurnLemmas.{then_end, node_size}

-- ---- the next goal of a list

pub none_left : {T : Type 0} (ws : List (Walk T)) (ts : List T) (at n : ℕ) → slice_get ts at ≡ None → walk_all ws (drop at ts) n ≡ Ok n
none_left [] ts at n e = refl
none_left (w ∷ ws) [] zero n e = refl
none_left (w ∷ ws) [] (suc at) n e = refl
none_left (w ∷ ws) (t ∷ ts) zero n e = absurd cc
none_left (w ∷ ws) (t ∷ ts) (suc at) n e = none_left (w ∷ ws) ts at n e

next_after : {T : Type 0} (ts : List T) (at : ℕ) (t : T) → slice_get ts at ≡ Some t → drop at ts ≡ t ∷ drop (suc at) ts
next_after [] at t e = absurd cc
next_after (x ∷ ts) zero t e = let same : x ≡ t = cc in ap (λ z. z ∷ ts) same
next_after (x ∷ ts) (suc at) t e = next_after ts at t e

pub next_left : {T : Type 0} (w : Walk T) (ws : List (Walk T)) (ts : List T) (at n : ℕ) (t : T) → slice_get ts at ≡ Some t
    → walk_all (w ∷ ws) (drop at ts) n ≡ and_then (w t n) (walk_all ws (drop (at + 1) ts))
next_left w ws ts at n t e =
    let more : suc at ≡ at + 1 = omega arith in
    ap (λ us. walk_all (w ∷ ws) us n) (next_after ts at t e) ∙ ap (λ k. and_then (w t n) (walk_all ws (drop k ts))) more

-- a list is its first item and the others
pub list_is : {A : Type 0} (xs : List A) (x : A) → x ≡ get_or xs 0 x → 1 ≤ length xs → xs ≡ x ∷ take (length xs - 1) (drop 1 xs)
list_is [] x e h = absurd (omega (arith, h))
list_is (y ∷ ys) x e h =
    let first : y ≡ x = sym e in
    let others : ys ≡ take (length (y ∷ ys) - 1) ys = sym (take_all (length (y ∷ ys) - 1) ys (omega arith)) in
    ap (λ z. z ∷ ys) first ∙ ap (λ zs. x ∷ zs) others

-- ---- rules at a fact

module _ (d : Decls) (u : Rule) (s : SymState) (goal : Pure) (args : List DArg) (n : ℕ) where
  states_at : (p : Purpose) (f : Fault) → is_for_states p ≡ true → AnswersRule {A = List Sequent} (Err f) (refused_by (at_state d p u s args n))
      → AnswersRule {A = List Sequent} (Err f) (at_fact d p u (sequent s goal) args n)
  states_at ForFacts f e h = absurd cc
  states_at ForStates f e h = h
  states_at ForSteps f e h = absurd cc
  states_at ForEnds f e h = absurd cc

  paths_at : (p : Purpose) → is_for_paths p ≡ true → at_fact d p u (sequent s goal) args n ≡ Err 3
  paths_at ForFacts e = absurd cc
  paths_at ForStates e = absurd cc
  paths_at ForSteps e = refl
  paths_at ForEnds e = refl

  facts_at : (p : Purpose) (res : Result (List Sequent) Fault) → is_for_states p ≡ false → is_for_paths p ≡ false
      → AnswersRule res (outcome (pure_rule d u s (Some goal) args n)) → AnswersRule res (at_fact d p u (sequent s goal) args n)
  facts_at ForFacts res a b h = h
  facts_at ForStates res a b h = absurd cc
  facts_at ForSteps res a b h = absurd cc
  facts_at ForEnds res a b h = absurd cc

  pub states_prove_none : (f : Fault) → is_for_states (purpose u) ≡ true → AnswersRule (Err f) (refused_goals d u s args n)
      → AnswersRule {A = List Sequent} (Err f) (goal_table d u (sequent s goal) args n)
  unfolding goal_table
  states_prove_none f e h = states_at (purpose u) f e h

  pub paths_prove_none : is_for_paths (purpose u) ≡ true → goal_table d u (sequent s goal) args n ≡ Err 3
  unfolding goal_table
  paths_prove_none e = paths_at (purpose u) e

  pub facts_prove : (res : Result (List Sequent) Fault) → is_for_states (purpose u) ≡ false → is_for_paths (purpose u) ≡ false
      → AnswersRule res (outcome (pure_rule d u s (Some goal) args n)) → AnswersRule res (goal_table d u (sequent s goal) args n)
  unfolding goal_table
  facts_prove res a b h = facts_at (purpose u) res a b h

-- ---- a node

module _ (d : Decls) where
  abbrev facts : Deriv → Walk Sequent
  facts = walk (goal_table d)

  node_is : (t : Deriv) (q : Sequent) (n : ℕ)
      → facts t q n ≡ walk_below (goal_table d (out-Deriv t).rule q (out-Deriv t).args (length (out-Deriv t).children)) (map facts (out-Deriv t).children) n
  node_is t q n =
      let y = out-Deriv t in
      ap (λ (w : Walk Sequent). w q n) (fold_out-Deriv (Walk Sequent) (walk_step (goal_table d)) t)
      ∙ ap (λ (k : ℕ). walk_below (goal_table d y.rule q y.args k) (map facts y.children) n) (length-map y.children facts)

  pub node_left : (t : Deriv) (q : Sequent) (n : ℕ) (qs : List Sequent) → goal_table d (out-Deriv t).rule q (out-Deriv t).args (length (out-Deriv t).children) ≡ Ok qs
      → facts t q n ≡ walk_all (map facts (out-Deriv t).children) qs (n + 1)
  node_left t q n qs e = node_is t q n ∙ ap (λ (g : Result (List Sequent) ℕ). walk_below g (map facts (out-Deriv t).children) n) e

  pub node_refused : (t : Deriv) (q : Sequent) (n p : ℕ) → goal_table d (out-Deriv t).rule q (out-Deriv t).args (length (out-Deriv t).children) ≡ Err p
      → facts t q n ≡ Err (n, p)
  node_refused t q n p e = node_is t q n ∙ ap (λ (g : Result (List Sequent) ℕ). walk_below g (map facts (out-Deriv t).children) n) e

  -- the next goal of a node, with its child
  goal_next : (f : Goals) (n : ℕ) (t : Deriv) (ts : List Deriv) (q : Sequent) → f.children.now ≡ t ∷ ts → slice_get f.goals f.at ≡ Some q
      → goals_walk d f n ≡ and_then (facts t q n) (walk_all (map facts ts) (drop (f.at + 1) f.goals))
  goal_next f n t ts q e g =
      ap (λ (us : List Deriv). walk_all (map facts us) (drop f.at f.goals) n) e ∙ next_left (facts t) (map facts ts) f.goals f.at n q g

  pub child_refused : (f : Goals) (n : ℕ) (t : Deriv) (ts : List Deriv) (q : Sequent) (v : Verdict) → f.children.now ≡ t ∷ ts → slice_get f.goals f.at ≡ Some q
      → AnswersGoals d (Err v) n (facts t q n) → AnswersGoalsTurn d (Err v) f n
  child_refused f n t ts q (Reject node premise) e g h =
      goal_next f n t ts q e g ∙ ap (λ (w : Walked). and_then w (walk_all (map facts ts) (drop (f.at + 1) f.goals))) h
  child_refused f n t ts q Memory e g h = tt

  pub child_opened : (f below : Goals) (n : ℕ) (t : Deriv) (ts : List Deriv) (q : Sequent) → f.children.now ≡ t ∷ ts → slice_get f.goals f.at ≡ Some q
      → facts t q n ≡ goals_walk d below (n + 1) → goals_size below < size t
      → (goals_walk d f n ≡ and_then (goals_walk d below (n + 1)) (walk_all (map facts ts) (drop (f.at + 1) f.goals)))
      × (1 + children_size ts + goals_size below < goals_size f)
  child_opened f below n t ts q e g h less =
      let sizes : children_size f.children.now ≡ children_size (t ∷ ts) = ap children_size e in (
        goal_next f n t ts q e g ∙ ap (λ (w : Walked). and_then w (walk_all (map facts ts) (drop (f.at + 1) f.goals))) h,
        omega arith,
      )

  -- ---- what is left

  left_waits : (fs : List Goals) (f : Goals) (w : Walked)
      → left_walk (goals_walk d) (fs ++ goals_waiting f) w ≡ left_walk (goals_walk d) fs (and_then w (goals_walk d f))
  left_waits fs f w = by f.children.now refl
    where
      by : (ts : List Deriv) → ts ≡ f.children.now
          → left_walk (goals_walk d) (fs ++ goals_waiting_for ts f) w ≡ left_walk (goals_walk d) fs (and_then w (goals_walk d f))
      by [] e =
          ap (λ gs. left_walk (goals_walk d) gs w) (append-nil fs)
          ∙ ap (left_walk (goals_walk d) fs) (sym (
          then_same w (goals_walk d f) (λ n. Ok n) (λ n. ap (λ ts. walk_all (map facts ts) (drop f.at f.goals) n) (sym e)) ∙ then_end w
          ))
      by (t ∷ ts) e = left_last (goals_walk d) fs f w

  pub spent : (fs old : List Goals) (f : Goals) (n : ℕ) (x : Walked) → old ≡ fs ++ f ∷ [] → goals_walk d f n ≡ Ok n
      → left_walk (goals_walk d) old (Ok n) ≡ x → left_walk (goals_walk d) fs (Ok n) ≡ x
  spent fs old f n x is e h = sym (turn_spent (goals_walk d) fs f n e) ∙ ap (λ gs. left_walk (goals_walk d) gs (Ok n)) (sym is) ∙ h

  pub refused : (fs old : List Goals) (f : Goals) (n : ℕ) (v : ℕ × ℕ) (x : Walked) → old ≡ fs ++ f ∷ [] → goals_walk d f n ≡ Err v
      → left_walk (goals_walk d) old (Ok n) ≡ x → x ≡ Err v
  refused fs old f n v x is e h = sym h ∙ ap (λ gs. left_walk (goals_walk d) gs (Ok n)) is ∙ turn_refused (goals_walk d) fs f n v e

  pub goes_below : (fs old new : List Goals) (f left below : Goals) (n m : ℕ) (x : Walked) → old ≡ fs ++ f ∷ []
      → goals_walk d f n ≡ and_then (goals_walk d below m) (goals_walk d left)
      → new ≡ (fs ++ goals_waiting left) ++ goals_waiting below
      → left_walk (goals_walk d) old (Ok n) ≡ x → left_walk (goals_walk d) new (Ok m) ≡ x
  goes_below fs old new f left below n m x is e b h =
      ap (λ gs. left_walk (goals_walk d) gs (Ok m)) b
      ∙ left_waits (fs ++ goals_waiting left) below (Ok m)
      ∙ left_waits fs left (goals_walk d below m)
      ∙ ap (λ (w : Walked). left_walk (goals_walk d) fs w) (sym e)
      ∙ sym (left_last (goals_walk d) fs f (Ok n))
      ∙ ap (λ gs. left_walk (goals_walk d) gs (Ok n)) (sym is)
      ∙ h

  -- what a turn says where it goes below
  pub turned_below : (o : Option Descent) (t : Descent) (f : Goals) (n : ℕ) → o ≡ Some t → AnswersGoalsTurn d (Ok o) f n
      → (goals_walk d f n ≡ and_then (goals_walk d t.below (n + 1)) (goals_walk d t.left)) × (goals_size t.left + goals_size t.below < goals_size f)
  turned_below o t f n e h = subst (λ (p : Option Descent). AnswersGoalsTurn d (Ok p) f n) e h

-- ---- how much is left

size_append : (fs gs : List Goals) → goals_left_size (fs ++ gs) ≡ goals_left_size fs + goals_left_size gs
size_append [] gs = omega arith
size_append (f ∷ fs) gs = let e = size_append fs gs in omega arith

size_waits : (f : Goals) → goals_left_size (goals_waiting f) ≤ goals_size f
size_waits f = by f.children.now
  where
    by : (ts : List Deriv) → goals_left_size (goals_waiting_for ts f) ≤ goals_size f
    by [] = omega arith
    by (t ∷ ts) = omega arith

pub smaller_spent : (fs old : List Goals) (f : Goals) → old ≡ fs ++ f ∷ [] → goals_left_size fs < goals_left_size old
smaller_spent fs old f is =
    let e : goals_left_size old ≡ goals_left_size fs + goals_left_size (f ∷ []) = ap goals_left_size is ∙ size_append fs (f ∷ []) in omega arith

pub smaller_below : (fs old new : List Goals) (f left below : Goals) → old ≡ fs ++ f ∷ [] → goals_size left + goals_size below < goals_size f
    → new ≡ (fs ++ goals_waiting left) ++ goals_waiting below → goals_left_size new < goals_left_size old
smaller_below fs old new f left below is less b =
    let e : goals_left_size old ≡ goals_left_size fs + goals_left_size (f ∷ []) = ap goals_left_size is ∙ size_append fs (f ∷ []) in
    let g : goals_left_size (fs ++ goals_waiting left) ≡ goals_left_size fs + goals_left_size (goals_waiting left) = size_append fs (goals_waiting left) in
    let h : goals_left_size new ≡ goals_left_size (fs ++ goals_waiting left) + goals_left_size (goals_waiting below) = ap goals_left_size b ∙ size_append (fs ++ goals_waiting left) (goals_waiting below) in
    let u = size_waits left in
    let v = size_waits below in
    omega arith

pub smaller_node : (t : Deriv) (f : Goals) → f.children.now ≡ (out-Deriv t).children → goals_size f < size t
smaller_node t f e =
    let a = node_size t in
    let b : children_size f.children.now ≡ children_size (out-Deriv t).children = ap children_size e in
    omega arith
