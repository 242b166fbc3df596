-- Where a walk accepts a tree, what its root stands for is so.
use Rattle.std.proofs.lemmas.List.{length-map}
use Rattle.std.proofs.Common.{◌≡◌, ℕ, ◌+◌, ◌≤◌, List, [], ◌∷◌, map, length, Result, Ok, Err, refl, subst, arith}
use Rattle.bed_machine.specs.Memory.{Memory}
use Rattle.bed_lang.specs.declared.logic.Pure.{Pure}
use Rattle.bed_lang.specs.declared.condition.Decls.{Decls}
use Rattle.bed_lang.specs.Values.{Values}
use Rattle.bed_sat.specs.Assertions.{World}
use Rattle.bed_sat.specs.Valid.{LabelsFit}
use Rattle.bed_deriv.specs.declared.derivation.DArg.{DArg}
use Rattle.bed_deriv.specs.declared.derivation.Rule.{Rule}
use Rattle.bed_deriv.specs.declared.derivation.Deriv.{Deriv, Deriv-F, roll-Deriv, map-Deriv, ind-Deriv, fold-roll-Deriv}
use Rattle.bed_deriv.specs.declared.state.SymState.{SymState}
use Rattle.bed_deriv.specs.declared.state.Sequent.{Sequent}
use Rattle.bed_deriv.specs.Checks.{sequent}
use Rattle.bed_deriv.specs.Walk.{Table, Walked, Walk, and_then, walk_all, walk_below, walk_step, walk}
use Rattle.bed_deriv.specs.Derives.{fact_table}
use Rattle.bed_check_pure.specs.States.{AreTrueFacts, StateHolds, world}
use Rattle.bed_check_pure.specs.Sound.{FollowsAt, AllFollowAt, Follows}
use Rattle.bed_check_pure.specs.Answers.{goal_table, walked}
use Rattle.bed_check_pure.proofs.TableLaws.{fact_sound, goal_sound}

then_parts : (w : Walked) (f : ℕ → Walked) (m : ℕ) → and_then w f ≡ Ok m → (k : ℕ) × (w ≡ Ok k) × (f k ≡ Ok m)
then_parts (Ok k) f m e = (k, refl, e)
then_parts (Err v) f m e = absurd (cc)

-- A table is sound for P, and All says P of each thing of a list: wherever a rule's premises hold there are as many things as
-- children, and where P is true of these, so it is of the node's thing.
module _ {T : Type 0} (table : Table T) (P : T → Type 0) (All : List T → Type 0) (none : All [])
    (more : (t : T) (ts : List T) → P t → All ts → All (t ∷ ts))
    (sound : (r : Rule) (t : T) (args : List DArg) (n : ℕ) (ts : List T) → table r t args n ≡ Ok ts → (length ts ≡ n) × (All ts → P t)) where
  abbrev IsSound : Deriv → Type 0
  IsSound d = (t : T) (n m : ℕ) → walk table d t n ≡ Ok m → P t

  abbrev walks : List ((d : Deriv) × IsSound d) → List (Walk T)
  walks cs = map (walk table) (map (λ c. c.0) cs)

  children_sound : (cs : List ((d : Deriv) × IsSound d)) (ts : List T) (n m : ℕ) → length ts ≡ length (walks cs) → walk_all (walks cs) ts n ≡ Ok m → All ts
  children_sound [] [] n m l e = none
  children_sound [] (t ∷ ts) n m l e = absurd (omega arith)
  children_sound (c ∷ cs) [] n m l e = none
  children_sound (c ∷ cs) (t ∷ ts) n m l e =
      let (k, first, others) = then_parts (walk table c.0 t n) (λ k. walk_all (walks cs) ts k) m e in
      more t ts (c.1 t n k first) (children_sound cs ts k m (omega arith) others)

  below_sound : (t : T) (given : Result (List T) ℕ) (cs : List ((d : Deriv) × IsSound d)) (n m : ℕ)
      → ((ts : List T) → given ≡ Ok ts → (length ts ≡ length (walks cs)) × (All ts → P t)) → walk_below given (walks cs) n ≡ Ok m → P t
  below_sound t (Err p) cs n m s e = absurd (cc)
  below_sound t (Ok ts) cs n m s e = let (l, up) = s ts refl in up (children_sound cs ts (n + 1) m l e)

  node_sound : (y : Deriv-F ((d : Deriv) × IsSound d)) → IsSound (roll-Deriv (map-Deriv _ _ (λ c. c.0) y))
  node_sound y t n m e =
      below_sound t (table y.rule t y.args (length (walks y.children))) y.children n m
      (sound y.rule t y.args (length (walks y.children)))
      (subst (λ (w : Walk T). w t n ≡ Ok m) (fold-roll-Deriv (Walk T) (walk_step table) (map-Deriv _ _ (λ c. c.0) y)) e)

  -- what an accepted tree stands for is so
  pub walk_sound : (d : Deriv) (t : T) (n m : ℕ) → walk table d t n ≡ Ok m → P t
  walk_sound = ind-Deriv IsSound (λ x y is. subst (λ (z : Deriv-F Deriv). IsSound (roll-Deriv z)) is (node_sound y))

  -- and what accepted trees stand for is, where there are as many trees as things, or more
  pub walk_all_sound : (ds : List Deriv) (ts : List T) (n m : ℕ) → length ts ≤ length ds → walk_all (map (walk table) ds) ts n ≡ Ok m → All ts
  walk_all_sound [] [] n m l e = none
  walk_all_sound [] (t ∷ ts) n m l e = absurd (omega arith)
  walk_all_sound (d ∷ ds) [] n m l e = none
  walk_all_sound (d ∷ ds) (t ∷ ts) n m l e =
      let (k, first, others) = then_parts (walk table d t n) (λ k. walk_all (map (walk table) ds) ts k) m e in
      more t ts (walk_sound d t n k first) (walk_all_sound ds ts k m (omega arith) others)

module _ (w : World) (ν : Values) (h : Memory) (fits : LabelsFit w) where
  -- a goal that a tree is accepted for follows
  pub tree_follows : (t : Deriv) (q : Sequent) (n last : ℕ) → walk (goal_table w.decls) t q n ≡ Ok last → FollowsAt w ν h q
  tree_follows = walk_sound (goal_table w.decls) (FollowsAt w ν h) (AllFollowAt w ν h) tt (λ q qs one others. (one, others)) (λ r q args n qs. goal_sound w ν h q args n qs fits r)

  -- by all rules for facts too
  pub whole_follows : (t : Deriv) (q : Sequent) (n last : ℕ) → walk (fact_table w.decls) t q n ≡ Ok last → FollowsAt w ν h q
  whole_follows = walk_sound (fact_table w.decls) (FollowsAt w ν h) (AllFollowAt w ν h) tt (λ q qs one others. (one, others)) (λ r q args n qs. fact_sound w ν h q args n qs fits r)

  -- and so do the goals that trees are accepted for, in order, where there are as many trees as goals, or more
  pub trees_follow : (ts : List Deriv) (qs : List Sequent) (n last : ℕ) → length qs ≤ length ts
      → walk_all (map (walk (goal_table w.decls)) ts) qs n ≡ Ok last → AllFollowAt w ν h qs
  trees_follow = walk_all_sound (goal_table w.decls) (FollowsAt w ν h) (AllFollowAt w ν h) tt (λ q qs one others. (one, others)) (λ r q args n qs. goal_sound w ν h q args n qs fits r)

  goals_true : (s : SymState) (gs : List Pure) → AllFollowAt w ν h (map (sequent s) gs) → StateHolds w ν h s → AreTrueFacts w ν gs
  goals_true s [] follow holds = tt
  goals_true s (g ∷ gs) follow holds = (follow.0 holds, goals_true s gs follow.1 holds)

  -- goals in one state, each with its tree, are true where the state holds
  pub trees_true : (ts : List Deriv) (s : SymState) (gs : List Pure) (n last : ℕ) → length gs ≤ length ts
      → walk_all (map (walk (goal_table w.decls)) ts) (map (sequent s) gs) n ≡ Ok last → StateHolds w ν h s → AreTrueFacts w ν gs
  trees_true ts s gs n last l e = goals_true s gs (trees_follow ts (map (sequent s) gs) n last (rw (length-map gs (sequent s)) l) e)

-- a goal follows from a state wherever a tree is accepted for it
pub walked-follows : (d : Decls) (s : SymState) (goal : Pure) (t : Deriv) (last : ℕ) → walked d s goal t ≡ Ok last → Follows d s goal
walked-follows d s goal t last e codes labels fits ν h = tree_follows (world d codes labels) ν h fits t (sequent s goal) 1 last e
