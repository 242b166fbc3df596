-- What is left below a node: first its facts, by the rules for facts, and then its rests.
use Rattle.std.proofs.Common.{◌≡◌, ℕ, zero, suc, ◌+◌, None, List, [], ◌∷◌, ◌++◌, map, drop, length, Result, Ok, Err, refl, ap, sym, ◌∙◌, subst}
use Rattle.std.proofs.lemmas.List.{length-map}
use Rattle.bed_lang.specs.declared.word.Name.{Name}
use Rattle.bed_lang.specs.declared.logic.Pure.{Pure}
use Rattle.bed_lang.specs.declared.condition.Decls.{Decls}
use Rattle.bed_deriv.specs.declared.derivation.Rule.{Rule}
use Rattle.bed_deriv.specs.declared.derivation.DArg.{DArg}
use Rattle.bed_deriv.specs.declared.state.Remainder.{Remainder}
use Rattle.bed_deriv.specs.declared.derivation.Deriv.{Deriv, Deriv-F, roll-Deriv, out-Deriv, map-Deriv, ind-Deriv, fold-roll-Deriv, fold_out-Deriv}
use Rattle.bed_deriv.specs.declared.state.SymState.{SymState}
use Rattle.bed_deriv.specs.declared.state.Sequent.{Sequent}
use Rattle.bed_deriv.specs.declared.rest.Rest.{Rest}
use Rattle.bed_deriv.specs.declared.rest.Onward.{Onward}
use Rattle.bed_deriv.specs.declared.rest.Task.{Task}
use Rattle.bed_deriv.specs.declared.rest.Task.TheVariants.{Proves, Closes}
use Rattle.bed_deriv.specs.Checks.{sequent, outcome, remainder}
use Rattle.bed_deriv.specs.Walk.{Walk, Walked, and_then, walk_all, walk_below, walk_step, walk}
use Rattle.bed_deriv.specs.Nodes.{children_walked}
use Rattle.bed_deriv.specs.Derives.{Purpose, ForFacts, ForStates, ForSteps, ForEnds, purpose, proofs, refused, facts_to_prove, from_states, states_to_close, rests_to_close, by_purpose, rules, pure_rule, heap_rule}
use Rattle.bed_check_pure.specs.Answers.{at_fact, goal_table}
use Rattle.bed_check_cond.specs.Answered.{from_each, changed, onward_by, onward_at}

pub then_same : (w : Walked) (f g : ℕ → Walked) → ((m : ℕ) → f m ≡ g m) → and_then w f ≡ and_then w g
then_same (Ok n) f g e = e n
then_same (Err v) f g e = refl

then_then : (w : Walked) (f g : ℕ → Walked) → and_then (and_then w f) g ≡ and_then w (λ m. and_then (f m) g)
then_then (Ok n) f g = refl
then_then (Err v) f g = refl

-- things in two parts: the second goes on where the first has ended
in_parts : {T : Type 0} (ws : List (Walk T)) (ts us : List T) (n : ℕ)
    → walk_all ws (ts ++ us) n ≡ and_then (walk_all ws ts n) (walk_all (drop (length ts) ws) us)
in_parts [] [] us n = refl
in_parts [] (t ∷ ts) us n = refl
in_parts (w ∷ ws) [] us n = refl
in_parts (w ∷ ws) (t ∷ ts) us n =
    then_same (w t n) (λ m. walk_all ws (ts ++ us) m) (λ m. and_then (walk_all ws ts m) (walk_all (drop (length ts) ws) us)) (λ m. in_parts ws ts us m)
    ∙ sym (then_then (w t n) (λ m. walk_all ws ts m) (walk_all (drop (length ts) ws) us))

map_drop : {A B : Type 0} (f : A → B) (k : ℕ) (xs : List A) → drop k (map f xs) ≡ map f (drop k xs)
map_drop f zero xs = refl
map_drop f (suc k) [] = refl
map_drop f (suc k) (x ∷ xs) = map_drop f k xs

module _ (d : Decls) (function : Name) where
  abbrev tasks : Deriv → Walk Task
  tasks = walk (rules d function)

  abbrev facts : Deriv → Walk Sequent
  facts = walk (goal_table d)

  -- a tree for a fact
  abbrev IsSame : Deriv → Type 0
  IsSame t = (q : Sequent) (n : ℕ) → tasks t (Proves q) n ≡ facts t q n

  same_all : (cs : List ((t : Deriv) × IsSame t)) (qs : List Sequent) (n : ℕ)
      → walk_all (map tasks (map (λ c. c.0) cs)) (map Proves qs) n ≡ walk_all (map facts (map (λ c. c.0) cs)) qs n
  same_all [] qs n = refl
  same_all (c ∷ cs) [] n = refl
  same_all (c ∷ cs) (q ∷ qs) n =
      ap (λ (v : Walked). and_then v (λ m. walk_all (map tasks (map (λ c. c.0) cs)) (map Proves qs) m)) (c.1 q n)
      ∙ then_same (facts c.0 q n) (λ m. walk_all (map tasks (map (λ c. c.0) cs)) (map Proves qs) m) (λ m. walk_all (map facts (map (λ c. c.0) cs)) qs m) (λ m. same_all cs qs m)

  same_below : (given : Result (List Sequent) ℕ) (cs : List ((t : Deriv) × IsSame t)) (n : ℕ)
      → walk_below (proofs given) (map tasks (map (λ c. c.0) cs)) n ≡ walk_below given (map facts (map (λ c. c.0) cs)) n
  same_below (Err p) cs n = refl
  same_below (Ok qs) cs n = same_all cs qs (n + 1)

  -- a rule at a fact
  no_proofs : {A : Type 0} (o : Result A ℕ) → refused {A = A} {B = List Task} o ≡ proofs (refused {A = A} {B = List Sequent} o)
  no_proofs (Err p) = refl
  no_proofs (Ok x) = refl

  purpose_at_fact : (p : Purpose) (u : Rule) (q : Sequent) (args : List DArg) (n : ℕ) → by_purpose d function p u (Proves q) args n ≡ proofs (at_fact d p u q args n)
  purpose_at_fact ForFacts u q args n = refl
  purpose_at_fact ForStates u q args n = no_proofs (remainder (heap_rule d u q.state args n))
  purpose_at_fact ForSteps u q args n = refl
  purpose_at_fact ForEnds u q args n = refl

  -- a rule at a rest
  no_rests : {A : Type 0} (r : Rest) (o : Result A ℕ) → refused {A = A} {B = List Task} o ≡ rests_to_close r (changed r (refused {A = A} {B = Remainder} o))
  no_rests r (Err p) = refl
  no_rests r (Ok x) = refl

  each_closes : (r : Rest) (ss : List SymState) → from_states r ss ≡ map Closes (from_each r ss)
  each_closes r [] = refl
  each_closes r (s ∷ ss) = ap (λ ts. Closes (record r { state = s }) ∷ ts) (each_closes r ss)

  states_close : (r : Rest) (o : Result Remainder ℕ) → states_to_close r o ≡ rests_to_close r (changed r o)
  states_close r (Err p) = refl
  states_close r (Ok m) = ap (λ ts. Ok (facts_to_prove r.state m.goals ++ ts)) (each_closes r m.states)

  purpose_at_rest : (p : Purpose) (u : Rule) (r : Rest) (args : List DArg) (n : ℕ) → by_purpose d function p u (Closes r) args n ≡ rests_to_close r (onward_by d function p u r args n)
  purpose_at_rest ForFacts u r args n = no_rests r (outcome (pure_rule d u r.state None args n))
  purpose_at_rest ForStates u r args n = states_close r (remainder (heap_rule d u r.state args n))
  purpose_at_rest ForSteps u r args n = refl
  purpose_at_rest ForEnds u r args n = refl

  same_node : (y : Deriv-F ((t : Deriv) × IsSame t)) → IsSame (roll-Deriv (map-Deriv _ _ (λ c. c.0) y))
  unfolding goal_table
  same_node y q n =
      let ts = map (λ (c : (t : Deriv) × IsSame t). c.0) y.children in
      let one = ap (λ (w : Walk Task). w (Proves q) n) (fold-roll-Deriv (Walk Task) (walk_step (rules d function)) (map-Deriv _ _ (λ c. c.0) y)) in
      let two = ap (λ (w : Walk Sequent). w q n) (fold-roll-Deriv (Walk Sequent) (walk_step (goal_table d)) (map-Deriv _ _ (λ c. c.0) y)) in
      let counts : length (map tasks ts) ≡ length (map facts ts) = length-map ts tasks ∙ sym (length-map ts facts) in
      one
      ∙ ap (λ (k : ℕ). walk_below (rules d function y.rule (Proves q) y.args k) (map tasks ts) n) counts
      ∙ ap (λ (g : Result (List Task) ℕ). walk_below g (map tasks ts) n) (purpose_at_fact (purpose y.rule) y.rule q y.args (length (map facts ts)))
      ∙ same_below (goal_table d y.rule q y.args (length (map facts ts))) y.children n
      ∙ sym two

  fact_same : (t : Deriv) → IsSame t
  fact_same = ind-Deriv IsSame (λ x y is. subst (λ (z : Deriv-F Deriv). IsSame (roll-Deriv z)) is (same_node y))

  -- the facts of a node, each with its child
  facts_same : (ts : List Deriv) (s : SymState) (gs : List Pure) (n : ℕ)
      → walk_all (map tasks ts) (facts_to_prove s gs) n ≡ children_walked (goal_table d) s ts gs n
  facts_same [] s gs n = refl
  facts_same (t ∷ ts) s [] n = refl
  facts_same (t ∷ ts) s (g ∷ gs) n =
      ap (λ (v : Walked). and_then v (λ m. walk_all (map tasks ts) (facts_to_prove s gs) m)) (fact_same t (sequent s g) n)
      ∙ then_same (facts t (sequent s g) n) (λ m. walk_all (map tasks ts) (facts_to_prove s gs) m) (λ m. children_walked (goal_table d) s ts gs m) (λ m. facts_same ts s gs m)

  count_of_facts : (s : SymState) (gs : List Pure) → length (facts_to_prove s gs) ≡ length gs
  count_of_facts s [] = refl
  count_of_facts s (g ∷ gs) = ap suc (count_of_facts s gs)

  parts_of : (ts : List Deriv) (s : SymState) (gs : List Pure) (us : List Task) (n : ℕ)
      → walk_all (map tasks ts) (facts_to_prove s gs ++ us) n ≡ and_then (children_walked (goal_table d) s ts gs n) (walk_all (map tasks (drop (length gs) ts)) us)
  parts_of ts s gs us n =
      in_parts (map tasks ts) (facts_to_prove s gs) us n
      ∙ ap (λ (v : Walked). and_then v (walk_all (drop (length (facts_to_prove s gs)) (map tasks ts)) us)) (facts_same ts s gs n)
      ∙ ap (λ (k : ℕ). and_then (children_walked (goal_table d) s ts gs n) (walk_all (drop k (map tasks ts)) us)) (count_of_facts s gs)
      ∙ ap (λ (ws : List (Walk Task)). and_then (children_walked (goal_table d) s ts gs n) (walk_all ws us)) (map_drop tasks (length gs) ts)

  pub facts_then : (ts : List Deriv) (s : SymState) (gs : List Pure) (us : List Task) (n last : ℕ) → children_walked (goal_table d) s ts gs n ≡ Ok last
      → walk_all (map tasks ts) (facts_to_prove s gs ++ us) n ≡ walk_all (map tasks (drop (length gs) ts)) us last
  facts_then ts s gs us n last e =
      parts_of ts s gs us n ∙ ap (λ (v : Walked). and_then v (walk_all (map tasks (drop (length gs) ts)) us)) e

  pub facts_refused : (ts : List Deriv) (s : SymState) (gs : List Pure) (us : List Task) (n : ℕ) (e : ℕ × ℕ) → children_walked (goal_table d) s ts gs n ≡ Err e
      → walk_all (map tasks ts) (facts_to_prove s gs ++ us) n ≡ Err e
  facts_refused ts s gs us n e fails =
      parts_of ts s gs us n ∙ ap (λ (v : Walked). and_then v (walk_all (map tasks (drop (length gs) ts)) us)) fails

  -- a node
  node_is : (t : Deriv) (r : Rest) (n : ℕ)
      → tasks t (Closes r) n
      ≡ walk_below (rests_to_close r (onward_at d function (out-Deriv t).rule r (out-Deriv t).args (length (out-Deriv t).children))) (map tasks (out-Deriv t).children) n
  node_is t r n =
      let y = out-Deriv t in
      ap (λ (w : Walk Task). w (Closes r) n) (fold_out-Deriv (Walk Task) (walk_step (rules d function)) t)
      ∙ ap (λ (k : ℕ). walk_below (rules d function y.rule (Closes r) y.args k) (map tasks y.children) n) (length-map y.children tasks)
      ∙ ap (λ (g : Result (List Task) ℕ). walk_below g (map tasks y.children) n) (purpose_at_rest (purpose y.rule) y.rule r y.args (length y.children))

  pub node_left : (t : Deriv) (r : Rest) (n : ℕ) (o : Onward) → onward_at d function (out-Deriv t).rule r (out-Deriv t).args (length (out-Deriv t).children) ≡ Ok o
      → tasks t (Closes r) n ≡ walk_all (map tasks (out-Deriv t).children) (facts_to_prove r.state o.goals ++ map Closes o.rests) (n + 1)
  node_left t r n o e =
      node_is t r n ∙ ap (λ (g : Result Onward ℕ). walk_below (rests_to_close r g) (map tasks (out-Deriv t).children) n) e

  pub node_refused : (t : Deriv) (r : Rest) (n p : ℕ) → onward_at d function (out-Deriv t).rule r (out-Deriv t).args (length (out-Deriv t).children) ≡ Err p
      → tasks t (Closes r) n ≡ Err (n, p)
  node_refused t r n p e =
      node_is t r n ∙ ap (λ (g : Result Onward ℕ). walk_below (rests_to_close r g) (map tasks (out-Deriv t).children) n) e
