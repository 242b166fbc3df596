-- A tree that closes the rest of a condition by the procedure is a derivation of it, where the trees that close facts are.
use Rattle.std.proofs.Common.{◌≡◌, ℕ, suc, ◌+◌, List, [], ◌∷◌, map, length, Option, Some, None, Result, Ok, Err, refl, ap, sym, ◌∙◌, subst, inl, inr}
use Rattle.bed_lang.specs.declared.word.Name.{Name}
use Rattle.bed_lang.specs.declared.logic.Arg.{Arg}
use Rattle.bed_lang.specs.declared.condition.Decls.{Decls}
use Rattle.bed_deriv.specs.declared.derivation.Rule.{Rule}
use Rattle.bed_deriv.specs.declared.derivation.Rule.TheVariants as rule
use Rattle.bed_deriv.specs.declared.derivation.DArg.{DArg}
use Rattle.bed_deriv.specs.declared.derivation.Deriv.{Deriv, Deriv-F, roll-Deriv, map-Deriv, ind-Deriv, fold-roll-Deriv}
use Rattle.bed_deriv.specs.declared.state.Sequent.{Sequent}
use Rattle.bed_deriv.specs.declared.rest.Rest.{Rest}
use Rattle.bed_deriv.specs.declared.rest.Task.{Task}
use Rattle.bed_deriv.specs.declared.rest.Task.TheVariants.{Proves, Closes}
use Rattle.bed_deriv.specs.Walk.{Table, Walked, Walk, and_then, walk_all, walk_below, walk_step, walk}
use Rattle.bed_deriv.specs.Derives.{fact_table, proofs, rules}
use Rattle.bed_search.specs.declared.ahead.Todo.{Todo}
use Rattle.bed_plain.specs.Trees.{AllOf, Choice, node}
use Rattle.bed_search.specs.Given.{Gives, given_by, given_in, gives_behind}
use Rattle.bed_search.specs.Procedure.{Ways, ClosesFact, ClosesTask, IsNode, GoesBy, ClosesBy}

-- ---- trees that a table accepts

module _ {T : Type 0} (table : Table T) where
  -- the tree is accepted for the thing, whatever number its root has
  abbrev pub IsAccepted : T → Deriv → Type 0
  IsAccepted x t = (n : ℕ) → (m : ℕ) × (walk table t x n ≡ Ok m)

  abbrev AreAccepted : List T → List Deriv → Type 0
  AreAccepted xs ts = (n : ℕ) → (m : ℕ) × (walk_all (map (walk table) ts) xs n ≡ Ok m)

  pub all_accepted : (xs : List T) (ts : List Deriv) → AllOf IsAccepted xs ts → AreAccepted xs ts
  all_accepted [] [] all n = (n, refl)
  all_accepted [] (t ∷ ts) all n = absurd all
  all_accepted (x ∷ xs) [] all n = absurd all
  all_accepted (x ∷ xs) (t ∷ ts) all n =
      let (k, first) = all.0 n in
      let (m, others) = all_accepted xs ts all.1 k in
      (m, ap (λ w. and_then w (λ k. walk_all (map (walk table) ts) xs k)) first ∙ others)

  pub same_count : (ts : List Deriv) → length (map (walk table) ts) ≡ length ts
  same_count [] = refl
  same_count (t ∷ ts) = ap suc (same_count ts)

  -- a node is accepted where it is an instance and its children are accepted
  pub node_accepted : (r : Rule) (x : T) (args : List DArg) (xs : List T) (ts : List Deriv) → table r x args (length ts) ≡ Ok xs → AllOf IsAccepted xs ts
      → IsAccepted x (node r args ts)
  node_accepted r x args xs ts is all n =
      let (m, walked) = all_accepted xs ts all (n + 1) in (
        m,
        ap (λ (w : Walk T). w x n) (fold-roll-Deriv (Walk T) (walk_step table) (record { rule = r; args = args; children = ts }))
            ∙ ap (λ (o : Result (List T) ℕ). walk_below o (map (walk table) ts) n) (ap (table r x args) (same_count ts) ∙ is)
            ∙ walked,
      )

-- ---- derivations of facts, by the table of all rules

module _ (d : Decls) (function : Name) where
  -- an instance for a fact is one in the table of all rules
  fact_rule : (r : Rule) (q : Sequent) (args : List DArg) (n : ℕ) (qs : List Sequent) → fact_table d r q args n ≡ Ok qs
      → rules d function r (Proves q) args n ≡ Ok (map Proves qs)
  fact_rule rule.Hyp q args n qs e = ap proofs e
  fact_rule rule.Norm q args n qs e = ap proofs e
  fact_rule rule.Comb q args n qs e = ap proofs e
  fact_rule rule.Solve q args n qs e = ap proofs e
  fact_rule rule.Uncons q args n qs e = ap proofs e
  fact_rule rule.Chain q args n qs e = ap proofs e
  fact_rule rule.Order q args n qs e = ap proofs e
  fact_rule rule.Cut q args n qs e = ap proofs e
  fact_rule rule.Carry q args n qs e = ap proofs e
  fact_rule rule.Split q args n qs e = ap proofs e
  fact_rule rule.Absurd q args n qs e = ap proofs e
  fact_rule rule.Void q args n qs e = ap proofs e
  fact_rule rule.Member q args n qs e = ap proofs e
  fact_rule rule.Lacks q args n qs e = ap proofs e
  fact_rule rule.Part q args n qs e = ap proofs e
  fact_rule rule.One q args n qs e = ap proofs e
  fact_rule rule.Distinct q args n qs e = ap proofs e
  fact_rule rule.Bound q args n qs e = ap proofs e
  fact_rule rule.Label q args n qs e = ap proofs e
  fact_rule _ q args n qs e = absurd (cc)

  then_parts : (w : Walked) (f : ℕ → Walked) (m : ℕ) → and_then w f ≡ Ok m → (k : ℕ) × (w ≡ Ok k) × (f k ≡ Ok m)
  then_parts (Ok k) f m e = (k, refl, e)
  then_parts (Err v) f m e = absurd (cc)

  abbrev IsCarried : Deriv → Type 0
  IsCarried t = (q : Sequent) (n m : ℕ) → walk (fact_table d) t q n ≡ Ok m → walk (rules d function) t (Proves q) n ≡ Ok m

  abbrev first : (t : Deriv) × IsCarried t → Deriv
  first c = c.0

  abbrev fact_walks : List ((t : Deriv) × IsCarried t) → List (Walk Sequent)
  fact_walks cs = map (walk (fact_table d)) (map first cs)

  abbrev task_walks : List ((t : Deriv) × IsCarried t) → List (Walk Task)
  task_walks cs = map (walk (rules d function)) (map first cs)

  children_carried : (cs : List ((t : Deriv) × IsCarried t)) (qs : List Sequent) (n m : ℕ) → walk_all (fact_walks cs) qs n ≡ Ok m → walk_all (task_walks cs) (map Proves qs) n ≡ Ok m
  children_carried [] qs n m e = e
  children_carried (c ∷ cs) [] n m e = e
  children_carried (c ∷ cs) (q ∷ qs) n m e =
      let (k, one, others) = then_parts (walk (fact_table d) c.0 q n) (λ k. walk_all (fact_walks cs) qs k) m e in
      ap (λ w. and_then w (λ k. walk_all (task_walks cs) (map Proves qs) k)) (c.1 q n k one) ∙ children_carried cs qs k m others

  below_carried : (cs : List ((t : Deriv) × IsCarried t)) (o : Result (List Sequent) ℕ) (p : Result (List Task) ℕ) (n m : ℕ)
      → ((qs : List Sequent) → o ≡ Ok qs → p ≡ Ok (map Proves qs)) → walk_below o (fact_walks cs) n ≡ Ok m → walk_below p (task_walks cs) n ≡ Ok m
  below_carried cs (Err v) p n m to e = absurd (cc)
  below_carried cs (Ok qs) p n m to e = ap (λ (o : Result (List Task) ℕ). walk_below o (task_walks cs) n) (to qs refl) ∙ children_carried cs qs (n + 1) m e

  node_carried : (y : Deriv-F ((t : Deriv) × IsCarried t)) → IsCarried (roll-Deriv (map-Deriv _ _ (λ c. c.0) y))
  node_carried y q n m e =
      ap (λ (w : Walk Task). w (Proves q) n) (fold-roll-Deriv (Walk Task) (walk_step (rules d function)) (map-Deriv _ _ (λ c. c.0) y))
      ∙ below_carried y.children (fact_table d y.rule q y.args (length (fact_walks y.children))) (rules d function y.rule (Proves q) y.args (length (task_walks y.children))) n m
      (λ qs is. ap (rules d function y.rule (Proves q) y.args) (same_count (rules d function) (map first y.children))
      ∙ fact_rule y.rule q y.args (length (map first y.children)) qs (sym (ap (fact_table d y.rule q y.args) (same_count (fact_table d) (map first y.children))) ∙ is))
      (subst (λ (w : Walk Sequent). w q n ≡ Ok m) (fold-roll-Deriv (Walk Sequent) (walk_step (fact_table d)) (map-Deriv _ _ (λ c. c.0) y)) e)

  pub carried : (t : Deriv) → IsCarried t
  carried = ind-Deriv IsCarried (λ x y is. subst (λ (z : Deriv-F Deriv). IsCarried (roll-Deriv z)) is (node_carried y))

-- ---- trees by the procedure

-- where each tree that closes a fact is accepted for it
module _ (w : Ways) (accepted : (q : Sequent) (t : Deriv) → ClosesFact w q t → IsAccepted (fact_table w.decls) q t) where
  abbrev pub IsDerived : Task → Deriv → Type 0
  IsDerived = IsAccepted (rules w.decls w.function)

  abbrev AreDerived : (Rest → Deriv → Type 0) → Type 0
  AreDerived K = (r : Rest) (t : Deriv) → K r t → IsDerived (Closes r) t

  task_derived : (K : Rest → Deriv → Type 0) → AreDerived K → (x : Task) (t : Deriv) → ClosesTask w K x t → IsDerived x t
  task_derived K derived (Proves q) t is n = let (m, e) = accepted q t is n in (m, carried w.decls w.function t q n m e)
  task_derived K derived (Closes r) t is n = derived r t is n

  tasks_derived : (K : Rest → Deriv → Type 0) → AreDerived K → (xs : List Task) (ts : List Deriv) → AllOf (ClosesTask w K) xs ts → AllOf IsDerived xs ts
  tasks_derived K derived [] [] all = tt
  tasks_derived K derived [] (t ∷ ts) all = all
  tasks_derived K derived (x ∷ xs) [] all = all
  tasks_derived K derived (x ∷ xs) (t ∷ ts) all = (task_derived K derived x t all.0, tasks_derived K derived xs ts all.1)

  node_derived : (K : Rest → Deriv → Type 0) → AreDerived K → (r : Rest) (k : Choice) (t : Deriv) → IsNode w K r k t → IsDerived (Closes r) t
  node_derived K derived r k t is =
      subst (λ u. IsDerived (Closes r) u) (sym is.is)
      (node_accepted (rules w.decls w.function) k.0 (Closes r) k.1 is.tasks is.children is.accepted (tasks_derived K derived is.tasks is.children is.closed))

  goes_derived : (o : Option (Name × Arg)) (x : Todo) (K : Gives → Rest → Deriv → Type 0) → ((vs : Gives) → AreDerived (K vs)) → (vs : Gives) (r : Rest) (t : Deriv)
      → GoesBy w o x K vs r t → IsDerived (Closes r) t
  goes_derived (Some g) x K derived vs r t is = derived (given_in r.state vs g.0 g.1) r t is
  goes_derived None x K derived vs r t (k, picks, is) = node_derived (K (gives_behind x r vs)) (derived (gives_behind x r vs)) r k t is

  pub closing_derived : (xs : List Todo) (vs : Gives) (r : Rest) (t : Deriv) → ClosesBy w xs vs r t → IsDerived (Closes r) t
  closing_derived [] vs r t is = absurd is
  closing_derived (x ∷ xs) vs r t (inl dead) = node_derived (λ e u. ⊥) (λ e u no'. absurd no') r (rule.Never, []) t dead.1
  closing_derived (x ∷ xs) vs r t (inr live) = goes_derived (given_by x) x (ClosesBy w xs) (closing_derived xs) vs r t live.1
