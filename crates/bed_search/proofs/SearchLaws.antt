-- The answer for the rest of a condition from those for the parts of a tree: the first children of a node, what it leaves, and what comes
-- behind.
use Rattle.std.proofs.Common.{◌≡◌, ℕ, ◌+◌, ◌-◌, ◌≤◌, ◌<◌, max, ◌⊎◌, inl, inr, List, [], ◌∷◌, ◌++◌, map, length, Option, Some, None, Ok, refl, ap, sym, ◌∙◌, subst, arith}
use Rattle.std.proofs.lemmas.List.{append_assoc, append-nil}
use Rattle.bed_lang.specs.declared.word.Name.{Name}
use Rattle.bed_lang.specs.declared.logic.Arg.{Arg}
use Rattle.bed_deriv.specs.declared.derivation.Rule.TheVariants as rule
use Rattle.bed_deriv.specs.declared.derivation.Deriv.{Deriv}
use Rattle.bed_deriv.specs.declared.state.Sequent.{Sequent}
use Rattle.bed_deriv.specs.declared.rest.Rest.{Rest}
use Rattle.bed_deriv.specs.declared.rest.Task.{Task}
use Rattle.bed_deriv.specs.declared.rest.Task.TheVariants.{Proves, Closes}
use Rattle.bed_deriv.specs.Checks.{sequent}
use Rattle.bed_deriv.specs.Derives.{rules}
use Rattle.bed_search.specs.declared.ahead.Todo.{Todo}
use Rattle.bed_search.specs.declared.tree.Measured.{Measured}
use Rattle.bed_search.specs.declared.layers.Falsity.TheVariants.{Shown, TooLarge}
use Rattle.bed_search.specs.declared.layers.Step.{Step}
use Rattle.bed_plain.specs.Trees.{AllOf, Choice, node, nodes, nesting}
use Rattle.bed_search.specs.Given.{Gives, given_by, given_in, gives_behind}
use Rattle.bed_search.specs.Procedure.{Ways, ClosesFact, ClosesTask, IsNode, GoesBy, Goes, ClosesBy, one_is_zero}
use Rattle.bed_search.specs.Answers.{IsLarge, HasLarge, IsRefused, HaveLarge, AreRefused, IsMeasured, AnswersTree}
use Rattle.bed_search.specs.Layers.{Refutes, PicksOnly, Opens, NoStep, AnswersNode, AnswersTrees, Grown, Done}
use Rattle.bed_search.proofs.SteadyLaws.{steady}
use Rattle.bed_search.proofs.RefusedLaws.{nodes_of_node, nesting_of_node, total-append, greatest-append, length_all, first_refused, large_refused, prefix_refused, all-append, halves, facts_refused, node_refused, answers_as}

-- ---- the loop over things that are to be closed in order

module _ {T : Type 0} (C : T → Deriv → Type 0) (xs : List T) (old : List Deriv) (n k : ℕ) where
  pub begun : Done C xs xs old old n k 0 0
  begun = record { done = []; are = refl; grown = record { trees = []; are = tt; behind = sym (append-nil old); nodes_are = refl; nesting_is = refl; few = omega arith; small = omega arith } }

  pub onward : (x : T) (more : List T) (new : List Deriv) (sum deepest : ℕ) (t : Measured) → Done C xs (x ∷ more) old new n k sum deepest
      → C x t.tree → IsMeasured t → t.nodes ≤ n - sum → t.nesting ≤ k
      → Done C xs more old (new ++ t.tree ∷ []) n k (sum + t.nodes) (max deepest t.nesting)
  onward x more new sum deepest t d is sized few small =
      let g = d.grown in
      record {
        done = d.done ++ x ∷ [];
        are = d.are ∙ sym (append_assoc d.done (x ∷ []) more);
        grown = record {
          trees = g.trees ++ t.tree ∷ [];
          are = all-append C d.done (x ∷ []) g.trees (t.tree ∷ []) g.are (is, tt);
          behind = ap (λ (ts : List Deriv). ts ++ t.tree ∷ []) g.behind ∙ append_assoc old g.trees (t.tree ∷ []);
          nodes_are = (let e = total-append g.trees (t.tree ∷ []) in let s = sized.nodes_are in let a = g.nodes_are in omega arith);
          nesting_is = (let e = greatest-append g.trees (t.tree ∷ []) in let s = sized.nesting_is in let a = g.nesting_is in omega arith);
          few = (let a = g.few in omega arith);
          small = (let a = g.small in omega arith);
        };
      }

  pub stuck : (x : T) (more : List T) (new : List Deriv) (sum deepest : ℕ) → Done C xs (x ∷ more) old new n k sum deepest
      → IsRefused C x (n - sum) k → AreRefused C xs n k
  stuck x more new sum deepest d refused =
      let g = d.grown in
      subst (λ ys. AreRefused C ys n k) (sym d.are)
      (prefix_refused C d.done (x ∷ more) g.trees n k (n - sum) g.are (let a = g.nodes_are in omega arith)
      (first_refused C x more (n - sum) k refused))

  -- where nothing is left
  pub all_done : (new : List Deriv) (sum deepest : ℕ) → Done C xs [] old new n k sum deepest → AnswersTrees C xs old new n k (Some (sum, deepest))
  all_done new sum deepest d = subst (λ ys. Grown C ys old new n k (sum, deepest)) (sym (d.are ∙ append-nil d.done)) d.grown

-- ---- a node over what a step proved and what it left

proofs-tasks : (w : Ways) (K : Rest → Deriv → Type 0) (qs : List Sequent) (ts : List Deriv)
    → AllOf (ClosesFact w) qs ts → AllOf (ClosesTask w K) (map Proves qs) ts
proofs-tasks w K [] [] are = tt
proofs-tasks w K [] (t ∷ ts) are = are
proofs-tasks w K (q ∷ qs) [] are = are
proofs-tasks w K (q ∷ qs) (t ∷ ts) are = (are.0, proofs-tasks w K qs ts are.1)

module _ (w : Ways) (K : Rest → Deriv → Type 0) where
  closes-tasks : (rs : List Rest) (ts : List Deriv) → AllOf K rs ts → AllOf (ClosesTask w K) (map Closes rs) ts
  closes-tasks [] [] are = tt
  closes-tasks [] (t ∷ ts) are = are
  closes-tasks (r ∷ rs) [] are = are
  closes-tasks (r ∷ rs) (t ∷ ts) are = (are.0, closes-tasks rs ts are.1)

  tasks-close : (rs : List Rest) (ts : List Deriv) → AllOf (ClosesTask w K) (map Closes rs) ts → AllOf K rs ts
  tasks-close [] [] are = tt
  tasks-close [] (t ∷ ts) are = are
  tasks-close (r ∷ rs) [] are = are
  tasks-close (r ∷ rs) (t ∷ ts) are = (are.0, tasks-close rs ts are.1)

  rests_large : (rs : List Rest) (n k : ℕ) → HaveLarge K rs n k → HaveLarge (ClosesTask w K) (map Closes rs) n k
  rests_large rs n k (ts, are, large) = (ts, closes-tasks rs ts are, large)

  rests_refused : (rs : List Rest) (n k : ℕ) → AreRefused K rs n k → AreRefused (ClosesTask w K) (map Closes rs) n k
  rests_refused rs n k refused ts are = rests_large rs n k (refused ts (tasks-close rs ts are))

module _ (w : Ways) (r : Rest) (s : Step) (opens : Opens w r s) (K : Rest → Deriv → Type 0) where
  abbrev NodeOf : Rest → Deriv → Type 0
  NodeOf e t = IsNode w K e (s.rule, s.args) t

  abbrev C : Task → Deriv → Type 0
  C = ClosesTask w K

  proved : AllOf C (map Proves opens.facts) s.proofs
  proved = proofs-tasks w K opens.facts s.proofs opens.proved

  abbrev tasks : List Task
  tasks = map Proves opens.facts ++ map Closes s.rests

  -- what it left has no small trees
  pub left_refused : (n k : ℕ) → s.nodes < n → s.nesting < k → AreRefused K s.rests (n - 1 - s.nodes) (k - 1) → IsRefused NodeOf r n k
  left_refused n k few small refused =
      let m = opens.nodes_are in
      subst (λ a. IsRefused NodeOf r a k) (omega arith) (subst (λ b. IsRefused NodeOf r (1 + (n - 1)) b) (omega arith)
      (node_refused w K r (s.rule, s.args) tasks (length tasks) opens.leaves (n - 1) (k - 1)
      (prefix_refused C (map Proves opens.facts) (map Closes s.rests) s.proofs (n - 1) (k - 1) (n - 1 - s.nodes) proved (omega arith)
      (rests_refused w K s.rests (n - 1 - s.nodes) (k - 1) refused))))

  -- a node over trees that close what it left
  pub node_closes : (ts : List Deriv) → AllOf C (map Closes s.rests) ts → NodeOf r (node s.rule s.args (s.proofs ++ ts))
  node_closes ts are = record {
    children = s.proofs ++ ts;
    is = refl;
    tasks = tasks;
    accepted = subst (λ n. rules w.decls w.function s.rule (Closes r) s.args n ≡ Ok tasks) (length_all C tasks (s.proofs ++ ts) all) opens.leaves;
    closed = all;
  } where
    all : AllOf C tasks (s.proofs ++ ts)
    all = all-append C (map Proves opens.facts) (map Closes s.rests) s.proofs ts proved are

  large_proofs : (n k : ℕ) (ts : List Deriv) → (n ≤ s.nodes) ⊎ (k ≤ s.nesting) → IsLarge NodeOf n k (node s.rule s.args (s.proofs ++ ts))
  large_proofs n k ts (inl many) = inl (let e = nodes_of_node s.rule s.args (s.proofs ++ ts) in let f = total-append s.proofs ts in let g = opens.nodes_are in omega arith)
  large_proofs n k ts (inr deep) = inr (let e = nesting_of_node s.rule s.args (s.proofs ++ ts) in let f = greatest-append s.proofs ts in let g = opens.nesting_is in omega arith)

  -- what it proved is too large already
  pub proofs_refused : (n k : ℕ) → (n ≤ s.nodes) ⊎ (k ≤ s.nesting) → IsRefused NodeOf r n k
  proofs_refused n k large t is =
      let all = subst (λ (ts : List Task). AllOf C ts is.children) (steady w.decls w.function s.rule (Closes r) s.args (length is.children) (length tasks) is.tasks tasks is.accepted opens.leaves) is.closed in
      let h = halves C (map Proves opens.facts) (map Closes s.rests) is.children all in
      (node s.rule s.args (s.proofs ++ h.1), node_closes h.1 h.3, large_proofs n k h.1 large)

  -- a node that is made or would be too large
  pub node_answers : (n k : ℕ) (ts : List Deriv) (o : Option Measured) → AllOf K s.rests ts → AnswersNode o (node s.rule s.args (s.proofs ++ ts)) n k
      → AnswersTree NodeOf o r n k
  node_answers n k ts None are large = large_refused NodeOf r n k (node s.rule s.args (s.proofs ++ ts)) (node_closes ts (closes-tasks w K s.rests ts are)) large
  node_answers n k ts (Some u) are a = (subst (λ t. NodeOf r t) (sym a.0) (node_closes ts (closes-tasks w K s.rests ts are)), a.1, a.2, a.3)

-- ---- one thing to do

module _ (w : Ways) (x : Todo) (more : List Todo) (vs : Gives) (r : Rest) (n k : ℕ) where
  abbrev Closing : Rest → Deriv → Type 0
  Closing = ClosesBy w (x ∷ more) vs

  abbrev Going : Rest → Deriv → Type 0
  Going e t = Goes w x (ClosesBy w more) vs e t

  abbrev Nothing : Rest → Deriv → Type 0
  Nothing e u = ⊥

  abbrev NeverOf : Rest → Deriv → Type 0
  NeverOf e u = IsNode w Nothing e (rule.Never, []) u

  abbrev Behind : Rest → Deriv → Type 0
  Behind = ClosesBy w more (gives_behind x r vs)

  abbrev Made : Rest → Deriv → Type 0
  Made e t = GoesBy w None x (ClosesBy w more) vs e t

  abbrev NodeBehind : Choice → Rest → Deriv → Type 0
  NodeBehind j e u = IsNode w Behind e j u

  -- a plainly false state is closed by never
  pub by_never : w.is_false r.state → (p : Deriv) → ClosesFact w (sequent r.state one_is_zero) p → Closing r (node rule.Never [] (p ∷ []))
  by_never dead p closes = inl (dead, record { children = p ∷ []; is = refl; tasks = Proves (sequent r.state one_is_zero) ∷ []; accepted = refl; closed = (closes, tt) })

  pub never_answers : (p : Measured) (a b : ℕ) (o : Option Measured) → Refutes w r.state a b (Shown p) → AnswersNode o (node rule.Never [] (p.tree ∷ [])) n k → AnswersTree Closing o r n k
  never_answers p a b None dead large = large_refused Closing r n k (node rule.Never [] (p.tree ∷ [])) (by_never dead.0 p.tree dead.1) large
  never_answers p a b (Some u) dead made = (subst (λ t. Closing r t) (sym made.0) (by_never dead.0 p.tree dead.1), made.1, made.2, made.3)

  -- the trees that show it are too large
  pub never_refused : 0 < n → 0 < k → Refutes w r.state (n - 1) (k - 1) TooLarge → IsRefused Closing r n k
  never_refused some-nodes some-nesting dead t (inr alive) = absurd (alive.0 dead.0)
  never_refused some-nodes some-nesting dead t (inl never) =
      with_large (subst (λ a. IsRefused NeverOf r a k) (omega arith) (subst (λ b. IsRefused NeverOf r (1 + (n - 1)) b) (omega arith)
      (node_refused w Nothing r (rule.Never, []) (Proves (sequent r.state one_is_zero) ∷ []) 1 refl (n - 1) (k - 1)
      (facts_refused w Nothing (Proves (sequent r.state one_is_zero) ∷ []) (n - 1) (k - 1) (first_refused (ClosesFact w) (sequent r.state one_is_zero) [] (n - 1) (k - 1) dead.1)))) t never.1) where
        with_large : HasLarge NeverOf r n k → HasLarge Closing r n k
        with_large (u, is, large) = (u, inl (dead.0, is), large)

  module _ (live : w.is_false r.state → ⊥) where
    -- in a state that isn't plainly false the next thing is done
    pub goes_on : (o : Option Measured) → AnswersTree Going o r n k → AnswersTree Closing o r n k
    goes_on = answers_as Going Closing r n k (λ t is. inr (live, is)) back where
      back : (t : Deriv) → Closing r t → Going r t
      back t (inl dead) = absurd (live dead.0)
      back t (inr goes) = goes.1

    -- a hint `give` goes on
    pub gives_on : (g : Name × Arg) → given_by x ≡ Some g → (o : Option Measured) → AnswersTree (ClosesBy w more (given_in r.state vs g.0 g.1)) o r n k → AnswersTree Closing o r n k
    gives_on g is o a = goes_on o (subst (λ h. AnswersTree (λ (e : Rest) (t : Deriv). GoesBy w h x (ClosesBy w more) vs e t) o r n k) (sym is) (answers_as _ _ r n k (λ t c. c) (λ t c. c) o a))

    -- a node of what is picked
    pub picked : given_by x ≡ None → (j : Choice) → PicksOnly w x vs r j → (o : Option Measured)
        → AnswersTree (λ (e : Rest) (t : Deriv). IsNode w (ClosesBy w more (gives_behind x r vs)) e j t) o r n k → AnswersTree Closing o r n k
    picked is j picks o a =
        goes_on o (subst (λ h. AnswersTree (λ (e : Rest) (t : Deriv). GoesBy w h x (ClosesBy w more) vs e t) o r n k) (sym is)
        (answers_as _ _ r n k (λ t is-node. (j, picks.0, is-node)) back o a)) where
          back : (t : Deriv) → GoesBy w None x (ClosesBy w more) vs r t → IsNode w (ClosesBy w more (gives_behind x r vs)) r j t
          back t (i, picks', is-node) = subst (λ (c : Choice). IsNode w (ClosesBy w more (gives_behind x r vs)) r c t) (picks.1 i picks') is-node

    made_refused : (j : Choice) (t : Deriv) → w.picks x vs r j → NodeBehind j r t → IsRefused (NodeBehind j) r n k → HasLarge Made r n k
    made_refused j t picks is refused = with_large (refused t is) where
      with_large : HasLarge (NodeBehind j) r n k → HasLarge Made r n k
      with_large (u, u-is, large) = (u, (j, picks, u-is), large)

    small_refused : (j : Choice) → 0 < n → 0 < k → IsRefused (NodeBehind j) r (1 + (n - 1)) (1 + (k - 1)) → IsRefused (NodeBehind j) r n k
    small_refused j some-nodes some-nesting refused =
        subst (λ a. IsRefused (NodeBehind j) r a k) (omega arith) (subst (λ b. IsRefused (NodeBehind j) r (1 + (n - 1)) b) (omega arith) refused)

    none_made : 0 < n → 0 < k → NoStep w x vs r (n - 1) (k - 1) → IsRefused Made r n k
    none_made some-nodes some-nesting none t (j, picks, is-node) =
        made_refused j t picks is-node (small_refused j some-nodes some-nesting
        (node_refused w Behind r j is-node.tasks (length is-node.children) is-node.accepted (n - 1) (k - 1)
        (facts_refused w Behind is-node.tasks (n - 1) (k - 1) (none j picks (length is-node.children) is-node.tasks is-node.accepted))))

    -- no step
    pub no_step : given_by x ≡ None → 0 < n → 0 < k → NoStep w x vs r (n - 1) (k - 1) → IsRefused Closing r n k
    no_step is some-nodes some-nesting none =
        goes_on None (subst (λ h. IsRefused (λ (e : Rest) (t : Deriv). GoesBy w h x (ClosesBy w more) vs e t) r n k) (sym is) (none_made some-nodes some-nesting none))

-- ---- the whole: where trees are refused at some bounds, not all of them keep to these

pub refused_not_small : {T : Type 0} (C : T → Deriv → Type 0) (x : T) (n k : ℕ) → IsRefused C x n k → (t : Deriv) → C x t
    → ((u : Deriv) → C x u → nodes u ≤ n) → ((u : Deriv) → C x u → nesting u ≤ k) → ⊥
refused_not_small C x n k refused t is few small = too_large (refused t is) where
  too_large : HasLarge C x n k → ⊥
  too_large (u, closes, inl more) = let fewer = few u closes in omega arith
  too_large (u, closes, inr more) = let smaller = small u closes in omega arith
