-- When trees are refused: of lists from those of their parts, of nodes from those of their children.
use Rattle.std.proofs.Common.{◌≡◌, ℕ, ◌+◌, ◌-◌, ◌≤◌, ◌<◌, max, ◌⊎◌, inl, inr, List, [], ◌∷◌, ◌++◌, map, length, Option, Some, None, Ok, refl, sym, ◌∙◌, subst, arith}
use Rattle.bed_deriv.specs.declared.derivation.Rule.{Rule}
use Rattle.bed_deriv.specs.declared.derivation.DArg.{DArg}
use Rattle.bed_deriv.specs.declared.derivation.Deriv.{Deriv, fold-roll-Deriv, ind-Deriv}
use Rattle.bed_deriv.specs.declared.rest.Rest.{Rest}
use Rattle.bed_deriv.specs.declared.rest.Task.{Task}
use Rattle.bed_deriv.specs.declared.rest.Task.TheVariants.{Proves, Closes}
use Rattle.bed_deriv.specs.Derives.{rules}
use Rattle.bed_search.specs.declared.tree.Measured.{Measured}
use Rattle.bed_plain.specs.Trees.{AllOf, Choice, node, nodes, nesting, nodes_step, nesting_step, total, greatest}
use Rattle.bed_search.specs.Procedure.{Ways, ClosesFact, ClosesTask, IsNode}
use Rattle.bed_search.specs.Answers.{IsLarge, HasLarge, IsRefused, AreLarge, HaveLarge, AreRefused, AnswersTree}
use Rattle.bed_search.specs.Layers.{facts_among}
use Rattle.bed_search.proofs.SteadyLaws.{steady}

-- ---- sizes

pub nodes_of_node : (r : Rule) (args : List DArg) (ts : List Deriv) → nodes (node r args ts) ≡ 1 + total (map nodes ts)
nodes_of_node r args ts = fold-roll-Deriv ℕ nodes_step (record { rule = r; args = args; children = ts })

pub nesting_of_node : (r : Rule) (args : List DArg) (ts : List Deriv) → nesting (node r args ts) ≡ 1 + greatest (map nesting ts)
nesting_of_node r args ts = fold-roll-Deriv ℕ nesting_step (record { rule = r; args = args; children = ts })

pub nodes-some : (t : Deriv) → 0 < nodes t
nodes-some = ind-Deriv (λ t. 0 < nodes t) (λ x y is. let e = nodes_of_node x.rule x.args x.children in omega arith)

pub nesting-some : (t : Deriv) → 0 < nesting t
nesting-some = ind-Deriv (λ t. 0 < nesting t) (λ x y is. let e = nesting_of_node x.rule x.args x.children in omega arith)

pub total-append : (ts us : List Deriv) → total (map nodes (ts ++ us)) ≡ total (map nodes ts) + total (map nodes us)
total-append [] us = omega arith
total-append (t ∷ ts) us = let e = total-append ts us in omega arith

pub greatest-append : (ts us : List Deriv) → greatest (map nesting (ts ++ us)) ≡ max (greatest (map nesting ts)) (greatest (map nesting us))
greatest-append [] us = omega arith
greatest-append (t ∷ ts) us = let e = greatest-append ts us in omega arith

-- ---- lists of things

module _ {T : Type 0} (C : T → Deriv → Type 0) where
  -- the first thing has no small tree
  pub first_refused : (x : T) (xs : List T) (n k : ℕ) → IsRefused C x n k → AreRefused C (x ∷ xs) n k
  first_refused x xs n k refused [] closed = absurd closed
  first_refused x xs n k refused (t ∷ ts) closed = with_large (refused t closed.0) where
    with_large : HasLarge C x n k → HaveLarge C (x ∷ xs) n k
    with_large (u, is, inl more) = (u ∷ ts, (is, closed.1), inl (omega arith))
    with_large (u, is, inr deeper) = (u ∷ ts, (is, closed.1), inr (omega arith))

  -- the first thing has a tree, and then the others have no small ones
  pub others_refused : (x : T) (xs : List T) (n k m : ℕ) (u : Deriv) → C x u → n ≤ nodes u + m → AreRefused C xs m k → AreRefused C (x ∷ xs) n k
  others_refused x xs n k m u is small refused [] closed = absurd closed
  others_refused x xs n k m u is small refused (t ∷ ts) closed = with_large (refused ts closed.1) where
    with_large : HaveLarge C xs m k → HaveLarge C (x ∷ xs) n k
    with_large (us, are, inl more) = (u ∷ us, (is, are), inl (omega arith))
    with_large (us, are, inr deeper) = (u ∷ us, (is, are), inr (omega arith))

  -- a tree that is too large itself
  pub large_refused : (x : T) (n k : ℕ) (u : Deriv) → C x u → IsLarge C n k u → IsRefused C x n k
  large_refused x n k u is large t closed = (u, is, large)

  -- no tree at all
  pub none_refused : (x : T) (n k : ℕ) → ((t : Deriv) → C x t → ⊥) → IsRefused C x n k
  none_refused x n k none t closed = absurd (none t closed)

  -- a tree has at least one node
  pub nothing_small : (x : T) (n k : ℕ) → (n ≡ 0) ⊎ (k ≡ 0) → IsRefused C x n k
  nothing_small x n k (inl no-nodes) t is = (t, is, inl (let e = nodes-some t in omega arith))
  nothing_small x n k (inr no-nesting) t is = (t, is, inr (let e = nesting-some t in omega arith))

  pub length_all : (xs : List T) (ts : List Deriv) → AllOf C xs ts → length xs ≡ length ts
  length_all [] [] closed = refl
  length_all [] (t ∷ ts) closed = absurd closed
  length_all (x ∷ xs) [] closed = absurd closed
  length_all (x ∷ xs) (t ∷ ts) closed = let e = length_all xs ts closed.1 in omega arith

  -- fewer nodes are passed sooner
  module _ (xs : List T) (n k m : ℕ) (small : n ≤ m) where
    smaller_large : HaveLarge C xs m k → HaveLarge C xs n k
    smaller_large (ts, are, inl more) = (ts, are, inl (omega arith))
    smaller_large (ts, are, inr more) = (ts, are, inr more)

    pub smaller_refused : AreRefused C xs m k → AreRefused C xs n k
    smaller_refused refused ts is = smaller_large (refused ts is)

  -- things with trees, and then others that are refused
  pub prefix_refused : (xs ys : List T) (ts : List Deriv) (n k m : ℕ) → AllOf C xs ts → n ≤ total (map nodes ts) + m
      → AreRefused C ys m k → AreRefused C (xs ++ ys) n k
  prefix_refused [] ys [] n k m are small refused = smaller_refused ys n k m (omega arith) refused
  prefix_refused [] ys (t ∷ ts) n k m are small refused = absurd are
  prefix_refused (x ∷ xs) ys [] n k m are small refused = absurd are
  prefix_refused (x ∷ xs) ys (t ∷ ts) n k m are small refused =
      others_refused x (xs ++ ys) n k (n - nodes t) t are.0 (omega arith) (prefix_refused xs ys ts (n - nodes t) k m are.1 (omega arith) refused)

  pub all-append : (xs ys : List T) (ts us : List Deriv) → AllOf C xs ts → AllOf C ys us → AllOf C (xs ++ ys) (ts ++ us)
  all-append [] ys [] us are more = more
  all-append [] ys (t ∷ ts) us are more = absurd are
  all-append (x ∷ xs) ys [] us are more = absurd are
  all-append (x ∷ xs) ys (t ∷ ts) us are more = (are.0, all-append xs ys ts us are.1 more)

  abbrev Halves : List T → List T → Type 0
  Halves xs ys = (us ws : List Deriv) × AllOf C xs us × AllOf C ys ws

  pub halves : (xs ys : List T) (ts : List Deriv) → AllOf C (xs ++ ys) ts → Halves xs ys
  halves [] ys ts are = ([], ts, tt, are)
  halves (x ∷ xs) ys [] are = absurd are
  halves (x ∷ xs) ys (t ∷ ts) are = let (us, ws, first, others) = halves xs ys ts are.1 in (t ∷ us, ws, (are.0, first), others)

-- ---- nodes

module _ (w : Ways) (K : Rest → Deriv → Type 0) where
  abbrev NodeOf : Choice → Rest → Deriv → Type 0
  NodeOf k r t = IsNode w K r k t

  -- trees for facts among what a node leaves, in place of those that it has
  abbrev Replaced : List Task → ℕ → ℕ → Type 0
  Replaced ts n k = HaveLarge (ClosesTask w K) ts n k

  abbrev Split : List Task → Type 0
  Split ts = (us : List Deriv) × AllOf (ClosesFact w) (facts_among ts) us

  facts_closed : (ts : List Task) (us : List Deriv) → AllOf (ClosesTask w K) ts us → Split ts
  facts_closed [] [] all = ([], tt)
  facts_closed [] (u ∷ us) all = absurd all
  facts_closed (Proves q ∷ ts) [] all = absurd all
  facts_closed (Closes r ∷ ts) [] all = absurd all
  facts_closed (Proves q ∷ ts) (u ∷ us) all = let (ws, are) = facts_closed ts us all.1 in (u ∷ ws, (all.0, are))
  facts_closed (Closes r ∷ ts) (u ∷ us) all = facts_closed ts us all.1

  abbrev Mixed : List Task → List Deriv → Type 0
  Mixed ts ws = (us : List Deriv) × AllOf (ClosesTask w K) ts us × (total (map nodes ws) ≤ total (map nodes us)) × (greatest (map nesting ws) ≤ greatest (map nesting us))

  mixed : (ts : List Task) (us ws : List Deriv) → AllOf (ClosesTask w K) ts us → AllOf (ClosesFact w) (facts_among ts) ws → Mixed ts ws
  mixed [] [] [] all facts = ([], tt, omega arith, omega arith)
  mixed [] [] (v ∷ ws) all facts = absurd facts
  mixed [] (u ∷ us) ws all facts = absurd all
  mixed (Proves q ∷ ts) [] ws all facts = absurd all
  mixed (Closes r ∷ ts) [] ws all facts = absurd all
  mixed (Proves q ∷ ts) (u ∷ us) [] all facts = absurd facts
  mixed (Proves q ∷ ts) (u ∷ us) (v ∷ ws) all facts =
      let (vs, are, more, deeper) = mixed ts us ws all.1 facts.1 in (v ∷ vs, (facts.0, are), omega arith, omega arith)
  mixed (Closes r ∷ ts) (u ∷ us) ws all facts =
      let (vs, are, more, deeper) = mixed ts us ws all.1 facts in (u ∷ vs, (all.0, are), omega arith, omega arith)

  -- facts that are refused refuse all that a node leaves
  pub facts_refused : (ts : List Task) (n k : ℕ) → AreRefused (ClosesFact w) (facts_among ts) n k → AreRefused (ClosesTask w K) ts n k
  facts_refused ts n k refused us all = with_large (refused (facts_closed ts us all).0 (facts_closed ts us all).1) where
    with_large : HaveLarge (ClosesFact w) (facts_among ts) n k → HaveLarge (ClosesTask w K) ts n k
    with_large (ws, are, inl more) = let (vs, all', few, deep) = mixed ts us ws all are in (vs, all', inl (omega arith))
    with_large (ws, are, inr more) = let (vs, all', few, deep) = mixed ts us ws all are in (vs, all', inr (omega arith))

  module _ (r : Rest) (k : Choice) (tasks : List Task) (m : ℕ) (accepted : rules w.decls w.function k.0 (Closes r) k.1 m ≡ Ok tasks) where
    large_node : (us : List Deriv) (n depth : ℕ) → AreLarge (ClosesTask w K) n depth us → IsLarge (NodeOf k) (1 + n) (1 + depth) (node k.0 k.1 us)
    large_node us n depth (inl more) = inl (let e = nodes_of_node k.0 k.1 us in omega arith)
    large_node us n depth (inr more) = inr (let e = nesting_of_node k.0 k.1 us in omega arith)

    same_tasks : (t : Deriv) (is : NodeOf k r t) → is.tasks ≡ tasks
    same_tasks t is = steady w.decls w.function k.0 (Closes r) k.1 (length is.children) m is.tasks tasks is.accepted accepted

    -- a node whose children are refused
    pub node_refused : (n depth : ℕ) → AreRefused (ClosesTask w K) tasks n depth → IsRefused (NodeOf k) r (1 + n) (1 + depth)
    node_refused n depth refused t is = with_large (refused is.children (subst (λ ts. AllOf (ClosesTask w K) ts is.children) (same_tasks t is) is.closed)) where
      remade : (us : List Deriv) → AllOf (ClosesTask w K) tasks us → NodeOf k r (node k.0 k.1 us)
      remade us are = record {
        children = us;
        is = refl;
        tasks = tasks;
        accepted = subst (λ (n : ℕ). rules w.decls w.function k.0 (Closes r) k.1 n ≡ Ok tasks)
            (sym (length_all (ClosesTask w K) tasks is.children (subst (λ ts. AllOf (ClosesTask w K) ts is.children) (same_tasks t is) is.closed)) ∙ length_all (ClosesTask w K) tasks us are)
            (subst (λ ts. rules w.decls w.function k.0 (Closes r) k.1 (length is.children) ≡ Ok ts) (same_tasks t is) is.accepted);
        closed = are;
      }

      with_large : HaveLarge (ClosesTask w K) tasks n depth → HasLarge (NodeOf k) r (1 + n) (1 + depth)
      with_large (us, all, large) = (node k.0 k.1 us, remade us all, large_node us n depth large)

-- ---- answers

-- answers for one way of closing are answers for another one, where they close the same things
module _ {T : Type 0} (C B : T → Deriv → Type 0) (x : T) (n k : ℕ) (to : (t : Deriv) → C x t → B x t) (from : (t : Deriv) → B x t → C x t) where
  large_as : HasLarge C x n k → HasLarge B x n k
  large_as (u, has, large) = (u, to u has, large)

  pub answers_as : (o : Option Measured) → AnswersTree C o x n k → AnswersTree B o x n k
  answers_as (Some t) a = (to t.tree a.0, a.1, a.2, a.3)
  answers_as None refused = λ t is. large_as (refused t (from t is))
