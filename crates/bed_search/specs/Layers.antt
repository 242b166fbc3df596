-- What the layers below promise to the search.
use Rattle.std.specs.Prelude.{◌≡◌, ℕ, ◌≤◌, ◌<◌, ◌⊎◌, true, List, [], ◌∷◌, ◌++◌, length, map, Option, Some, None, Ok}
use Rattle.bed_deriv.specs.declared.derivation.Deriv.{Deriv}
use Rattle.bed_deriv.specs.declared.state.SymState.{SymState}
use Rattle.bed_deriv.specs.declared.state.Sequent.{Sequent}
use Rattle.bed_deriv.specs.declared.rest.Rest.{Rest}
use Rattle.bed_deriv.specs.declared.rest.Task.{Task}
use Rattle.bed_deriv.specs.declared.rest.Task.TheVariants.{Proves, Closes}
use Rattle.bed_deriv.specs.Checks.{sequent, have_room}
use Rattle.bed_deriv.specs.Steps.{rest_states}
use Rattle.bed_deriv.specs.Derives.{rules}
use Rattle.bed_search.specs.declared.ahead.Todo.{Todo}
use Rattle.bed_search.specs.declared.tree.Measured.{Measured}
use Rattle.bed_search.specs.declared.layers.Falsity.{Falsity}
use Rattle.bed_search.specs.declared.layers.Falsity.TheVariants.{Shown, TooLarge, Not}
use Rattle.bed_search.specs.declared.layers.Step.{Step}
use Rattle.bed_plain.specs.Trees.{AllOf, Choice, nodes, nesting, total, greatest}
use Rattle.bed_search.specs.Given.{Gives}
use Rattle.bed_search.specs.Procedure.{Ways, ClosesFact, one_is_zero}
use Rattle.bed_search.specs.Answers.{IsMeasured, IsRefused, AreRefused}

-- the facts among what a node leaves
abbrev pub facts_among : List Task → List Sequent
facts_among [] = []
facts_among (Proves q ∷ ts) = q ∷ facts_among ts
facts_among (Closes r ∷ ts) = facts_among ts

module _ (w : Ways) where
  -- plainly false, with a tree for `1 = 0`; plainly false, but that tree is too large; or not plainly false
  abbrev pub Refutes : SymState → ℕ → ℕ → Falsity → Type 0
  Refutes s n k (Shown t) = w.is_false s × ClosesFact w (sequent s one_is_zero) t.tree × IsMeasured t
  Refutes s n k TooLarge = w.is_false s × IsRefused (ClosesFact w) (sequent s one_is_zero) n k
  Refutes s n k Not = w.is_false s → ⊥

  -- a thing picks this, and nothing else
  abbrev pub PicksOnly : Todo → Gives → Rest → Choice → Type 0
  PicksOnly x vs r k = w.picks x vs r k × ((j : Choice) → w.picks x vs r j → j ≡ k)

  -- a node whose first children are closed, and that leaves these rests
  pub record Opens (r : Rest) (s : Step) : Type 0 where
    pub facts : List Sequent
    pub proved : AllOf (ClosesFact w) facts s.proofs
    pub leaves : rules w.decls w.function s.rule (Closes r) s.args (length (map Proves facts ++ map Closes s.rests)) ≡ Ok (map Proves facts ++ map Closes s.rests)
    pub nodes_are : total (map nodes s.proofs) ≡ s.nodes
    pub nesting_is : greatest (map nesting s.proofs) ≡ s.nesting
    pub room : have_room (rest_states s.rests) ≡ true

  -- no step: whatever it picks, a node of it has facts to prove that no small trees close
  abbrev pub NoStep : Todo → Gives → Rest → ℕ → ℕ → Type 0
  NoStep x vs r n k =
      (j : Choice) → w.picks x vs r j → (m : ℕ) → (tasks : List Task) → rules w.decls w.function j.0 (Closes r) j.1 m ≡ Ok tasks
      → AreRefused (ClosesFact w) (facts_among tasks) n k

  abbrev pub Steps : Todo → Gives → Rest → ℕ → ℕ → Option Step → Type 0
  Steps x vs r n k None = NoStep x vs r n k
  Steps x vs r n k (Some s) = PicksOnly x vs r (s.rule, s.args) × Opens r s

-- ---- the search's own parts

-- a node that is made, within the bounds; or it would be too large
abbrev pub AnswersNode : Option Measured → Deriv → ℕ → ℕ → Type 0
AnswersNode None t n k = (n < nodes t) ⊎ (k < nesting t)
AnswersNode (Some u) t n k = (u.tree ≡ t) × IsMeasured u × (u.nodes ≤ n) × (u.nesting ≤ k)

-- trees for things in order, behind those of a list, with their sizes together
pub record Grown {T : Type 0} (C : T → Deriv → Type 0) (xs : List T) (old new : List Deriv) (n k : ℕ) (sums : ℕ × ℕ) : Type 0 where
  pub trees : List Deriv
  pub are : AllOf C xs trees
  pub behind : new ≡ old ++ trees
  pub nodes_are : total (map nodes trees) ≡ sums.0
  pub nesting_is : greatest (map nesting trees) ≡ sums.1
  pub few : sums.0 ≤ n
  pub small : sums.1 ≤ k

abbrev pub AnswersTrees : {T : Type 0} → (T → Deriv → Type 0) → List T → List Deriv → List Deriv → ℕ → ℕ → Option (ℕ × ℕ) → Type 0
AnswersTrees C xs old new n k None = AreRefused C xs n k
AnswersTrees C xs old new n k (Some sums) = Grown C xs old new n k sums

-- the first of these things have trees, and the others are left
pub record Done {T : Type 0} (C : T → Deriv → Type 0) (xs left : List T) (old new : List Deriv) (n k sum deepest : ℕ) : Type 0 where
  pub done : List T
  pub are : xs ≡ done ++ left
  pub grown : Grown C done old new n k (sum, deepest)
