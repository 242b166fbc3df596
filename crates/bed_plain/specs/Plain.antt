-- When a goal is plain in a state, and the trees that then close it: the nodes of solving, in their order, and then one of the ways
-- below. Which way, and which edges a chain has, is free.
use Rattle.std.specs.Prelude.{◌≡◌, ℕ, Bool, true, false, not, List, [], ◌∷◌, ◌++◌, length, Result, Ok}
use Rattle.bed_lang.specs.declared.word.Word.{Word, Number}
use Rattle.bed_lang.specs.declared.logic.Pure.{Pure}
use Rattle.bed_lang.specs.declared.logic.Pure.TheVariants.{Equal, Unequal, Less, AtMost, Same, Member, NonMember, Code}
use Rattle.bed_lang.specs.declared.condition.Decls.{Decls}
use Rattle.bed_deriv.specs.declared.derivation.Rule.{Rule}
use Rattle.bed_deriv.specs.declared.derivation.Rule.TheVariants as rule
use Rattle.bed_deriv.specs.declared.derivation.DArg.{DArg}
use Rattle.bed_deriv.specs.declared.derivation.Deriv.{Deriv}
use Rattle.bed_deriv.specs.declared.state.SymState.{SymState}
use Rattle.bed_deriv.specs.declared.state.Sequent.{Sequent}
use Rattle.bed_deriv.specs.Checks.{sequent}
use Rattle.bed_deriv.specs.Derives.{fact_table}
use Rattle.bed_plain.specs.Trees.{node, leaf}
use Rattle.bed_plain.specs.Solving.{solving, solved, solved_goal, solving_tree}
use Rattle.bed_plain.specs.Chained.{all_forms, goal_forms, runs_over}

abbrev pub is_comparison : Pure → Bool
is_comparison (Equal a b) = true
is_comparison (Unequal a b) = true
is_comparison (Less a b) = true
is_comparison (AtMost a b) = true
is_comparison _ = false

abbrev pub is_order : Pure → Bool
is_order (Less a b) = true
is_order (AtMost a b) = true
is_order _ = false

abbrev pub is_unequal : Pure → Bool
is_unequal (Unequal a b) = true
is_unequal _ = false

-- no chain goes from its left side to its right side: one that closes it ends where it starts, and closes every goal
abbrev pub zero_is_one : Pure
zero_is_one = Equal (Number 1) (Number 0)

module _ (d : Decls) where
  -- a rule closes a goal with no children
  abbrev pub Leaf : Rule → Sequent → List DArg → Type 0
  Leaf r q args = fact_table d r q args 0 ≡ Ok []

  -- what closes a solved goal: one node
  pub data ClosesAtOnce (q : Sequent) : Deriv → Type 0 where
    ByHyp : (args : List DArg) → Leaf rule.Hyp q args → ClosesAtOnce q (leaf rule.Hyp args)
    ByNorm : (args : List DArg) → Leaf rule.Norm q args → ClosesAtOnce q (leaf rule.Norm args)

  -- a chain over the forms of the facts and the goal
  pub data ClosesByChain (q : Sequent) : Deriv → Type 0 where
    ByChain : (args : List DArg) → Leaf rule.Chain q args → runs_over (goal_forms q.goal ++ all_forms q.state.facts) args ≡ true
        → ClosesByChain q (leaf rule.Chain args)

  -- The state is plainly false: some comparison's negation holds by norm; void applies; two facts are each other's negation; the
  -- edges have a negative cycle, over the forms of the facts alone.
  pub data ClosesFalse (q : Sequent) : Deriv → Type 0 where
    ByNegation : (args : List DArg) (child : Sequent) → fact_table d rule.Absurd q args 1 ≡ Ok (child ∷ [])
        → is_comparison child.goal ≡ true → Leaf rule.Norm child [] → ClosesFalse q (node rule.Absurd args (leaf rule.Norm [] ∷ []))
    ByVoid : (args : List DArg) → Leaf rule.Void q args → ClosesFalse q (leaf rule.Void args)
    ByOpposites : (args others : List DArg) (child : Sequent) → fact_table d rule.Absurd q args 1 ≡ Ok (child ∷ [])
        → Leaf rule.Hyp child others → ClosesFalse q (node rule.Absurd args (leaf rule.Hyp others ∷ []))
    ByCycle : (args : List DArg) → Leaf rule.Chain (sequent q.state zero_is_one) args → Leaf rule.Chain q args
        → runs_over (all_forms q.state.facts) args ≡ true → ClosesFalse q (leaf rule.Chain args)

  -- what closes a solved `!=`
  pub data ClosesUnequal (q : Sequent) : Deriv → Type 0 where
    AtOnce : (t : Deriv) → ClosesAtOnce q t → ClosesUnequal q t
    ByOrder : (args : List DArg) (child : Sequent) (t : Deriv) → fact_table d rule.Order q args 1 ≡ Ok (child ∷ []) → ClosesByChain child t
        → ClosesUnequal q (node rule.Order args (t ∷ []))
    ByDistinct : (args : List DArg) → Leaf rule.Distinct q args → ClosesUnequal q (leaf rule.Distinct args)
    ByPart : (args : List DArg) → Leaf rule.Part q args → ClosesUnequal q (leaf rule.Part args)

  -- what closes a child of lacks
  pub data ClosesLacking (q : Sequent) : Deriv → Type 0 where
    Differs : (t : Deriv) → is_unequal q.goal ≡ true → ClosesUnequal q t → ClosesLacking q t
    ByHyp : (args : List DArg) → Leaf rule.Hyp q args → ClosesLacking q (leaf rule.Hyp args)
    ByPart : (args : List DArg) → Leaf rule.Part q args → ClosesLacking q (leaf rule.Part args)

  abbrev pub AllLacking : List Sequent → List Deriv → Type 0
  AllLacking [] [] = Unit {0}
  AllLacking (q ∷ qs) (t ∷ ts) = ClosesLacking q t × AllLacking qs ts
  AllLacking _ _ = ⊥

  -- what closes a solved goal
  pub data ClosesGoal (q : Sequent) : Deriv → Type 0 where
    AtOnce : (t : Deriv) → ClosesAtOnce q t → ClosesGoal q t
    ByBound : (args : List DArg) → Leaf rule.Bound q args → ClosesGoal q (leaf rule.Bound args)
    ByLabel : (args : List DArg) → Leaf rule.Label q args → ClosesGoal q (leaf rule.Label args)
    ByChain : (t : Deriv) → is_order q.goal ≡ true → ClosesByChain q t → ClosesGoal q t
    ByChains : (args : List DArg) (one two : Sequent) (t u : Deriv) → fact_table d rule.Order q args 2 ≡ Ok (one ∷ two ∷ [])
        → ClosesByChain one t → ClosesByChain two u → ClosesGoal q (node rule.Order args (t ∷ u ∷ []))
    Differs : (t : Deriv) → is_unequal q.goal ≡ true → ClosesUnequal q t → ClosesGoal q t
    ByMember : (args : List DArg) (child : Sequent) (t : Deriv) → fact_table d rule.Member q args 1 ≡ Ok (child ∷ []) → ClosesAtOnce child t
        → ClosesGoal q (node rule.Member args (t ∷ []))
    ByLacks : (args : List DArg) (children : List Sequent) (ts : List Deriv) → fact_table d rule.Lacks q args (length ts) ≡ Ok children
        → AllLacking children ts → ClosesGoal q (node rule.Lacks args ts)

  -- a tree closes a goal in a state by these ways
  pub data ClosesPlain (s : SymState) (g : Pure) : Deriv → Type 0 where
    InFalse : (t : Deriv) → ClosesFalse (sequent (solved s) (solved_goal s g)) t → ClosesPlain s g (solving_tree (solving s) t)
    ByGoal : (t : Deriv) → ClosesGoal (sequent (solved s) (solved_goal s g)) t → ClosesPlain s g (solving_tree (solving s) t)

  abbrev pub IsPlain : SymState → Pure → Type 0
  IsPlain s g = (t : Deriv) × ClosesPlain s g t

  abbrev pub IsPlainlyFalse : SymState → Type 0
  IsPlainlyFalse s = (t : Deriv) × ClosesFalse (sequent (solved s) (solved_goal s zero_is_one)) t
