-- The walk of trees for facts with a list of its own: for each node whose children are being checked, the goals that are left, each in
-- its state, and the children that are left for them.
use Rattle.std.specs.Prelude.{◌≡◌, ℕ, ◌+◌, ◌<◌, Bool, true, false, List, [], ◌∷◌, map, drop, Option, Some, None, Result, Ok, Err}
use Rattle.bed_lang.specs.declared.condition.Decls.{Decls}
use Rattle.bed_deriv.specs.declared.derivation.Deriv.{Deriv}
use Rattle.bed_deriv.specs.declared.state.Sequent.{Sequent}
use Rattle.bed_deriv.specs.Derives.{Purpose, ForStates, ForSteps, ForEnds, refused}
use Rattle.bed_deriv.specs.declared.derivation.Rule.{Rule}
use Rattle.bed_deriv.specs.declared.derivation.DArg.{DArg}
use Rattle.bed_deriv.specs.declared.state.SymState.{SymState}
use Rattle.bed_check_heap.specs.Steps.{state_table}
use Rattle.bed_deriv.specs.Walk.{Walked, and_then, walk_all, walk}
use Rattle.bed_check_pure.specs.declared.verdict.Verdict.{Verdict}
use Rattle.bed_check_pure.specs.declared.verdict.Verdict.TheVariants.{Reject, Memory}
use Rattle.bed_check_pure.specs.Answers.{goal_table}
use Rattle.bed_check_cond.specs.declared.facts.Goals.{Goals}
use Rattle.bed_check_cond.specs.declared.facts.Descent.{Descent}
use Rattle.bed_check_cond.specs.Stack.{total, children_size}

-- what is left below one node
abbrev pub goals_walk : Decls → Goals → ℕ → Walked
goals_walk d f n = walk_all (map (walk (goal_table d)) f.children.now) (drop f.at f.goals) n

-- a node waits where not all its children are checked
abbrev pub goals_waiting_for : List Deriv → Goals → List Goals
goals_waiting_for [] f = []
goals_waiting_for (t ∷ ts) f = f ∷ []

abbrev pub goals_waiting : Goals → List Goals
goals_waiting f = goals_waiting_for f.children.now f

abbrev pub goals_size : Goals → ℕ
goals_size f = 1 + children_size f.children.now

abbrev pub goals_left_size : List Goals → ℕ
goals_left_size fs = total (map goals_size fs)

-- a node that is opened: what is left below it, from the next number on
abbrev pub AnswersGoals : Decls → Result Goals Verdict → ℕ → Walked → Type 0
AnswersGoals d (Ok f) n w = w ≡ goals_walk d f (n + 1)
AnswersGoals d (Err (Reject node premise)) n w = w ≡ Err (node, premise)
AnswersGoals d (Err Memory) n w = Unit {0}

-- a turn: nothing is left of a node; or its next child is opened, and what is left waits below
abbrev pub AnswersGoalsTurn : Decls → Result (Option Descent) Verdict → Goals → ℕ → Type 0
AnswersGoalsTurn d (Ok None) f n = goals_walk d f n ≡ Ok n
AnswersGoalsTurn d (Ok (Some t)) f n =
    (goals_walk d f n ≡ and_then (goals_walk d t.below (n + 1)) (goals_walk d t.left)) × (goals_size t.left + goals_size t.below < goals_size f)
AnswersGoalsTurn d (Err (Reject node premise)) f n = goals_walk d f n ≡ Err (node, premise)
AnswersGoalsTurn d (Err Memory) f n = Unit {0}

-- what a rule is for
abbrev pub is_for_states : Purpose → Bool
is_for_states ForStates = true
is_for_states _ = false

abbrev pub is_for_paths : Purpose → Bool
is_for_paths ForSteps = true
is_for_paths ForEnds = true
is_for_paths _ = false

-- the refusal of a rule at a fact, by what it gives at a rest
abbrev pub refused_goals : Decls → Rule → SymState → List DArg → ℕ → Result (List Sequent) ℕ
refused_goals d r s args n = refused (state_table d r s args n)
