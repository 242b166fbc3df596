-- Rests of a condition as the code has them: states, and what lies ahead of them.
use Rattle.std.specs.Prelude.{◌≡◌, ℕ, List, [], ◌∷◌, drop, Result, Ok, Err}
use Rattle.bed_lang.specs.declared.logic.Pure.{Pure}
use Rattle.bed_lang.specs.declared.logic.Assertion.{Assertion}
use Rattle.bed_lang.specs.declared.condition.Goal.{Goal}
use Rattle.bed_lang.specs.declared.condition.Goal.TheVariants as goal
use Rattle.bed_deriv.specs.declared.state.SymState.{SymState}
use Rattle.bed_deriv.specs.declared.rest.Rest.{Rest}
use Rattle.bed_deriv.specs.declared.rest.Onward.{Onward}
use Rattle.bed_deriv.specs.Checks.{with_room}
use Rattle.bed_deriv.specs.Steps.{onward_states}
use Rattle.bed_check_pure.specs.declared.fault.Fault.{Fault}
use Rattle.bed_check_pure.specs.declared.fault.Fault.TheVariants.{Count, Argument, Condition, Memory}
use Rattle.bed_check_cond.specs.declared.point.Aim.{Aim}
use Rattle.bed_check_cond.specs.declared.point.Aim.TheVariants.{Whole, Behind}
use Rattle.bed_check_cond.specs.declared.point.Ahead.{Ahead}
use Rattle.bed_check_cond.specs.declared.point.Point.{Point}
use Rattle.bed_check_cond.specs.declared.point.Moved.{Moved}
use Rattle.bed_check_cond.specs.declared.point.Left.{Left}

abbrev pub aim_goal : Aim → Goal
aim_goal (Whole g) = g.now
aim_goal (Behind A) = goal.Meets A.now

abbrev pub rest_at : Ahead → SymState → Rest
rest_at a s = record { state = s; actions = a.actions.now; goal = aim_goal a.aim }

abbrev pub rest_of : Point → Rest
rest_of p = rest_at p.ahead p.state

abbrev pub rests_at : Ahead → List SymState → List Rest
rests_at a [] = []
rests_at a (s ∷ ss) = rest_at a s ∷ rests_at a ss

-- what is left behind an action, behind a call, and at a path's end
abbrev pub moved : Rest → Moved → Onward
moved r m = record { goals = m.goals; rests = (record r { state = m.state; actions = drop 1 r.actions }) ∷ [] }

abbrev pub called : Assertion → Moved → Onward
called A m = record { goals = m.goals; rests = (record { state = m.state; actions = []; goal = goal.Meets A }) ∷ [] }

abbrev pub ended : List Pure → Onward
ended gs = record { goals = gs; rests = [] }

-- a state after a step, with what lies ahead of it then
abbrev pub gone_on : Moved → Ahead → Onward
gone_on m a = record { goals = m.goals; rests = rest_at a m.state ∷ [] }

abbrev pub onward_left : Left → Onward
onward_left l = record { goals = l.goals; rests = rests_at l.ahead l.states }

-- the answer is this, but for want of memory
abbrev pub AnswersBy : {A B : Type 0} → (A → B) → Result A Fault → Result B ℕ → Type 0
AnswersBy f (Ok x) r = r ≡ Ok (f x)
AnswersBy f (Err Count) r = r ≡ Err 1
AnswersBy f (Err Argument) r = r ≡ Err 2
AnswersBy f (Err Condition) r = r ≡ Err 3
AnswersBy f (Err Memory) r = Unit {0}

-- the same; and where a state that the node makes has no room, the third premise fails
abbrev pub AnswersStep : {A : Type 0} → (A → Onward) → Result A Fault → Result Onward ℕ → Type 0
AnswersStep f (Ok x) r = r ≡ Ok (f x)
AnswersStep f (Err Count) r = with_room onward_states r ≡ Err 1
AnswersStep f (Err Argument) r = with_room onward_states r ≡ Err 2
AnswersStep f (Err Condition) r = with_room onward_states r ≡ Err 3
AnswersStep f (Err Memory) r = Unit {0}
