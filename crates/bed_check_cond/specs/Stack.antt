-- The walk with a list of its own: for each node whose children are being checked, the states from which its rest goes on that are left,
-- with what lies ahead of them, and the children that are left for them.
use Rattle.std.specs.Prelude.{◌≡◌, ℕ, ◌+◌, ◌<◌, List, [], ◌∷◌, map, Option, Some, None, Result, Ok, Err}
use Rattle.bed_lang.specs.declared.word.Name.{Name}
use Rattle.bed_lang.specs.declared.condition.Decls.{Decls}
use Rattle.bed_deriv.specs.declared.derivation.Deriv.{Deriv, Deriv-F, fold-Deriv}
use Rattle.bed_deriv.specs.declared.rest.Task.TheVariants.{Closes}
use Rattle.bed_deriv.specs.Walk.{Walked, and_then, walk_all, walk}
use Rattle.bed_check_pure.specs.declared.verdict.Verdict.{Verdict}
use Rattle.bed_check_pure.specs.declared.verdict.Verdict.TheVariants.{Reject, Memory}
use Rattle.bed_check_cond.specs.declared.rests.Rests.{Rests}
use Rattle.bed_check_cond.specs.declared.rests.Turned.{Turned}
use Rattle.bed_check_cond.specs.Points.{rests_at}
use Rattle.bed_deriv.specs.Derives.{rules}

-- what is left of a walk, put together: the last node of the list is the next, each one goes on where the next has ended
abbrev pub left_walk : {F : Type 0} → (F → ℕ → Walked) → List F → Walked → Walked
left_walk walk [] w = w
left_walk walk (f ∷ fs) w = and_then (left_walk walk fs w) (walk f)

-- what is left below one node
abbrev pub rests_walk : Decls → Name → Rests → ℕ → Walked
rests_walk d function f n = walk_all (map (walk (rules d function)) f.children.now) (map Closes (rests_at f.ahead f.states)) n

-- a node waits where not all its children are checked
abbrev pub waiting_for : List Deriv → Rests → List Rests
waiting_for [] f = []
waiting_for (t ∷ ts) f = f ∷ []

abbrev pub waiting : Rests → List Rests
waiting f = waiting_for f.children.now f

-- how much is left: each node of a tree counts two
abbrev pub total : List ℕ → ℕ
total [] = 0
total (n ∷ ns) = n + total ns

abbrev pub size_step : Deriv-F ℕ → ℕ
size_step t = 2 + total t.children

abbrev pub size : Deriv → ℕ
size = fold-Deriv ℕ size_step

abbrev pub children_size : List Deriv → ℕ
children_size ts = total (map size ts)

abbrev pub rests_size : Rests → ℕ
rests_size f = 1 + children_size f.children.now

abbrev pub left_size : List Rests → ℕ
left_size fs = total (map rests_size fs)

-- a node that is opened: what is left below it, from which number
abbrev pub AnswersOpened : Decls → Name → Result (Rests × ℕ) Verdict → Walked → Type 0
AnswersOpened d function (Ok p) w = w ≡ rests_walk d function p.0 p.1
AnswersOpened d function (Err (Reject node premise)) w = w ≡ Err (node, premise)
AnswersOpened d function (Err Memory) w = Unit {0}

-- a turn: nothing is left of a node; or its next child is opened, and what is left waits below
abbrev pub AnswersTurn : Decls → Name → Result (Option Turned) Verdict → Rests → ℕ → Type 0
AnswersTurn d function (Ok None) f n = rests_walk d function f n ≡ Ok n
AnswersTurn d function (Ok (Some t)) f n =
    (rests_walk d function f n ≡ and_then (rests_walk d function t.below t.node) (rests_walk d function t.left))
    × (rests_size t.left + rests_size t.below < rests_size f)
AnswersTurn d function (Err (Reject node premise)) f n = rests_walk d function f n ≡ Err (node, premise)
AnswersTurn d function (Err Memory) f n = Unit {0}
