-- What is to be done along a condition's path, in order: at each place its hints, then the action; at the end its hints and then the
-- goal, where a call is made first, and the hints `using` come behind it.
use Rattle.std.specs.Prelude.{ℕ, ◌+◌, ◌==◌, if◌then◌else◌, List, [], ◌∷◌, ◌++◌}
use Rattle.bed_lang.specs.declared.module.Action.{Action}
use Rattle.bed_lang.specs.declared.condition.Goal.{Goal}
use Rattle.bed_lang.specs.declared.condition.Goal.TheVariants as goal
use Rattle.bed_lang.specs.declared.condition.Placed.{Placed}
use Rattle.bed_lang.specs.declared.condition.Cond.{Cond}
use Rattle.bed_search.specs.declared.ahead.Todo.{Todo}
use Rattle.bed_search.specs.declared.ahead.Todo.TheVariants.{Takes, Makes, Ends}

abbrev pub hints_at : List Placed → ℕ → List Todo
hints_at [] n = []
hints_at (h ∷ hs) n = if h.before == n then Takes h.hint ∷ hints_at hs n else hints_at hs n

abbrev pub at_end : List Placed → ℕ → Goal → List Todo
at_end hs n (goal.Calls target via args into after) = Makes ∷ hints_at hs (n + 1) ++ Ends ∷ []
at_end hs n _ = Ends ∷ []

abbrev pub along : List Placed → ℕ → List Action → Goal → List Todo
along hs n [] g = hints_at hs n ++ at_end hs n g
along hs n (a ∷ more) g = hints_at hs n ++ Makes ∷ along hs (n + 1) more g

abbrev pub todo : Cond → List Todo
todo c = along c.hints 0 c.actions c.goal
