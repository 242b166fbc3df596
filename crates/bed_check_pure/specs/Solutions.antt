-- The rest of the rule that solves an equation behind its first premises, given what these found.
use Rattle.std.specs.Prelude.{List, [], ◌∷◌, Option}
use Rattle.bed_lang.specs.declared.word.Var.{Var}
use Rattle.bed_lang.specs.declared.logic.Pure.{Pure}
use Rattle.bed_lang.specs.Instances.{Instance}
use Rattle.bed_deriv.specs.declared.state.SymState.{SymState}
use Rattle.bed_deriv.specs.declared.state.Sequent.{Sequent}
use Rattle.bed_deriv.specs.Opening.{replaced_fact}
use Rattle.bed_deriv.specs.PureRules.{solution, replaced_state}
use Rattle.bed_deriv.specs.Checks.{Goals, Given, Leaves, sequent}

-- the goal with terms in place of variables
abbrev pub replaced_by : Instance → SymState → Pure → List Sequent
replaced_by σ s g = sequent (replaced_state σ s) (replaced_fact σ g) ∷ []

-- by the solution, by the fact, and by the variable
abbrev pub solve_goal : SymState → Pure → Option Instance → Goals
solve_goal s g found = Given 3 found (λ σ. Leaves (replaced_by σ s g))

abbrev pub solve_fact : SymState → Pure → Var → Pure → Goals
solve_fact s g v p = solve_goal s g (solution v p)

abbrev pub solve_variable : SymState → Option Pure → Pure → Option Var → Goals
solve_variable s goal p found = Given 2 found (λ v. Given 3 goal (λ g. solve_fact s g v p))
