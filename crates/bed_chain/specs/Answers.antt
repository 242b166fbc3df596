-- What a search for chains answers.
use Rattle.std.specs.Prelude.{◌≡◌, true, List, ◌++◌, Option, Some, None}
use Rattle.bed_lang.specs.declared.logic.Pure.{Pure}
use Rattle.bed_lang.specs.declared.condition.Decls.{Decls}
use Rattle.bed_deriv.specs.declared.derivation.Rule.TheVariants as rule
use Rattle.bed_deriv.specs.declared.derivation.DArg.{DArg}
use Rattle.bed_deriv.specs.declared.state.SymState.{SymState}
use Rattle.bed_deriv.specs.Checks.{sequent}
use Rattle.bed_plain.specs.Chained.{all_forms, goal_forms, runs_over}
use Rattle.bed_plain.specs.Plain.{Leaf, zero_is_one}

-- the edges close a goal in a state, over the forms of the goal and of the facts
pub record IsChain (s : SymState) (g : Pure) (args : List DArg) : Type 0 where
  pub accepted : (d : Decls) → Leaf d rule.Chain (sequent s g) args
  pub over : runs_over (goal_forms g ++ all_forms s.facts) args ≡ true

-- the edges close every goal in a state, over the forms of the facts alone
pub record IsCycle (s : SymState) (args : List DArg) : Type 0 where
  pub accepted : (d : Decls) (g : Pure) → Leaf d rule.Chain (sequent s g) args
  pub over : runs_over (all_forms s.facts) args ≡ true

-- such edges, or there are none, whatever is declared
abbrev pub AnswersChain : SymState → Pure → Option (List DArg) → Type 0
AnswersChain s g (Some args) = IsChain s g args
AnswersChain s g None =
    (d : Decls) (args : List DArg) → Leaf d rule.Chain (sequent s g) args → runs_over (goal_forms g ++ all_forms s.facts) args ≡ true → ⊥

abbrev pub AnswersCycle : SymState → Option (List DArg) → Type 0
AnswersCycle s (Some args) = IsCycle s args
AnswersCycle s None =
    (d : Decls) (args : List DArg) → Leaf d rule.Chain (sequent s zero_is_one) args → runs_over (all_forms s.facts) args ≡ true → ⊥
