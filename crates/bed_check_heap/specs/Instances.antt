-- What the check of a match answers.
use Rattle.std.specs.Prelude.{ℕ, List, Result}
use Rattle.bed_lang.specs.declared.word.Name.{Name}
use Rattle.bed_lang.specs.declared.logic.Arg.{Arg}
use Rattle.bed_lang.specs.declared.logic.Assertion.{Assertion}
use Rattle.bed_lang.specs.declared.condition.Decls.{Decls}
use Rattle.bed_lang.specs.Instances.{terms_with}
use Rattle.bed_deriv.specs.declared.derivation.Deriv.{Deriv}
use Rattle.bed_deriv.specs.declared.state.SymState.{SymState}
use Rattle.bed_deriv.specs.Opening.{replacing}
use Rattle.bed_deriv.specs.Instances.{matched_by}
use Rattle.bed_check_pure.specs.Answers.{goal_table}

-- a match of the goal's terms, their names replaced by these values; the node has number 1
abbrev pub matched : Decls → SymState → Assertion → List (Name × Arg) → Deriv → Result (List ℕ) (ℕ × ℕ)
matched d s goal values t = matched_by (goal_table d) s (terms_with (replacing values) goal.terms) t 1
