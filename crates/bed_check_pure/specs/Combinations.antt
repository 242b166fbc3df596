-- The sum of a comb, pair by pair.
use Rattle.std.specs.Prelude.{ℕ, Bool, true, false, ◌&&◌, List, [], ◌∷◌, Option, Some, None, is_some}
use Rattle.bed_lang.specs.declared.form.Form.{Form}
use Rattle.bed_lang.specs.declared.logic.Pure.{Pure}
use Rattle.bed_deriv.specs.declared.derivation.DArg.{DArg}
use Rattle.bed_deriv.specs.declared.state.SymState.{SymState}
use Rattle.bed_deriv.specs.Arguments.{at_number, to_number}
use Rattle.bed_deriv.specs.PureRules.{pairs_at, added_times, combination, is_difference}
use Rattle.bed_deriv.specs.Checks.{Goals, Needs, Given, Leaves}

-- each pair is the number of a fact and a number
abbrev pub pairs_known : SymState → List DArg → Bool
pairs_known s [] = true
pairs_known s (a ∷ []) = false
pairs_known s (a ∷ c ∷ more) = (is_some (at_number s.facts (to_number (Some a))) && is_some (to_number (Some c))) && pairs_known s more

-- the sum of the pairs; None where a fact is no equation of words
abbrev pub pair_sum : Option Pure → Option ℕ → Option Form → Option Form
pair_sum (Some p) (Some c) f = added_times p c f
pair_sum _ _ f = None

abbrev pub sum_at : SymState → List DArg → Option Form
sum_at s [] = Some (record { constant = 0; parts = [] })
sum_at s (a ∷ []) = Some (record { constant = 0; parts = [] })
sum_at s (a ∷ c ∷ more) = pair_sum (at_number s.facts (to_number (Some a))) (to_number (Some c)) (sum_at s more)

-- comb, given the sum and the goal, given the goal, and behind the number of arguments
abbrev pub says_sum : Pure → Form → Goals
says_sum g f = Needs 3 (is_difference g f) (Leaves [])

abbrev pub comb_goal : SymState → List DArg → Pure → Goals
comb_goal s args g = Given 3 (sum_at s args) (says_sum g)

abbrev pub comb_pairs : SymState → Option Pure → List DArg → Goals
comb_pairs s goal args = Needs 2 (pairs_known s args) (Given 3 goal (comb_goal s args))

abbrev pub pairs_given : SymState → Option Pure → List DArg → Goals
pairs_given s goal args = Given 2 (pairs_at s args) (λ ps. Given 3 goal (λ g. Given 3 (combination ps) (says_sum g)))
