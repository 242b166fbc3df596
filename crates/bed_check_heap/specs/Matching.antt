-- What the code of a match answers.
use Rattle.std.specs.Prelude.{◌≡◌, ℕ, List, Option, Result, Ok, Err}
use Rattle.bed_lang.specs.declared.logic.Atom.{Atom}
use Rattle.bed_lang.specs.declared.logic.Pure.{Pure}
use Rattle.bed_lang.specs.declared.logic.Term.{Term}
use Rattle.bed_deriv.specs.declared.state.SymState.{SymState}
use Rattle.bed_deriv.specs.Matches.{all_different, numbers_left, match_goals}
use Rattle.bed_deriv.specs.Checks.{Check, Needs, Given, Leaves}
use Rattle.bed_check_pure.specs.declared.fault.Fault.{Fault}
use Rattle.bed_check_pure.specs.declared.fault.Fault.TheVariants.{Count, Argument, Condition, Memory}
use Rattle.bed_check_heap.specs.declared.instances.Match.{Match}
use Rattle.bed_deriv.specs.Instances.{Matched}

-- a match of terms with the atoms that are chosen, from its third premise on, and given its goals
abbrev pub match_left : SymState → List (ℕ × Atom) → Option (List Pure) → Check Matched
match_left s cs goals = Given 3 goals (λ gs. Leaves (record { goals = gs; left = numbers_left cs 1 s.atoms }))

abbrev pub match_chosen : SymState → List Term → List (ℕ × Atom) → Check Matched
match_chosen s ts cs = Needs 3 (all_different cs) (match_left s cs (match_goals ts cs))

-- the answer of a match is this, but for want of memory
abbrev pub AnswersMatch : Result Match Fault → Result Matched ℕ → Type 0
AnswersMatch (Ok m) r = r ≡ Ok (record { goals = m.goals; left = m.left })
AnswersMatch (Err Count) r = r ≡ Err 1
AnswersMatch (Err Argument) r = r ≡ Err 2
AnswersMatch (Err Condition) r = r ≡ Err 3
AnswersMatch (Err Memory) r = Unit {0}
