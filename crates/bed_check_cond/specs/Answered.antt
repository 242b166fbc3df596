-- What a node leaves of a rest, as the code finds it: facts to be proved, and rests to go on with.
use Rattle.std.specs.Prelude.{ℕ, List, [], ◌∷◌, Result, Ok, Err}
use Rattle.bed_lang.specs.declared.word.Name.{Name}
use Rattle.bed_lang.specs.declared.condition.Decls.{Decls}
use Rattle.bed_deriv.specs.declared.derivation.Rule.{Rule}
use Rattle.bed_deriv.specs.declared.derivation.DArg.{DArg}
use Rattle.bed_deriv.specs.declared.state.SymState.{SymState}
use Rattle.bed_deriv.specs.declared.state.Remainder.{Remainder}
use Rattle.bed_deriv.specs.declared.rest.Rest.{Rest}
use Rattle.bed_deriv.specs.declared.rest.Onward.{Onward}
use Rattle.bed_deriv.specs.Steps.{step, finish, onward_of}
use Rattle.bed_deriv.specs.Derives.{Purpose, ForFacts, ForStates, ForSteps, ForEnds, purpose}
use Rattle.bed_check_heap.specs.Steps.{at_state}

-- a rest from each of these states
abbrev pub from_each : Rest → List SymState → List Rest
from_each r [] = []
from_each r (s ∷ ss) = (record r { state = s }) ∷ from_each r ss

abbrev pub changed : Rest → Result Remainder ℕ → Result Onward ℕ
changed r (Err p) = Err p
changed r (Ok m) = Ok (record { goals = m.goals; rests = from_each r m.states })

abbrev pub onward_by : Decls → Name → Purpose → Rule → Rest → List DArg → ℕ → Result Onward ℕ
onward_by d function ForFacts u r args n = changed r (at_state d ForFacts u r.state args n)
onward_by d function ForStates u r args n = changed r (at_state d ForStates u r.state args n)
onward_by d function ForSteps u r args n = onward_of (step d r args n)
onward_by d function ForEnds u r args n = onward_of (finish d function r args n)

-- what a node leaves of a rest
abbrev pub onward_at : Decls → Name → Rule → Rest → List DArg → ℕ → Result Onward ℕ
onward_at d function u r args n = onward_by d function (purpose u) u r args n
