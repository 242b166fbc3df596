-- What the code of a rule answers: the premises' answer, but for want of memory.
use Rattle.std.specs.Prelude.{◌≡◌, ℕ, [], ◌∷◌, Option, Result, Ok, Err}
use Rattle.bed_lang.specs.declared.logic.Pure.{Pure}
use Rattle.bed_lang.specs.SameFacts.{same_facts}
use Rattle.bed_deriv.specs.declared.state.SymState.{SymState}
use Rattle.bed_deriv.specs.Walk.{Walked}
use Rattle.bed_check_pure.specs.declared.verdict.Verdict.{Verdict}
use Rattle.bed_check_pure.specs.declared.verdict.Verdict.TheVariants as verdict
use Rattle.bed_deriv.specs.Checks.{Goals, Given, Needs, Leaves, sequent, with_fact}
use Rattle.bed_check_pure.specs.declared.fault.Fault.{Fault}
use Rattle.bed_check_pure.specs.declared.fault.Fault.TheVariants.{Count, Argument, Condition, Memory}

abbrev pub AnswersRule : {A : Type 0} → Result A Fault → Result A ℕ → Type 0
AnswersRule (Ok x) r = r ≡ Ok x
AnswersRule (Err Count) r = r ≡ Err 1
AnswersRule (Err Argument) r = r ≡ Err 2
AnswersRule (Err Condition) r = r ≡ Err 3
AnswersRule (Err Memory) r = Unit {0}

-- the end of a rule that proves its goal by a fact, and of cut
abbrev pub says : Option Pure → Pure → Goals
says goal p = Given 3 goal (λ g. Needs 3 (same_facts g p) (Leaves []))

abbrev pub cut_goals : SymState → Option Pure → Pure → Goals
cut_goals s goal p = Given 3 goal (λ g. Leaves (sequent s p ∷ sequent (with_fact s p) g ∷ []))

-- the answer of a walk, but for want of memory
abbrev pub AnswersWalk : Result ℕ Verdict → Walked → Type 0
AnswersWalk (Ok n) w = w ≡ Ok n
AnswersWalk (Err (verdict.Reject node premise)) w = w ≡ Err (node, premise)
AnswersWalk (Err verdict.Memory) w = Unit {0}
