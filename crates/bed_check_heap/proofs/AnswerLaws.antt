-- What a rule's code leaves is what the table of rules says; and what an accepted node and an accepted match promise.
use Rattle.std.proofs.Common.{◌≡◌, ℕ, List, None, Result, Ok, Err, IfOk, refl, ap}
use Rattle.bed_lang.specs.declared.word.Name.{Name}
use Rattle.bed_lang.specs.declared.logic.Arg.{Arg}
use Rattle.bed_lang.specs.declared.logic.Assertion.{Assertion}
use Rattle.bed_lang.specs.declared.condition.Decls.{Decls}
use Rattle.bed_deriv.specs.declared.derivation.Rule.{Rule}
use Rattle.bed_deriv.specs.declared.derivation.DArg.{DArg}
use Rattle.bed_deriv.specs.declared.derivation.Deriv.{Deriv}
use Rattle.bed_deriv.specs.declared.state.SymState.{SymState}
use Rattle.bed_deriv.specs.declared.state.Remainder.{Remainder}
use Rattle.bed_deriv.specs.Checks.{with_room, left_states, outcome}
use Rattle.bed_deriv.specs.Derives.{Purpose, ForFacts, ForStates, ForSteps, ForEnds, purpose, pure_rule, refused}
use Rattle.bed_check_pure.specs.declared.fault.Fault.{Fault}
use Rattle.bed_check_pure.specs.declared.fault.Fault.TheVariants as fault
use Rattle.bed_check_pure.specs.declared.verdict.Verdict.{Verdict}
use Rattle.bed_check_pure.specs.declared.verdict.Verdict.TheVariants.{Reject, Memory}
use Rattle.bed_check_pure.specs.Faults.{AnswersRule}
use Rattle.bed_check_heap.specs.Steps.{at_state, state_table, stepped, Answers}
use Rattle.bed_check_heap.specs.Instances.{matched}
use Rattle.bed_check_heap.specs.Sound.{Leads, Meets}
use Rattle.bed_check_heap.specs.Parts.{AnswersRoom, raw_at, raw_rule}
use Rattle.bed_check_heap.proofs.StepLaws.{stepped-leads, matched-meets}

-- an exact answer is one up to room
pub exact_room : (a : Result Remainder Fault) (r : Result Remainder ℕ) → AnswersRule a r → AnswersRoom a r
exact_room (Ok m) r e = e
exact_room (Err fault.Count) r e = ap (with_room left_states) e
exact_room (Err fault.Argument) r e = ap (with_room left_states) e
exact_room (Err fault.Condition) r e = ap (with_room left_states) e
exact_room (Err fault.Memory) r e = tt

-- what is refused makes no states, whatever their room
whatever_room : {A : Type 0} (r : Result A ℕ) → with_room left_states (refused r) ≡ refused r
whatever_room (Ok y) = refl
whatever_room (Err p) = refl

pub raw_at_state : (d : Decls) (r : Rule) (p : Purpose) (s : SymState) (args : List DArg) (n : ℕ) → with_room left_states (raw_at d p r s args n) ≡ at_state d p r s args n
raw_at_state d r ForFacts s args n = whatever_room (outcome (pure_rule d r s None args n))
raw_at_state d r ForStates s args n = refl
raw_at_state d r ForSteps s args n = refl
raw_at_state d r ForEnds s args n = refl

pub raw_state : (d : Decls) (r : Rule) (s : SymState) (args : List DArg) (n : ℕ) → with_room left_states (raw_rule d r s args n) ≡ state_table d r s args n
raw_state d r s args n = raw_at_state d r (purpose r) s args n

pub accepted_leads : (d : Decls) (s : SymState) (t : Deriv) (r : Result (List SymState) Verdict) → Answers r (stepped d s t) → IfOk r (Leads d s)
accepted_leads d s t (Ok ss) e = stepped-leads d s t ss e
accepted_leads d s t (Err (Reject node premise)) e = tt
accepted_leads d s t (Err Memory) e = tt

pub accepted_meets : (d : Decls) (s : SymState) (goal : Assertion) (values : List (Name × Arg)) (t : Deriv) (r : Result (List ℕ) Verdict)
    → Answers r (matched d s goal values t) → IfOk r (Meets d s goal values)
accepted_meets d s goal values t (Ok left) e = matched-meets d s goal values t left e
accepted_meets d s goal values t (Err (Reject node premise)) e = tt
accepted_meets d s goal values t (Err Memory) e = tt
