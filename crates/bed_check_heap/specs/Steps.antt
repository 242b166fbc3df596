-- What the check of a node for the rest of a condition answers.
use Rattle.std.specs.Prelude.{◌≡◌, ℕ, List, None, Result, Ok, Err}
use Rattle.bed_lang.specs.declared.condition.Decls.{Decls}
use Rattle.bed_deriv.specs.declared.derivation.Rule.{Rule}
use Rattle.bed_deriv.specs.declared.derivation.DArg.{DArg}
use Rattle.bed_deriv.specs.declared.derivation.Deriv.{Deriv}
use Rattle.bed_deriv.specs.declared.state.SymState.{SymState}
use Rattle.bed_deriv.specs.declared.state.Remainder.{Remainder}
use Rattle.bed_deriv.specs.Checks.{remainder, outcome}
use Rattle.bed_deriv.specs.Nodes.{StateTable, stepped_by}
use Rattle.bed_deriv.specs.Derives.{Purpose, ForFacts, ForStates, ForSteps, ForEnds, purpose, pure_rule, heap_rule, refused}
use Rattle.bed_check_pure.specs.declared.verdict.Verdict.{Verdict}
use Rattle.bed_check_pure.specs.declared.verdict.Verdict.TheVariants.{Reject, Memory}
use Rattle.bed_check_pure.specs.Answers.{goal_table}

-- a rule for facts proves no rest of a condition: a node of one is refused by the first of its premises that fails, or else by the third
abbrev pub refused_rest : Decls → Rule → SymState → List DArg → ℕ → Result Remainder ℕ
refused_rest d r s args n = refused (outcome (pure_rule d r s None args n))

-- The rules at the rest of a condition: those that change a state. Every other rule leaves none: a node of a rule for facts is refused as
-- above, one of step or finish by its third premise.
abbrev pub at_state : Decls → Purpose → StateTable
at_state d ForFacts r s args n = refused_rest d r s args n
at_state d ForStates r s args n = remainder (heap_rule d r s args n)
at_state d ForSteps r s args n = Err 3
at_state d ForEnds r s args n = Err 3

abbrev pub state_table : Decls → StateTable
state_table d r s args n = at_state d (purpose r) r s args n

-- the check of a node by these rules; the node has number 1
abbrev pub stepped : Decls → SymState → Deriv → Result (List SymState) (ℕ × ℕ)
stepped d s t = stepped_by (goal_table d) (state_table d) s t 1

-- the answer is this, but for want of memory
abbrev pub Answers : {A : Type 0} → Result A Verdict → Result A (ℕ × ℕ) → Type 0
Answers (Ok x) r = r ≡ Ok x
Answers (Err (Reject node premise)) r = r ≡ Err (node, premise)
Answers (Err Memory) r = Unit {0}
