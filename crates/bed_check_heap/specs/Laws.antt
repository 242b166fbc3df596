-- Each rule for the rest of a condition is sound: where it holds, the facts of its first children are true and the state holds, some
-- state that it leaves holds on the same memory, with values for the fresh variables that are new. These are the laws, as statements, in
-- the order of the table of rules.
use Rattle.std.specs.Prelude.{◌≡◌, ℕ, List, Ok}
use Rattle.bed_machine.specs.Memory.{Memory}
use Rattle.bed_lang.specs.declared.word.Name.{Name}
use Rattle.bed_lang.specs.declared.logic.Arg.{Arg}
use Rattle.bed_lang.specs.declared.logic.Assertion.{Assertion}
use Rattle.bed_lang.specs.declared.condition.Decls.{Decls}
use Rattle.bed_lang.specs.Values.{Values}
use Rattle.bed_sat.specs.Assertions.{World}
use Rattle.bed_deriv.specs.declared.derivation.DArg.{DArg}
use Rattle.bed_deriv.specs.declared.derivation.Deriv.{Deriv}
use Rattle.bed_deriv.specs.declared.derivation.Rule.{Rule}
use Rattle.bed_deriv.specs.declared.derivation.Rule.TheVariants as rule
use Rattle.bed_deriv.specs.declared.state.SymState.{SymState}
use Rattle.bed_deriv.specs.declared.state.Remainder.{Remainder}
use Rattle.bed_deriv.specs.Fresh.{IsKnownState}
use Rattle.bed_deriv.specs.Checks.{remainder}
use Rattle.bed_deriv.specs.Derives.{heap_rule}
use Rattle.bed_check_pure.specs.States.{StateHolds, AreTrueFacts}
use Rattle.bed_check_heap.specs.Steps.{stepped}
use Rattle.bed_check_heap.specs.Instances.{matched}
use Rattle.bed_check_heap.specs.Sound.{SomeHolds, Leads, Meets}

abbrev pub KeepsMeaning : Rule → Type 0
KeepsMeaning r =
    (w : World) (ν : Values) (h : Memory) (s : SymState) (args : List DArg) (n : ℕ) (m : Remainder) → remainder (heap_rule w.decls r s args n) ≡ Ok m
    → IsKnownState s → StateHolds w ν h s → AreTrueFacts w ν m.goals → SomeHolds w s.next ν h m.states

abbrev pub ClaimKeeps : Type 0
ClaimKeeps = KeepsMeaning rule.Claim

abbrev pub WhenKeeps : Type 0
WhenKeeps = KeepsMeaning rule.When

abbrev pub NeverKeeps : Type 0
NeverKeeps = KeepsMeaning rule.Never

abbrev pub UnfoldKeeps : Type 0
UnfoldKeeps = KeepsMeaning rule.Unfold

abbrev pub FoldKeeps : Type 0
FoldKeeps = KeepsMeaning rule.Fold

abbrev pub AppendKeeps : Type 0
AppendKeeps = KeepsMeaning rule.Append

abbrev pub DivideKeeps : Type 0
DivideKeeps = KeepsMeaning rule.Divide

abbrev pub MergeKeeps : Type 0
MergeKeeps = KeepsMeaning rule.Merge

abbrev pub ShapeKeeps : Type 0
ShapeKeeps = KeepsMeaning rule.Shape

-- where the check of a node accepts, one of the states that it goes on with holds wherever the node's own does
abbrev pub StepsLead : Type 0
StepsLead = (d : Decls) (s : SymState) (t : Deriv) (ss : List SymState) → stepped d s t ≡ Ok ss → Leads d s ss

-- where a match is accepted, its goal is met by the atoms that it takes
abbrev pub MatchesMeet : Type 0
MatchesMeet =
    (d : Decls) (s : SymState) (goal : Assertion) (values : List (Name × Arg)) (t : Deriv) (left : List ℕ)
    → matched d s goal values t ≡ Ok left → Meets d s goal values left
