-- The rules that change a state keep what holds.
use Rattle.std.proofs.Common.{◌≡◌, ℕ, List, None, Ok}
use Rattle.bed_machine.specs.Memory.{Memory}
use Rattle.bed_lang.specs.Values.{Values}
use Rattle.bed_sat.specs.Assertions.{World}
use Rattle.bed_deriv.specs.declared.derivation.DArg.{DArg}
use Rattle.bed_deriv.specs.declared.derivation.Rule.{Rule}
use Rattle.bed_deriv.specs.declared.derivation.Rule.TheVariants.{Claim, When, Never, Unfold, Fold, Append, Divide, Merge, Shape}
use Rattle.bed_deriv.specs.declared.state.SymState.{SymState}
use Rattle.bed_deriv.specs.declared.state.Remainder.{Remainder}
use Rattle.bed_deriv.specs.HeapRules.{claim, case_split, never, unfold_rule, fold_rule, append_rule, divide, merge, shape}
use Rattle.bed_deriv.specs.Checks.{outcome, remainder}
use Rattle.bed_deriv.specs.Derives.{Purpose, ForFacts, ForStates, ForSteps, ForEnds, purpose, pure_rule, heap_rule}
use Rattle.bed_check_pure.proofs.RefusalLaws.{never_accepted}
use Rattle.bed_check_heap.specs.Steps.{at_state, state_table}
use Rattle.bed_check_heap.specs.Laws.{ClaimKeeps, WhenKeeps, NeverKeeps, DivideKeeps, MergeKeeps, ShapeKeeps}
use Rattle.bed_check_heap.proofs.KeepLaws.{Keeps, kept, claim_keeps, when_keeps, never_keeps, divide_keeps, merge_keeps}
use Rattle.bed_check_heap.proofs.UnfoldLaws.{unfold_keeps}
use Rattle.bed_check_heap.proofs.FoldLaws.{fold_keeps}
use Rattle.bed_check_heap.proofs.AppendLaws.{append_keeps}
use Rattle.bed_check_heap.proofs.ShapeLaws.{shape_keeps}

-- a rule that changes a state keeps what holds
heap_keeps : (w : World) (ν : Values) (h : Memory) (s : SymState) (args : List DArg) (n : ℕ) (m : Remainder) (r : Rule)
    → remainder (heap_rule w.decls r s args n) ≡ Ok m → Keeps w ν h s n m
heap_keeps w ν h s args n m Claim e = kept w ν h s n (claim s args n) (claim_keeps w ν h s args n) m e
heap_keeps w ν h s args n m When e = kept w ν h s n (case_split s args n) (when_keeps w ν h s args n) m e
heap_keeps w ν h s args n m Never e = kept w ν h s n (never args n) (never_keeps w ν h s args n) m e
heap_keeps w ν h s args n m Unfold e = kept w ν h s n (unfold_rule w.decls s args n) (unfold_keeps w ν h s args n) m e
heap_keeps w ν h s args n m Fold e = kept w ν h s n (fold_rule w.decls s args n) (fold_keeps w ν h s args n) m e
heap_keeps w ν h s args n m Append e = kept w ν h s n (append_rule w.decls s args n) (append_keeps w ν h s args n) m e
heap_keeps w ν h s args n m Divide e = kept w ν h s n (divide s args n) (divide_keeps w ν h s args n) m e
heap_keeps w ν h s args n m Merge e = kept w ν h s n (merge s args n) (merge_keeps w ν h s args n) m e
heap_keeps w ν h s args n m Shape e = kept w ν h s n (shape s args n) (shape_keeps w ν h s args n) m e
heap_keeps w ν h s args n m _ e = absurd (cc)

keeps_at : (w : World) (ν : Values) (h : Memory) (s : SymState) (args : List DArg) (n : ℕ) (m : Remainder) (r : Rule) (p : Purpose)
    → at_state w.decls p r s args n ≡ Ok m → Keeps w ν h s n m
keeps_at w ν h s args n m r ForFacts e = absurd (never_accepted (outcome (pure_rule w.decls r s None args n)) m e)
keeps_at w ν h s args n m r ForStates e = heap_keeps w ν h s args n m r e
keeps_at w ν h s args n m r ForSteps e = absurd (cc)
keeps_at w ν h s args n m r ForEnds e = absurd (cc)

-- and so does whatever rule is accepted at a state
pub state_keeps : (w : World) (ν : Values) (h : Memory) (s : SymState) (args : List DArg) (n : ℕ) (m : Remainder) (r : Rule)
    → state_table w.decls r s args n ≡ Ok m → Keeps w ν h s n m
state_keeps w ν h s args n m r e = keeps_at w ν h s args n m r (purpose r) e

-- ---- the laws, as the table of rules has them

pub claim_is_kept : ClaimKeeps
claim_is_kept w ν h s args n m e = (heap_keeps w ν h s args n m Claim e).1

pub when_is_kept : WhenKeeps
when_is_kept w ν h s args n m e = (heap_keeps w ν h s args n m When e).1

pub never_is_kept : NeverKeeps
never_is_kept w ν h s args n m e = (heap_keeps w ν h s args n m Never e).1

pub divide_is_kept : DivideKeeps
divide_is_kept w ν h s args n m e = (heap_keeps w ν h s args n m Divide e).1

pub merge_is_kept : MergeKeeps
merge_is_kept w ν h s args n m e = (heap_keeps w ν h s args n m Merge e).1

pub shape_is_kept : ShapeKeeps
shape_is_kept w ν h s args n m e = (heap_keeps w ν h s args n m Shape e).1
