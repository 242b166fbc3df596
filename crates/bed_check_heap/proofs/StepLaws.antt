-- Where the check of a node accepts, the state that it goes on with holds; and where a match is accepted, the goal is met.
use Rattle.std.proofs.Common.{◌≡◌, ℕ, ◌+◌, ◌≤◌, List, length, Result, Ok, Err, refl, subst, arith}
use Rattle.bed_machine.specs.Memory.{Memory}
use Rattle.bed_lang.specs.declared.word.Name.{Name}
use Rattle.bed_lang.specs.declared.logic.Arg.{Arg}
use Rattle.bed_lang.specs.declared.logic.Pure.{Pure}
use Rattle.bed_lang.specs.declared.logic.Assertion.{Assertion}
use Rattle.bed_lang.specs.declared.condition.Decls.{Decls}
use Rattle.bed_lang.specs.Values.{Values}
use Rattle.bed_lang.specs.Instances.{terms_with}
use Rattle.bed_sat.specs.Assertions.{World, meaning}
use Rattle.bed_sat.specs.Valid.{LabelsFit}
use Rattle.bed_deriv.specs.declared.derivation.Deriv.{Deriv, out-Deriv}
use Rattle.bed_deriv.specs.declared.state.SymState.{SymState}
use Rattle.bed_deriv.specs.declared.state.Remainder.{Remainder}
use Rattle.bed_deriv.specs.Opening.{replacing}
use Rattle.bed_deriv.specs.Checks.{first_failure}
use Rattle.bed_deriv.specs.Walk.{Walked}
use Rattle.bed_check_pure.specs.States.{StateHolds, AreTrueFacts, AreTrueAtoms, world}
use Rattle.bed_check_pure.specs.Answers.{goal_table}
use Rattle.bed_check_pure.proofs.WalkLaws.{trees_true}
use Rattle.bed_check_heap.specs.Steps.{state_table, stepped}
use Rattle.bed_deriv.specs.Nodes.{where_walked, children_walked, after_rule}
use Rattle.bed_check_heap.specs.Instances.{matched}
use Rattle.bed_deriv.specs.Instances.{Matched, match_terms, after_match}
use Rattle.bed_check_heap.specs.Sound.{atoms_numbered, SomeHolds, Leads, Meets}
use Rattle.bed_check_heap.proofs.KeepLaws.{passed}
use Rattle.bed_check_heap.proofs.MatchLaws.{LeavesMatch, match_leaves}
use Rattle.bed_check_heap.proofs.TableLaws.{state_keeps}

pub walked_parts : {A : Type 0} (x y : A) (r : Walked) → where_walked x r ≡ Ok y → (last : ℕ) × (r ≡ Ok last) × (x ≡ y)
walked_parts x y (Ok last) e = (last, refl, cc)
walked_parts x y (Err p) e = absurd cc

pub rule_parts : (d : Decls) (s : SymState) (children : List Deriv) (r : Result Remainder ℕ) (ss : List SymState)
    → after_rule (goal_table d) (state_table d) s children 1 r ≡ Ok ss
    → (m : Remainder) × (r ≡ Ok m) × (where_walked m.states (children_walked (goal_table d) s children m.goals 2) ≡ Ok ss)
rule_parts d s children (Ok m) ss e = (m, refl, e)
rule_parts d s children (Err p) ss e = absurd cc

match_parts : (d : Decls) (s : SymState) (children : List Deriv) (n : ℕ) (r : Result Matched ℕ) (left : List ℕ)
    → after_match (goal_table d) s children n r ≡ Ok left
    → (m : Matched) × (r ≡ Ok m) × (where_walked m.left (children_walked (goal_table d) s children m.goals (n + 1)) ≡ Ok left)
match_parts d s children n (Ok m) left e = (m, refl, e)
match_parts d s children n (Err p) left e = absurd cc

-- the goals of the first children are true where the state holds
pub children_true : (w : World) (ν : Values) (h : Memory) → LabelsFit w → (s : SymState) (children : List Deriv) (goals : List Pure) (n last : ℕ) → length goals ≤ length children
    → children_walked (goal_table w.decls) s children goals n ≡ Ok last → StateHolds w ν h s → AreTrueFacts w ν goals
children_true w ν h fits s children goals n last le e = trees_true w ν h fits children s goals n last le e

-- wherever the state holds, one of those that the node goes on with does
pub stepped-leads : (d : Decls) (s : SymState) (t : Deriv) (ss : List SymState) → stepped d s t ≡ Ok ss → Leads d s ss
stepped-leads d s t ss e codes labels fits ν h known holds =
    let w = world d codes labels in
    let y = out-Deriv t in
    let (m, built, accepted) = rule_parts d s y.children (state_table d y.rule s y.args (length y.children)) ss e in
    let (last, ok, same) = walked_parts m.states ss (children_walked (goal_table d) s y.children m.goals 2) accepted in
    let k = state_keeps w ν h s y.args (length y.children) m y.rule built in
    subst (SomeHolds w s.next ν h) same (k.1 known holds (children_true w ν h fits s y.children m.goals 2 last (omega (arith, k.0)) ok holds))

-- wherever the state holds, its memory splits into one that meets the goal and one that is split into the atoms that are left
pub matched-meets : (d : Decls) (s : SymState) (goal : Assertion) (values : List (Name × Arg)) (t : Deriv) (left : List ℕ)
    → matched d s goal values t ≡ Ok left → Meets d s goal values left
matched-meets d s goal values t left e codes labels fits ν h holds =
    let w = world d codes labels in
    let y = out-Deriv t in
    let σ = replacing values in
    let n = length y.children in
    let (m, found, accepted) = match_parts d s y.children 1 (first_failure (match_terms s (terms_with σ goal.terms) y.args n)) left e in
    let (last, ok, same) = walked_parts m.left left (children_walked (goal_table d) s y.children m.goals 2) accepted in
    let k = passed (LeavesMatch w ν h s σ goal.terms n) (match_terms s (terms_with σ goal.terms) y.args n) (match_leaves w ν h s σ goal.terms y.args n) m found in
    let (met, rest, parts, terms, atoms) = k.1 holds.depth holds.atoms (children_true w ν h fits s y.children m.goals 2 last k.0 ok holds) in
    record { met = met; rest = rest; parts = parts; depth = holds.depth; terms = terms; atoms = subst (λ ns. AreTrueAtoms w ν (meaning w holds.depth) (atoms_numbered s.atoms ns) rest) same atoms }
