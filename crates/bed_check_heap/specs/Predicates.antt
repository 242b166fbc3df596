-- The rest of a rule for predicates behind its first premises, given what these found.
use Rattle.std.specs.Prelude.{◌≡◌, ℕ, ◌+◌, ◌≤◌, ◌==◌, not, Bool, true, false, List, [], ◌∷◌, ◌++◌, length, take, drop, Option, Some, None, Result, Ok, Err}
use Rattle.bed_lang.specs.declared.word.Name.{Name}
use Rattle.bed_lang.specs.declared.word.Word.{Word}
use Rattle.bed_lang.specs.declared.word.Seq.{Seq}
use Rattle.bed_lang.specs.declared.logic.Arg.{Arg}
use Rattle.bed_lang.specs.declared.logic.Pure.{Pure}
use Rattle.bed_lang.specs.declared.logic.Pure.TheVariants.{Equal}
use Rattle.bed_lang.specs.declared.logic.Atom.{Atom}
use Rattle.bed_lang.specs.declared.logic.Atom.TheVariants.{Pred}
use Rattle.bed_lang.specs.declared.logic.Assertion.{Assertion}
use Rattle.bed_lang.specs.declared.module.Predicate.{Predicate}
use Rattle.bed_lang.specs.declared.condition.Decls.{Decls}
use Rattle.bed_lang.specs.Instances.{terms_with}
use Rattle.bed_deriv.specs.declared.derivation.DArg.{DArg}
use Rattle.bed_deriv.specs.declared.state.SymState.{SymState}
use Rattle.bed_deriv.specs.declared.state.Remainder.{Remainder}
use Rattle.bed_deriv.specs.Arguments.{numbered, at_number, number_at, to_values}
use Rattle.bed_deriv.specs.Opening.{alone, opened_anew}
use Rattle.bed_deriv.specs.Matches.{chosen, all_different, atoms_left, match_goals}
use Rattle.bed_deriv.specs.HeapRules.{params_with, declared, cases_opened, value_args, taken, both_taken, with_atom, Segment, segment, has_segments, joined_segment}
use Rattle.bed_deriv.specs.Checks.{Step, Needs, Given, leaves, have_room}
use Rattle.bed_check_pure.specs.declared.fault.Fault.{Fault}
use Rattle.bed_check_pure.specs.declared.fault.Fault.TheVariants.{Count, Argument, Condition, Memory}
use Rattle.bed_check_pure.specs.Refusals.{fold_counts}

-- ---- unfold

-- one case opened at the end of the others; or a fresh variable would have no number
abbrev pub OpensCase : Result (Unit {0}) Fault → List SymState → List SymState → List (Name × Arg) → Assertion → SymState → Type 0
OpensCase (Ok u) old new vs A s = new ≡ old ++ opened_anew alone vs A s ∷ []
OpensCase (Err Count) old new vs A s = ⊥
OpensCase (Err Argument) old new vs A s = ⊥
OpensCase (Err Condition) old new vs A s = 4294967296 ≤ s.next + length A.binders
OpensCase (Err Memory) old new vs A s = Unit {0}

-- the states of all cases; or one of them has no room
abbrev pub OpensCases : Result (List SymState) Fault → List SymState → Type 0
OpensCases (Ok ss) states = ss ≡ states
OpensCases (Err Count) states = ⊥
OpensCases (Err Argument) states = ⊥
OpensCases (Err Condition) states = have_room states ≡ false
OpensCases (Err Memory) states = Unit {0}

abbrev pub all_opened : List SymState → Remainder
all_opened states = record { goals = []; states = states }

-- given the predicate and its arguments, and given the atom
abbrev pub unfold_predicate : SymState → ℕ → ℕ → Predicate → List Arg → Step
unfold_predicate s i n p args =
    Needs 1 (n == length p.cases) (leaves [] (cases_opened (taken s i) (params_with p.params args) p.cases))

abbrev pub unfold_atom : Decls → SymState → ℕ → ℕ → Atom → Step
unfold_atom d s i n x = Given 3 (declared d x) (λ p. unfold_predicate s i n p.0 p.1)

-- ---- fold

-- the list is longer by a name with its value; or there is no value
abbrev pub PushedIf : Bool → List (Name × Arg) → List (Name × Arg) → Name → Option Arg → Type 0
PushedIf true old new x None = ⊥
PushedIf true old new x (Some v) = new ≡ old ++ (x, v) ∷ []
PushedIf false old new x o = o ≡ None

-- the state with a predicate's atom in place of those that are chosen
abbrev pub folded_state : SymState → List (ℕ × Atom) → Name → List (Name × Arg) → SymState
folded_state s cs x vs = with_atom (record s { atoms = atoms_left cs 1 s.atoms }) (Pred x (value_args vs))

-- given the match's goals, the atoms, the binders' values, the parameters' values, the case, and the predicate with its name
abbrev pub fold_goals : SymState → List (ℕ × Atom) → Name → List (Name × Arg) → Option (List Pure) → Step
fold_goals s cs x vs found = Given 3 found (λ gs. leaves gs (folded_state s cs x vs ∷ []))

abbrev pub fold_atoms : SymState → Name → Assertion → List (Name × Arg) → List (Name × Arg) → List (ℕ × Atom) → Step
fold_atoms s x A vs bs cs =
    Needs 3 (all_different cs) (fold_goals s cs x vs (match_goals (terms_with (alone (vs ++ bs)) A.terms) cs))

abbrev pub fold_binders : SymState → Name → Assertion → List (Name × Arg) → List (Name × Arg) → List DArg → Step
fold_binders s x A vs bs args = Given 2 (chosen s.atoms args) (λ cs. fold_atoms s x A vs bs cs)

abbrev pub fold_params : SymState → List DArg → Name → Predicate → Assertion → List (Name × Arg) → Step
fold_params s args x p A vs =
    Given 2 (to_values s.next A.binders (take (length A.binders) (drop (2 + length p.params) args)))
    (λ bs. fold_binders s x A vs bs (drop (2 + length p.params + length A.binders) args))

abbrev pub fold_case : SymState → List DArg → ℕ → Name → Predicate → Assertion → Step
fold_case s args n x p A =
    Needs 1 (fold_counts args n p A)
    (Given 2 (to_values s.next p.params (take (length p.params) (drop 2 args))) (λ vs. fold_params s args x p A vs))

abbrev pub fold_predicate : SymState → List DArg → ℕ → Name → Predicate → Step
fold_predicate s args n x p = Given 2 (at_number p.cases (number_at args 1)) (λ A. fold_case s args n x p A)

-- ---- append

abbrev pub segment_from : Name → Word → Word → Seq → Segment
segment_from x start end elements = record { name = x; start = start; end = end; elements = elements }

-- given both segments, the first segment, the two atoms, and the first atom
abbrev pub joined : SymState → ℕ → ℕ → Segment → Segment → Remainder
joined s i j x y = record { goals = Equal x.end y.start ∷ []; states = with_atom (both_taken s i j) (joined_segment x y) ∷ [] }

abbrev pub append_second : SymState → ℕ → ℕ → Segment → Option Segment → Step
append_second s i j x other =
    Given 3 other (λ y. leaves (Equal x.end y.start ∷ []) (with_atom (both_taken s i j) (joined_segment x y) ∷ []))

abbrev pub append_first : SymState → ℕ → ℕ → Option Segment → Atom → Step
append_first s i j found b = Given 3 found (λ x. append_second s i j x (segment b))

abbrev pub append_atoms : Decls → SymState → ℕ → ℕ → Atom → Atom → Step
append_atoms d s i j a b = Needs 3 (not (i == j)) (Needs 3 (has_segments d) (append_first s i j (segment a) b))

abbrev pub append_from : Decls → SymState → List DArg → ℕ → Atom → Step
append_from d s args i a = Given 2 (number_at args 1) (λ j. Given 2 (numbered s.atoms j) (λ b. append_atoms d s i j a b))
