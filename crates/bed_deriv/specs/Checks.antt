-- What a node's own check is: its premises in their order, each with its number, and then what its children prove. The number of
-- a premise tells its kind: 1 the number of arguments or of children; 2 an argument out of range or of the wrong sort; 3 the
-- rule's own condition.
use Rattle.std.specs.Prelude.{ℕ, Bool, true, false, ◌&&◌, nat_lt, List, [], ◌∷◌, ◌++◌, length, Option, Some, None, Result, Ok, Err}
use Rattle.bed_lang.specs.declared.logic.Pure.{Pure}
use Rattle.bed_deriv.specs.declared.state.SymState.{SymState}
use Rattle.bed_deriv.specs.declared.state.Sequent.{Sequent}
use Rattle.bed_deriv.specs.declared.state.Remainder.{Remainder}

-- A test that has to be true, or a thing that has to be there, and what follows then; a premise that is never met; and, where all
-- premises hold, what the children prove.
pub data Check (A : Type 0) : Type 1 where
  Needs : (premise : ℕ) → Bool → Check A → Check A
  Given : {B : Type 0} → (premise : ℕ) → Option B → (B → Check A) → Check A
  Fails : (premise : ℕ) → Check A
  Leaves : A → Check A

abbrev pub when : {A : Type 0} → Bool → ℕ → Result A ℕ → Result A ℕ
when true p r = r
when false p r = Err p

-- the number of the first premise that fails, or what the children prove
abbrev pub first_failure : {A : Type 0} → Check A → Result A ℕ
first_failure (Needs p b c) = when b p (first_failure c)
first_failure (Given p None f) = Err p
first_failure (Given p (Some x) f) = first_failure (f x)
first_failure (Fails p) = Err p
first_failure (Leaves x) = Ok x

-- A state has room: the number of its next fresh variable, of its facts and of its atoms is at most 4294967295. A rule doesn't
-- hold where a state that it makes has none.
abbrev pub has_room : SymState → Bool
has_room s = nat_lt s.next 4294967296 && nat_lt (length s.facts) 4294967296 && nat_lt (length s.atoms) 4294967296

abbrev pub have_room : List SymState → Bool
have_room [] = true
have_room (s ∷ ss) = has_room s && have_room ss

abbrev pub states_of : List Sequent → List SymState
states_of [] = []
states_of (q ∷ qs) = q.state ∷ states_of qs

abbrev pub with_room : {A : Type 0} → (A → List SymState) → Result A ℕ → Result A ℕ
with_room states (Err p) = Err p
with_room states (Ok x) = when (have_room (states x)) 3 (Ok x)

-- what the check of a rule for a fact gives: the goals of the children
abbrev pub Goals : Type 1
Goals = Check (List Sequent)

abbrev pub outcome : Goals → Result (List Sequent) ℕ
outcome c = with_room states_of (first_failure c)

-- what the check of a rule for the rest of a condition gives: facts that the first children prove in the node's own state, and the
-- states from which the other children go on
abbrev pub Step : Type 1
Step = Check Remainder

abbrev pub left_states : Remainder → List SymState
left_states r = r.states

abbrev pub remainder : Step → Result Remainder ℕ
remainder c = with_room left_states (first_failure c)

abbrev pub leaves : List Pure → List SymState → Step
leaves goals states = Leaves (record { goals = goals; states = states })

-- a state with a further fact, and a goal in it
abbrev pub with_fact : SymState → Pure → SymState
with_fact s p = record s { facts = s.facts ++ p ∷ [] }

abbrev pub sequent : SymState → Pure → Sequent
sequent s g = record { state = s; goal = g }
