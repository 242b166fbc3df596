-- Steps whose fresh variable has no number left: the state that they make has no room.
use Rattle.std.proofs.Common.{◌≡◌, ℕ, ◌+◌, ◌&&◌, Bool, true, false, nat_lt, List, [], ◌∷◌, drop, length, Option, Some, None, Ok, Err, refl, ap, arith}
use Rattle.bed_lang.specs.declared.word.Name.{Name}
use Rattle.bed_lang.specs.declared.word.Word.{Word}
use Rattle.bed_lang.specs.declared.logic.Pure.{Pure}
use Rattle.bed_deriv.specs.declared.rest.Rest.{Rest}
use Rattle.bed_deriv.specs.declared.rest.Onward.{Onward}
use Rattle.bed_deriv.specs.HeapRules.{fresh_word, with_next}
use Rattle.bed_deriv.specs.Checks.{Given, first_failure, when, with_room}
use Rattle.bed_deriv.specs.Steps.{goes_on, onward_states, onward, set_local, with_result}
use Rattle.bed_check_cond.specs.Parts.{fresh_byte}

pub full_refused : (goals : List Pure) (r : Rest) → nat_lt r.state.next 4294967296 ≡ false → with_room onward_states (first_failure (goes_on goals r)) ≡ Err 3
full_refused goals r h =
    let o : Onward = record { goals = goals; rests = r ∷ [] } in
    let s = r.state in
    ap (λ (b : Bool). when {A = Onward} ((b && nat_lt (length s.facts) 4294967296 && nat_lt (length s.atoms) 4294967296) && true) 3 (Ok o)) h

next_full : (n : ℕ) → n ≡ 4294967295 → nat_lt (n + 1) 4294967296 ≡ false
next_full n e = grind arith

pub no_room_for_local : (r : Rest) (x : Name) → r.state.next ≡ 4294967295 → with_room onward_states (first_failure (with_result r x None)) ≡ Err 3
no_room_for_local r x e = by (set_local r.state.locals x (fresh_word r.state.next))
  where
    by : (o : Option (List (Name × Word))) → with_room onward_states (first_failure (Given 3 o (λ ls. onward r (record (with_next r.state 1) { locals = ls }) []))) ≡ Err 3
    by None = refl
    by (Some ls) = full_refused [] (record r { state = record (with_next r.state 1) { locals = ls }; actions = drop 1 r.actions }) (next_full r.state.next e)

pub no_room_for_byte : (r : Rest) (i : ℕ) (a place : Word) → r.state.next ≡ 4294967295 → with_room onward_states (first_failure (fresh_byte r i a place)) ≡ Err 3
no_room_for_byte r i a place e = full_refused _ _ (next_full r.state.next e)
