-- What follows the premises of a call.
use Rattle.std.proofs.Common.{◌≡◌, ℕ, ◌+◌, false, nat_lt, List, [], length, take, drop, Option, Some, None, Ok, Err, refl, ap}
use Rattle.bed_lang.specs.declared.word.Name.{Name}
use Rattle.bed_lang.specs.declared.word.Word.{Word}
use Rattle.bed_lang.specs.declared.logic.Arg.{Arg}
use Rattle.bed_lang.specs.declared.logic.Pure.{Pure}
use Rattle.bed_lang.specs.declared.logic.Atom.{Atom}
use Rattle.bed_lang.specs.declared.logic.Assertion.{Assertion}
use Rattle.bed_lang.specs.declared.condition.Goal.TheVariants as goal
use Rattle.bed_lang.specs.declared.module.Operand.{Operand}
use Rattle.bed_lang.specs.declared.module.Signature.{Signature}
use Rattle.bed_deriv.specs.declared.derivation.DArg.{DArg}
use Rattle.bed_deriv.specs.declared.rest.Rest.{Rest}
use Rattle.bed_deriv.specs.declared.rest.Onward.{Onward}
use Rattle.bed_deriv.specs.declared.state.SymState.{SymState}
use Rattle.bed_deriv.specs.Arguments.{to_values}
use Rattle.bed_deriv.specs.HeapRules.{fresh_word}
use Rattle.bed_deriv.specs.Checks.{Check, Given, Fails, Leaves, first_failure, with_room}
use Rattle.bed_deriv.specs.Steps.{goes_on, onward_states, operand_terms, set_local, after_call}
use Rattle.bed_check_cond.specs.Points.{called}
use Rattle.bed_check_cond.specs.Parts.{opened_after, opened_if, state_after, call_values, call_chosen, call_from, call_found, call_worded}
use Rattle.bed_check_cond.proofs.RoomLemmas.{full_refused}

module _ (r : Rest) (S : Signature) (ws : List Word) (vs : List (Name × Arg)) (cs : List (ℕ × Atom)) (into : Name) (after : Assertion) (goals : List Pure) where
  abbrev behind : List (Name × Word) → Rest
  behind ls = record { state = opened_after r.state S ws vs cs ls; actions = []; goal = goal.Meets after }

  -- a fresh variable has no number left
  pub no_numbers : nat_lt (r.state.next + 1 + length S.post.binders) 4294967296 ≡ false → with_room onward_states (first_failure (after_call r S ws vs cs into after goals)) ≡ Err 3
  no_numbers h = by (set_local r.state.locals into (fresh_word r.state.next))
    where
      by : (o : Option (List (Name × Word))) → with_room onward_states (first_failure (Given 3 o (λ ls. goes_on goals (behind ls)))) ≡ Err 3
      by None = refl
      by (Some ls) = full_refused goals (behind ls) h

  -- the local that the answer comes into is there, or isn't
  pub no_local : state_after r.state S ws vs cs into ≡ None → first_failure (after_call r S ws vs cs into after goals) ≡ Err 3
  no_local h = by (set_local r.state.locals into (fresh_word r.state.next)) h
    where
      by : (o : Option (List (Name × Word))) → opened_if r.state S ws vs cs o ≡ None → first_failure (Given 3 o (λ ls. goes_on goals (behind ls))) ≡ Err 3
      by None e = refl
      by (Some ls) e = absurd cc

  pub with_answer_in : (s : SymState) → state_after r.state S ws vs cs into ≡ Some s
      → first_failure (after_call r S ws vs cs into after goals) ≡ Ok (called after (record { goals = goals; state = s }))
  with_answer_in s h = by (set_local r.state.locals into (fresh_word r.state.next)) h
    where
      by : (o : Option (List (Name × Word))) → opened_if r.state S ws vs cs o ≡ Some s → first_failure (Given 3 o (λ ls. goes_on goals (behind ls))) ≡ Ok (called after (record { goals = goals; state = s }))
      by None e = absurd cc
      by (Some ls) e =
          let same : opened_after r.state S ws vs cs ls ≡ s = cc in
          ap (λ (t : SymState). Ok (called after (record { goals = goals; state = t }))) same

module _ (r : Rest) (S : Signature) (target : Operand) (via : Option Name) (operands : List Operand) (into : Name) (after : Assertion) (args : List DArg) where
  abbrev logical : Option (List (Name × Arg))
  logical = to_values r.state.next S.logical (take (length S.logical) args)

  abbrev binders : Option (List (Name × Arg))
  binders = to_values r.state.next S.pre.binders (take (length S.pre.binders) (drop (length S.logical) args))

  abbrev chosen_with : List (Name × Arg) → List (Name × Arg) → Check Onward
  chosen_with vs bs = call_chosen r S target via operands into after vs bs (drop (length S.logical + length S.pre.binders) args)

  -- the values of a call are there, or aren't
  pub valued : (vs bs : List (Name × Arg)) → first_failure (call_values r.state S args) ≡ Ok (vs, bs)
      → first_failure (call_from r S target via operands into after args) ≡ first_failure (chosen_with vs bs)
  valued vs bs e = by logical binders e
    where
      by : (o p : Option (List (Name × Arg))) → first_failure {A = List (Name × Arg) × List (Name × Arg)} (Given 2 o (λ x. Given 2 p (λ y. Leaves (x, y)))) ≡ Ok (vs, bs)
          → first_failure (Given 2 o (λ x. Given 2 p (λ y. chosen_with x y))) ≡ first_failure (chosen_with vs bs)
      by None p e = absurd cc
      by (Some x) None e = absurd cc
      by (Some x) (Some y) e =
          let same : ◌≡◌ {A = List (Name × Arg) × List (Name × Arg)} (x, y) (vs, bs) = cc in
          ap (λ (z : List (Name × Arg) × List (Name × Arg)). first_failure (chosen_with z.0 z.1)) same

  pub unvalued : (k : ℕ) → first_failure (call_values r.state S args) ≡ Err k → first_failure (call_from r S target via operands into after args) ≡ Err k
  unvalued k e = by logical binders e
    where
      by : (o p : Option (List (Name × Arg))) → first_failure {A = List (Name × Arg) × List (Name × Arg)} (Given 2 o (λ x. Given 2 p (λ y. Leaves (x, y)))) ≡ Err k
          → first_failure (Given 2 o (λ x. Given 2 p (λ y. chosen_with x y))) ≡ Err k
      by None p e = let same : 2 ≡ k = cc in ap (λ (m : ℕ). first_failure {A = Onward} (Fails m)) same
      by (Some x) None e = let same : 2 ≡ k = cc in ap (λ (m : ℕ). first_failure {A = Onward} (Fails m)) same
      by (Some x) (Some y) e = absurd cc

-- the operands of a call have terms
pub worded : (r : Rest) (S : Signature) (target : Operand) (via : Option Name) (operands : List Operand) (into : Name) (after : Assertion)
    (vs bs : List (Name × Arg)) (cs : List (ℕ × Atom)) (ws : List Word) → operand_terms r.state.locals operands ≡ Some ws
    → first_failure (call_found r S target via operands into after vs bs cs) ≡ first_failure (call_worded r S target via into after vs bs cs ws)
worded r S target via operands into after vs bs cs ws e =
    ap (λ (o : Option (List Word)). first_failure (Given 3 o (λ us. call_worded r S target via into after vs bs cs us))) e
