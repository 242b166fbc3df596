-- What it takes that a check is sound, read off its premises.
use Rattle.std.proofs.Common.{◌≡◌, ℕ, Bool, true, false, List, length, Some, None, Result, Ok, Err, refl, subst}
use Rattle.bed_machine.specs.Memory.{Memory}
use Rattle.bed_lang.specs.Values.{Values}
use Rattle.bed_sat.specs.Assertions.{World}
use Rattle.bed_deriv.specs.declared.state.SymState.{SymState}
use Rattle.bed_deriv.specs.declared.state.Sequent.{Sequent}
use Rattle.bed_deriv.specs.Checks.{Needs, Given, Fails, Leaves, Goals, first_failure, when, have_room, states_of, with_room, outcome}
use Rattle.bed_check_pure.specs.Sound.{FollowsAt, AllFollowAt}

-- where the states have room the premises hold
pub roomy : {A : Type 0} (states : A → List SymState) (r : Result A ℕ) (x : A) → with_room states r ≡ Ok x → r ≡ Ok x
roomy states (Err p) x e = absurd (cc)
roomy {A} states (Ok y) x e = by (have_room (states y)) e
  where
    by : (b : Bool) → when {A = A} b 3 (Ok y) ≡ Ok x → ◌≡◌ {A = Result A ℕ} (Ok y) (Ok x)
    by true e = e
    by false e = absurd (cc)

module _ (w : World) (ν : Values) (h : Memory) where
  -- where all premises of a check hold, there are as many goals as children, and where these follow so does the node's
  abbrev pub IsSoundCheck : Sequent → ℕ → Goals → Type 0
  IsSoundCheck q n (Needs premise test c) = test ≡ true → IsSoundCheck q n c
  IsSoundCheck q n (Given premise found c) = (x : _) → found ≡ Some x → IsSoundCheck q n (c x)
  IsSoundCheck q n (Fails premise) = Unit {0}
  IsSoundCheck q n (Leaves goals) = (length goals ≡ n) × (AllFollowAt w ν h goals → FollowsAt w ν h q)

  sound_premises : (q : Sequent) (n : ℕ) (c : Goals) → IsSoundCheck q n c → (goals : List Sequent) → first_failure c ≡ Ok goals
      → (length goals ≡ n) × (AllFollowAt w ν h goals → FollowsAt w ν h q)
  sound_premises q n (Needs p true c) s goals e = sound_premises q n c (s refl) goals e
  sound_premises q n (Needs p false c) s goals e = absurd (cc)
  sound_premises q n (Given p None c) s goals e = absurd (cc)
  sound_premises q n (Given p (Some x) c) s goals e = sound_premises q n (c x) (s x refl) goals e
  sound_premises q n (Fails p) s goals e = absurd (cc)
  sound_premises q n (Leaves found) s goals e =
      let same : found ≡ goals = cc in subst (λ (qs : List Sequent). (length qs ≡ n) × (AllFollowAt w ν h qs → FollowsAt w ν h q)) same s

  pub sound_outcome : (q : Sequent) (n : ℕ) (c : Goals) → IsSoundCheck q n c → (goals : List Sequent) → outcome c ≡ Ok goals
      → (length goals ≡ n) × (AllFollowAt w ν h goals → FollowsAt w ν h q)
  sound_outcome q n c s goals e = sound_premises q n c s goals (roomy states_of (first_failure c) goals e)
