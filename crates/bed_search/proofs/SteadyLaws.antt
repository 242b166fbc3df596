-- What the children of a node stand for doesn't hang on their number, where that number passes.
use Rattle.std.proofs.Common.{◌≡◌, ℕ, Bool, true, false, List, [], ◌∷◌, Option, Some, None, Result, Ok, Err, refl, ap, sym, ◌∙◌}
use Rattle.bed_lang.specs.declared.word.Name.{Name}
use Rattle.bed_lang.specs.declared.logic.Pure.{Pure}
use Rattle.bed_lang.specs.declared.module.Action.{Action}
use Rattle.bed_lang.specs.declared.module.Action.TheVariants as action
use Rattle.bed_lang.specs.declared.condition.Decls.{Decls}
use Rattle.bed_lang.specs.declared.condition.Goal.{Goal}
use Rattle.bed_lang.specs.declared.condition.Goal.TheVariants as goal
use Rattle.bed_deriv.specs.declared.derivation.Rule.{Rule}
use Rattle.bed_deriv.specs.declared.derivation.Rule.TheVariants as rule
use Rattle.bed_deriv.specs.declared.derivation.DArg.{DArg}
use Rattle.bed_deriv.specs.declared.state.SymState.{SymState}
use Rattle.bed_deriv.specs.Checks.{Check, Needs, Given, when, first_failure, have_room, with_room, states_of, outcome, left_states, remainder}
use Rattle.bed_deriv.specs.HeapRules.{Shape, CellToBytes, BytesToCell, BlockToCell, CellToBlock, DropBlock, shape_of}
use Rattle.bed_deriv.specs.Steps.{act, step_of_goal, step_along, step, finish, onward_of, onward_states}
use Rattle.bed_deriv.specs.declared.rest.Rest.{Rest}
use Rattle.bed_deriv.specs.declared.rest.Task.{Task}
use Rattle.bed_deriv.specs.declared.rest.Task.TheVariants.{Proves, Closes}
use Rattle.bed_deriv.specs.Derives.{Purpose, ForFacts, ForStates, ForSteps, ForEnds, purpose, pure_rule, heap_rule, fact_table, proofs, refused, states_to_close, rests_to_close, by_purpose, rules}

-- two checks that leave the same where both pass
pub record Alike {A : Type 0} (c e : Check A) : Type 0 where
  pub same : (x y : A) → first_failure c ≡ Ok x → first_failure e ≡ Ok y → x ≡ y

module _ {A : Type 0} where
  when_passed : (b : Bool) (p : ℕ) (r : Result A ℕ) (x : A) → when b p r ≡ Ok x → r ≡ Ok x
  when_passed true p r x e = e
  when_passed false p r x e = absurd (cc)

  abbrev ok_or : A → Result A ℕ → A
  ok_or z (Err p) = z
  ok_or z (Ok u) = u

  abbrev IsOk : Result A ℕ → A → Type 0
  IsOk r x = r ≡ Ok x

  same_ok : (x y : A) → IsOk (Ok x) y → x ≡ y
  same_ok x y e = ap (ok_or x) e

  one_answer : (r : Result A ℕ) (x y : A) → r ≡ Ok x → r ≡ Ok y → x ≡ y
  one_answer r x y e f = same_ok x y (sym e ∙ f)

  alike : (c : Check A) → Alike c c
  alike c = record { same = λ x y e f. one_answer (first_failure c) x y e f }

  needs : {p : ℕ} {b a : Bool} {c e : Check A} → Alike c e → Alike (Needs p b c) (Needs p a e)
  needs {p = p} {b = b} {a = a} {c = c} {e = e} k =
      record { same = λ x y f g. k.same x y (when_passed b p (first_failure c) x f) (when_passed a p (first_failure e) y g) }

  given_same : {B : Type 0} (p : ℕ) (o : Option B) (f g : B → Check A) → ((z : B) → Alike (f z) (g z)) → (x y : A)
      → first_failure (Given p o f) ≡ Ok x → first_failure (Given p o g) ≡ Ok y → x ≡ y
  given_same p None f g k x y e h = absurd (cc)
  given_same p (Some z) f g k x y e h = (k z).same x y e h

  given : {B : Type 0} {p : ℕ} {o : Option B} {f g : B → Check A} → ((z : B) → Alike (f z) (g z)) → Alike (Given p o f) (Given p o g)
  given {p = p} {o = o} {f = f} {g = g} k = record { same = given_same p o f g k }

module _ (d : Decls) (args : List DArg) (m n : ℕ) where
  pure_alike : (r : Rule) (s : SymState) (g : Option Pure) → Alike (pure_rule d r s g args m) (pure_rule d r s g args n)
  pure_alike rule.Hyp s g = needs (alike _)
  pure_alike rule.Norm s g = needs (alike _)
  pure_alike rule.Comb s g = needs (alike _)
  pure_alike rule.Solve s g = needs (alike _)
  pure_alike rule.Uncons s g = needs (alike _)
  pure_alike rule.Chain s g = needs (alike _)
  pure_alike rule.Order s g = needs (given (λ k. needs (alike _)))
  pure_alike rule.Cut s g = needs (alike _)
  pure_alike rule.Carry s g = needs (alike _)
  pure_alike rule.Split s g = needs (alike _)
  pure_alike rule.Absurd s g = needs (alike _)
  pure_alike rule.Void s g = needs (alike _)
  pure_alike rule.Member s g = needs (alike _)
  pure_alike rule.Lacks s g = needs (given (λ k. needs (alike _)))
  pure_alike rule.Part s g = needs (alike _)
  pure_alike rule.One s g = needs (given (λ p. given (λ k. needs (alike _))))
  pure_alike rule.Distinct s g = needs (alike _)
  pure_alike rule.Bound s g = needs (alike _)
  pure_alike rule.Label s g = needs (alike _)
  pure_alike _ s g = alike _

  shape_alike : (k : Shape) (s : SymState) → Alike (shape_of k s args m) (shape_of k s args n)
  shape_alike CellToBytes s = needs (alike _)
  shape_alike BytesToCell s = needs (alike _)
  shape_alike BlockToCell s = needs (alike _)
  shape_alike CellToBlock s = needs (alike _)
  shape_alike DropBlock s = needs (alike _)

  heap_alike : (r : Rule) (s : SymState) → Alike (heap_rule d r s args m) (heap_rule d r s args n)
  heap_alike rule.Claim s = needs (alike _)
  heap_alike rule.When s = needs (alike _)
  heap_alike rule.Never s = needs (alike _)
  heap_alike rule.Unfold s = needs (given (λ i. given (λ x. given (λ p. needs (alike _)))))
  heap_alike rule.Fold s = needs (given (λ p. given (λ A. needs (alike _))))
  heap_alike rule.Append s = needs (alike _)
  heap_alike rule.Divide s = needs (alike _)
  heap_alike rule.Merge s = needs (alike _)
  heap_alike rule.Shape s = needs (given (λ k. shape_alike k s))
  heap_alike _ s = alike _

  act_alike : (r : Rest) (a : Action) → Alike (act r a args m) (act r a args n)
  act_alike r (action.Assign x a) = needs (alike _)
  act_alike r (action.Compute x o a b) = needs (alike _)
  act_alike r (action.Load x p) = needs (alike _)
  act_alike r (action.LoadByte x p) = needs (alike _)
  act_alike r (action.Store p a) = needs (alike _)
  act_alike r (action.StoreByte p a) = needs (given (λ k. needs (alike _)))
  act_alike r (action.Assume t) = needs (alike _)

  goal_alike : (r : Rest) (g : Goal) → Alike (step_of_goal d r g args m) (step_of_goal d r g args n)
  goal_alike r (goal.Calls target via operands into after) = given (λ S. needs (alike _))
  goal_alike r (goal.Meets A) = alike _
  goal_alike r (goal.Returns a) = alike _

  along_alike : (r : Rest) (as' : List Action) → Alike (step_along d r as' args m) (step_along d r as' args n)
  along_alike r [] = goal_alike r r.goal
  along_alike r (a ∷ more) = act_alike r a

  end_alike : (function : Name) (r : Rest) → Alike (finish d function r args m) (finish d function r args n)
  end_alike function r = given (λ e. needs (alike _))

room_passed : {A : Type 0} (states : A → List SymState) (r : Result A ℕ) (x : A) → with_room states r ≡ Ok x → r ≡ Ok x
room_passed states (Err p) x e = absurd (cc)
room_passed states (Ok y) x e = when_passed (have_room (states y)) 3 (Ok y) x e

same_room : {A : Type 0} (states : A → List SymState) (c e : Check A) → Alike c e → (x y : A)
    → with_room states (first_failure c) ≡ Ok x → with_room states (first_failure e) ≡ Ok y → x ≡ y
same_room states c e k x y f g = k.same x y (room_passed states (first_failure c) x f) (room_passed states (first_failure e) y g)

refused_not : {A B : Type 0} (r : Result A ℕ) (x : B) → refused {A = A} {B = B} r ≡ Ok x → ⊥
refused_not (Err p) x e = absurd (cc)
refused_not (Ok y) x e = absurd (cc)

-- answers that come from equal things by one function
mapped : {A : Type 0} (f : Result A ℕ → Result (List Task) ℕ) (r q : Result A ℕ) (ts us : List Task)
    → ((p : ℕ) → (xs : List Task) → f (Err p) ≡ Ok xs → ⊥) → ((x y : A) → r ≡ Ok x → q ≡ Ok y → x ≡ y) → f r ≡ Ok ts → f q ≡ Ok us → ts ≡ us
mapped f (Err p) q ts us none same e g = absurd (none p ts e)
mapped f (Ok x) (Err p) ts us none same e g = absurd (none p us g)
mapped f (Ok x) (Ok y) ts us none same e g =
    one_answer (f (Ok x)) ts us e (ap (λ z. f (Ok z)) (same x y refl refl) ∙ g)

module _ (d : Decls) (function : Name) (args : List DArg) (m n : ℕ) (ts us : List Task) where
  steady_by : (p : Purpose) (r : Rule) (t : Task) → by_purpose d function p r t args m ≡ Ok ts → by_purpose d function p r t args n ≡ Ok us → ts ≡ us
  steady_by ForFacts r (Proves q) e g =
      mapped proofs (fact_table d r q args m) (fact_table d r q args n) ts us (λ p xs h. cc)
      (same_room states_of (pure_rule d r q.state (Some q.goal) args m) (pure_rule d r q.state (Some q.goal) args n) (pure_alike d args m n r q.state (Some q.goal))) e g
  steady_by ForFacts r (Closes c) e g = absurd (refused_not (outcome (pure_rule d r c.state None args m)) ts e)
  steady_by ForStates r (Proves q) e g = absurd (refused_not (remainder (heap_rule d r q.state args m)) ts e)
  steady_by ForStates r (Closes c) e g =
      mapped (states_to_close c) (remainder (heap_rule d r c.state args m)) (remainder (heap_rule d r c.state args n)) ts us (λ p xs h. cc)
      (same_room left_states (heap_rule d r c.state args m) (heap_rule d r c.state args n) (heap_alike d args m n r c.state)) e g
  steady_by ForSteps r (Proves q) e g = absurd (cc)
  steady_by ForSteps r (Closes c) e g =
      mapped (rests_to_close c) (onward_of (step d c args m)) (onward_of (step d c args n)) ts us (λ p xs h. cc)
      (same_room onward_states (step d c args m) (step d c args n) (along_alike d args m n c c.actions)) e g
  steady_by ForEnds r (Proves q) e g = absurd (cc)
  steady_by ForEnds r (Closes c) e g =
      mapped (rests_to_close c) (onward_of (finish d function c args m)) (onward_of (finish d function c args n)) ts us (λ p xs h. cc)
      (same_room onward_states (finish d function c args m) (finish d function c args n) (end_alike d args m n function c)) e g

pub steady : (d : Decls) (function : Name) (r : Rule) (t : Task) (args : List DArg) (m n : ℕ) (ts us : List Task) → rules d function r t args m ≡ Ok ts
    → rules d function r t args n ≡ Ok us → ts ≡ us
steady d function r t args m n ts us e g = steady_by d function args m n ts us (purpose r) r t e g
