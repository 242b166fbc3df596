-- What the rules promise of the rest of a condition, and of a whole one: a state stands for the values and the memory that the path has
-- come to, and the rest is closed where its actions fail nowhere from there and lead to its goal.
use Rattle.std.specs.Prelude.{◌≡◌, ℕ, ◌<◌, ◌||◌, Bool, true, false, IsTrue, List, [], ◌∷◌, Option, Ok}
use Rattle.bed_machine.specs.Memory.{Memory}
use Rattle.bed_lang.specs.declared.word.Name.{Name}
use Rattle.bed_lang.specs.declared.word.Word.{Word}
use Rattle.bed_lang.specs.declared.logic.Pure.{Pure}
use Rattle.bed_lang.specs.declared.module.Signature.{Signature}
use Rattle.bed_lang.specs.declared.condition.Decls.{Decls}
use Rattle.bed_lang.specs.declared.condition.Cond.{Cond}
use Rattle.bed_lang.specs.Numbers.{wrap}
use Rattle.bed_lang.specs.Values.{Values, Variable, Named, Fresh, same_variable, value}
use Rattle.bed_lang.specs.Lookups.{function_signature}
use Rattle.bed_sat.specs.Assertions.{World}
use Rattle.bed_sat.specs.Valid.{After, GoalHolds, LabelsFit, IsValid}
use Rattle.bed_deriv.specs.declared.derivation.DArg.{DArg}
use Rattle.bed_deriv.specs.declared.derivation.Deriv.{Deriv}
use Rattle.bed_deriv.specs.declared.state.SymState.{SymState}
use Rattle.bed_deriv.specs.Fresh.{IsKnownState, AreUnfresh, unfresh_goal, unfresh_condition, condition_size}
use Rattle.bed_deriv.specs.Steps.{step, finish, onward_of}
use Rattle.bed_deriv.specs.declared.rest.Rest.{Rest}
use Rattle.bed_deriv.specs.declared.rest.Onward.{Onward}
use Rattle.bed_deriv.specs.Derives.{Derives}
use Rattle.bed_check_pure.specs.States.{StateHolds, AreTrueFacts}

-- the variable is one of these locals
abbrev pub is_local : List (Name × Word) → Variable → Bool
is_local [] y = false
is_local (l ∷ ls) y = same_variable y (Named l.0.bytes) || is_local ls y

-- the variable is a fresh one
abbrev pub is_fresh : Variable → Bool
is_fresh (Fresh n) = true
is_fresh _ = false

-- each local has the value of its term
abbrev pub AreRead : (List ℕ → ℕ) → List (Name × Word) → Values → Values → Type 0
AreRead labels [] ν μ = Unit {0}
AreRead labels (l ∷ ls) ν μ = (wrap (μ.words (Named l.0.bytes)) ≡ value labels ν l.1) × AreRead labels ls ν μ

-- The values μ of a path beside the values ν of a state: each local has the value of its term, and every other variable, but for fresh
-- ones, is the state's.
pub record ReadsLocals (labels : List ℕ → ℕ) (ls : List (Name × Word)) (ν μ : Values) : Type 0 where
  pub locals : AreRead labels ls ν μ
  pub others : (y : Variable) → is_fresh y ≡ false → is_local ls y ≡ false → μ.words y ≡ ν.words y
  pub lists : (y : Variable) → is_fresh y ≡ false → μ.lists y ≡ ν.lists y

module _ (w : World) where
  -- facts are true wherever a state holds
  abbrev pub AreProved : SymState → List Pure → Type 0
  AreProved s goals = (ν : Values) (h : Memory) → StateHolds w ν h s → AreTrueFacts w ν goals

  -- the rest of a condition is closed: wherever its state holds, its actions fail nowhere and lead to its goal
  abbrev pub Closes : Option Signature → Rest → Type 0
  Closes S r =
      (ν μ : Values) (h : Memory) → StateHolds w ν h r.state → ReadsLocals w.labels r.state.locals ν μ
      → After w.labels r.actions (GoalHolds w S r.goal) μ h

  abbrev pub AllClose : Option Signature → List Rest → Type 0
  AllClose S [] = Unit {0}
  AllClose S (r ∷ rs) = Closes S r × AllClose S rs

-- a step closes a rest where its facts are proved and what it goes on with is closed
abbrev pub StepCloses : Type 0
StepCloses =
    (w : World) (S : Option Signature) (r : Rest) (args : List DArg) (n : ℕ) (o : Onward) → onward_of (step w.decls r args n) ≡ Ok o
    → LabelsFit w → AreUnfresh w.decls → IsKnownState r.state → IsTrue (unfresh_goal r.goal)
    → AreProved w r.state o.goals → AllClose w S o.rests → Closes w S r

-- an end closes a rest where its facts are proved
abbrev pub FinishCloses : Type 0
FinishCloses =
    (w : World) (function : Name) (r : Rest) (args : List DArg) (n : ℕ) (o : Onward)
    → onward_of (finish w.decls function r args n) ≡ Ok o → AreUnfresh w.decls → IsKnownState r.state → IsTrue (unfresh_goal r.goal)
    → AreProved w r.state o.goals → Closes w (function_signature w.decls function) r

-- a condition that has a derivation is valid
abbrev pub DerivedIsValid : Type 0
DerivedIsValid =
    (d : Decls) (c : Cond) (t : Deriv) → AreUnfresh d → IsTrue (unfresh_condition c) → condition_size c < 4294967295 → Derives d c t
    → IsValid d c
