-- States that come from others: what a rule or an accepted node goes on with is known again, so that nodes follow one another.
use Rattle.std.specs.Prelude.{◌≡◌, ℕ, ◌≤◌, List, [], ◌∷◌, Ok}
use Rattle.bed_lang.specs.declared.condition.Decls.{Decls}
use Rattle.bed_deriv.specs.declared.derivation.DArg.{DArg}
use Rattle.bed_deriv.specs.declared.derivation.Deriv.{Deriv}
use Rattle.bed_deriv.specs.declared.derivation.Rule.{Rule}
use Rattle.bed_deriv.specs.declared.state.SymState.{SymState}
use Rattle.bed_deriv.specs.declared.state.Remainder.{Remainder}
use Rattle.bed_deriv.specs.Checks.{remainder}
use Rattle.bed_deriv.specs.Derives.{heap_rule}
use Rattle.bed_deriv.specs.Fresh.{IsKnownState, AreUnfresh}
use Rattle.bed_check_heap.specs.Steps.{stepped}

-- t comes from s: it has the same locals, its next fresh variable is none that s has, and all of its own are below it
pub record Grown (s t : SymState) : Type 0 where
  pub locals : t.locals ≡ s.locals
  pub next : s.next ≤ t.next
  pub known : IsKnownState t

abbrev pub AllGrown : SymState → List SymState → Type 0
AllGrown s [] = Unit {0}
AllGrown s (t ∷ ts) = Grown s t × AllGrown s ts

-- a rule that changes a state leaves such states
abbrev pub RulesGrow : Type 0
RulesGrow =
    (d : Decls) (r : Rule) (s : SymState) (args : List DArg) (n : ℕ) (m : Remainder) → remainder (heap_rule d r s args n) ≡ Ok m
    → AreUnfresh d → IsKnownState s → AllGrown s m.states

-- and an accepted node goes on with such states
abbrev pub StepsGrow : Type 0
StepsGrow =
    (d : Decls) (s : SymState) (t : Deriv) (ss : List SymState) → stepped d s t ≡ Ok ss → AreUnfresh d → IsKnownState s → AllGrown s ss
