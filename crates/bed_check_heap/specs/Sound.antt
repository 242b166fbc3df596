-- What the checker of the rest of a condition promises.
use Rattle.std.specs.Prelude.{◌≡◌, ℕ, ◌<◌, ◌⊎◌, Option, Some, None, List, [], ◌∷◌}
use Rattle.bed_machine.specs.Memory.{Memory}
use Rattle.bed_lang.specs.declared.word.Name.{Name}
use Rattle.bed_lang.specs.declared.logic.Arg.{Arg}
use Rattle.bed_lang.specs.declared.logic.Atom.{Atom}
use Rattle.bed_lang.specs.declared.logic.Assertion.{Assertion}
use Rattle.bed_lang.specs.declared.condition.Decls.{Decls}
use Rattle.bed_lang.specs.Values.{Values, Variable, Fresh}
use Rattle.bed_lang.specs.Instances.{values_with}
use Rattle.bed_sat.specs.Parts.{Joins}
use Rattle.bed_sat.specs.Assertions.{World, meaning, AreTrueTerms}
use Rattle.bed_sat.specs.Valid.{LabelsFit}
use Rattle.bed_deriv.specs.declared.state.SymState.{SymState}
use Rattle.bed_deriv.specs.Arguments.{numbered}
use Rattle.bed_deriv.specs.Opening.{replacing}
use Rattle.bed_deriv.specs.Fresh.{IsKnownState}
use Rattle.bed_check_pure.specs.States.{StateHolds, AreTrueAtoms, world}

-- the same values, but for fresh variables with a number from this one on
pub record AgreeBelow (next : ℕ) (ν μ : Values) : Type 0 where
  pub words : (x : Variable) → ((n : ℕ) → x ≡ Fresh n → n < next) → μ.words x ≡ ν.words x
  pub lists : (x : Variable) → ((n : ℕ) → x ≡ Fresh n → n < next) → μ.lists x ≡ ν.lists x

-- some state of a list holds on the memory, with values for the fresh variables that are new
abbrev pub SomeHolds : World → ℕ → Values → Memory → List SymState → Type 0
SomeHolds w next ν h [] = ⊥
SomeHolds w next ν h (s ∷ ss) = ((μ : Values) × AgreeBelow next ν μ × StateHolds w μ h s) ⊎ SomeHolds w next ν h ss

-- Wherever the state holds, one of the others holds on the same memory, for every code map and all addresses that fit the labels, all
-- values and every memory.
abbrev pub Leads : Decls → SymState → List SymState → Type 0
Leads d s ss =
    (codes : ℕ → Option (List ℕ)) (labels : List ℕ → ℕ) → LabelsFit (world d codes labels)
    → (ν : Values) (h : Memory) → IsKnownState s → StateHolds (world d codes labels) ν h s
    → SomeHolds (world d codes labels) s.next ν h ss

-- the atoms of these numbers, in order; a number that no atom has counts for none
abbrev pub atom_before : Option Atom → List Atom → List Atom
atom_before None xs = xs
atom_before (Some x) xs = x ∷ xs

abbrev pub atoms_numbered : List Atom → List ℕ → List Atom
atoms_numbered xs [] = []
atoms_numbered xs (n ∷ ns) = atom_before (numbered xs n) (atoms_numbered xs ns)

-- A memory splits into one part on which the goal's terms are true, where each name has its value, and one that is split exactly into
-- the atoms that are left.
pub record Splits (w : World) (ν : Values) (h : Memory) (goal : Assertion) (values : List (Name × Arg)) (left : List Atom) : Type 0 where
  pub met : Memory
  pub rest : Memory
  pub parts : Joins h met rest
  pub depth : ℕ
  pub terms : AreTrueTerms w.codes w.labels (meaning w depth) (values_with (replacing values) w.labels ν) goal.terms met
  pub atoms : AreTrueAtoms w ν (meaning w depth) left rest

-- The atoms that a match takes make the assertion true, and the rest is what is left: wherever the state holds, its memory splits so,
-- for every code map and all addresses that fit the labels, all values and every memory.
abbrev pub Meets : Decls → SymState → Assertion → List (Name × Arg) → List ℕ → Type 0
Meets d s goal values left =
    (codes : ℕ → Option (List ℕ)) (labels : List ℕ → ℕ) → LabelsFit (world d codes labels)
    → (ν : Values) (h : Memory) → StateHolds (world d codes labels) ν h s
    → Splits (world d codes labels) ν h goal values (atoms_numbered s.atoms left)
