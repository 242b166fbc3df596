-- When a state of the checker holds on a memory.
use Rattle.std.specs.Prelude.{◌≡◌, ℕ, Option, List, [], ◌∷◌}
use Rattle.bed_machine.specs.Memory.{Memory, empty}
use Rattle.bed_lang.specs.declared.logic.Pure.{Pure}
use Rattle.bed_lang.specs.declared.logic.Atom.{Atom}
use Rattle.bed_lang.specs.declared.condition.Decls.{Decls}
use Rattle.bed_lang.specs.Values.{Values}
use Rattle.bed_sat.specs.Parts.{Joins}
use Rattle.bed_sat.specs.Facts.{IsTrueFact}
use Rattle.bed_sat.specs.Assertions.{World, Meaning, IsTrueAtom, meaning}
use Rattle.bed_deriv.specs.declared.state.SymState.{SymState}

module _ (w : World) (ν : Values) where
  -- every fact of a list is true
  abbrev pub AreTrueFacts : List Pure → Type 0
  AreTrueFacts [] = Unit {0}
  AreTrueFacts (p ∷ ps) = IsTrueFact w.codes w.labels ν p × AreTrueFacts ps

  -- a memory splits exactly into parts, one for each atom of a list, on which it is true; P says what the predicates mean
  abbrev pub AreTrueAtoms : Meaning → List Atom → Memory → Type 0
  AreTrueAtoms P [] h = h ≡ empty
  AreTrueAtoms P (x ∷ xs) h =
      (here others : Memory) × Joins h here others × IsTrueAtom w.codes w.labels P ν x here × AreTrueAtoms P xs others

  -- a state holds on a memory: its facts are true, and the memory is split exactly into its atoms, at some depth of unfolding
  pub record StateHolds (h : Memory) (s : SymState) : Type 0 where
    pub facts : AreTrueFacts s.facts
    pub depth : ℕ
    pub atoms : AreTrueAtoms (meaning w depth) s.atoms h

-- what an assertion is read against, with these declarations
abbrev pub world : Decls → (ℕ → Option (List ℕ)) → (List ℕ → ℕ) → World
world d codes labels = record { decls = d; codes = codes; labels = labels }
