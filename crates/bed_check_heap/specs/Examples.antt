-- Four bytes that go on at address 0 aren't a cell.
use Rattle.std.specs.Prelude.{◌≡◌, ℕ, ◌≤◌, List, [], ◌∷◌, length, Ok}
use Rattle.bed_lang.specs.declared.word.Word.{Number}
use Rattle.bed_lang.specs.declared.logic.Pure.{Pure}
use Rattle.bed_lang.specs.declared.logic.Pure.TheVariants.{AtMost}
use Rattle.bed_lang.specs.declared.logic.Atom.TheVariants.{Byte}
use Rattle.bed_lang.specs.declared.condition.Decls.{Decls}
use Rattle.bed_deriv.specs.declared.derivation.Deriv.{Deriv}
use Rattle.bed_deriv.specs.declared.derivation.DArg.TheVariants as argument
use Rattle.bed_deriv.specs.declared.derivation.Rule.TheVariants.{Shape}
use Rattle.bed_deriv.specs.declared.state.SymState.{SymState}
use Rattle.bed_deriv.specs.declared.state.Remainder.{Remainder}
use Rattle.bed_deriv.specs.Checks.{sequent}
use Rattle.bed_deriv.specs.Walk.{walk}
use Rattle.bed_deriv.specs.Derives.{fact_table}
use Rattle.bed_check_heap.specs.Steps.{state_table}

-- bytes at the last three addresses and at 0
abbrev pub bytes_across : SymState
bytes_across = record {
  locals = [];
  facts = [];
  atoms =
      Byte (Number 4294967293) (Number 1) ∷ Byte (Number 4294967294) (Number 2) ∷ Byte (Number 4294967295) (Number 3)
      ∷ Byte (Number 0) (Number 4) ∷ [];
  next = 0;
}

-- the first fact that `shape[2, 1, 2, 3, 4]` asks for there
abbrev pub too_high : Pure
too_high = AtMost (Number 4294967293) (Number 4294967292)

abbrev pub first_goal : List Pure → List Pure
first_goal [] = []
first_goal (p ∷ ps) = p ∷ []

abbrev pub AsksTooHighExample : Type 0
AsksTooHighExample =
    (d : Decls) (m : Remainder)
    → state_table d Shape bytes_across
    (argument.Number 2 ∷ argument.Number 1 ∷ argument.Number 2 ∷ argument.Number 3 ∷ argument.Number 4 ∷ []) 5 ≡ Ok m
    → first_goal m.goals ≡ too_high ∷ []

-- no tree of the rules for facts proves it, under any declarations whose labels have room for addresses of their own
abbrev pub NoTreeExample : Type 0
NoTreeExample =
    (d : Decls) (t : Deriv) (last : ℕ) → length d.labels ≤ 4294967296 → walk (fact_table d) t (sequent bytes_across too_high) 1 ≡ Ok last → ⊥
