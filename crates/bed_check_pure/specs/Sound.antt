-- What the checker of facts promises.
use Rattle.std.specs.Prelude.{ℕ, Option, List, [], ◌∷◌}
use Rattle.bed_machine.specs.Memory.{Memory}
use Rattle.bed_lang.specs.declared.logic.Pure.{Pure}
use Rattle.bed_lang.specs.declared.condition.Decls.{Decls}
use Rattle.bed_lang.specs.Values.{Values}
use Rattle.bed_sat.specs.Facts.{IsTrueFact}
use Rattle.bed_sat.specs.Assertions.{World}
use Rattle.bed_sat.specs.Valid.{LabelsFit}
use Rattle.bed_deriv.specs.declared.state.SymState.{SymState}
use Rattle.bed_deriv.specs.declared.state.Sequent.{Sequent}
use Rattle.bed_check_pure.specs.States.{StateHolds, world}

-- the goal is true where the state holds, under these values and on this memory
abbrev pub FollowsAt : World → Values → Memory → Sequent → Type 0
FollowsAt w ν h q = StateHolds w ν h q.state → IsTrueFact w.codes w.labels ν q.goal

abbrev pub AllFollowAt : World → Values → Memory → List Sequent → Type 0
AllFollowAt w ν h [] = Unit {0}
AllFollowAt w ν h (q ∷ qs) = FollowsAt w ν h q × AllFollowAt w ν h qs

-- The goal follows from the state: wherever the state holds the goal is true, for every code map and all addresses that fit the
-- labels, all values and every memory.
abbrev pub Follows : Decls → SymState → Pure → Type 0
Follows d s goal =
    (codes : ℕ → Option (List ℕ)) (labels : List ℕ → ℕ) → LabelsFit (world d codes labels)
    → (ν : Values) (h : Memory) → StateHolds (world d codes labels) ν h s → IsTrueFact codes labels ν goal
