use Rattle.std.proofs.Common.{◌≡◌, IfOk, subst}
use Rattle.bed_check_heap.proofs.WithoutLaws.{both_second_first, both_in_turn}
use Rattle.bed_check_heap.proofs.atoms.both_taken.Goals as goal

pub returns-then-first-second : goal.returns-then-first-second
returns-then-first-second c =
    subst (λ s. IfOk c.taken_in_turn.result (λ r. r ≡ s)) (both_second_first c.args.s.now c.args.first c.args.second c.if-first-second.true)
    c.taken_in_turn.ensures

pub returns-else-first-second : goal.returns-else-first-second
returns-else-first-second c =
    subst (λ s. IfOk c.taken_in_turn-else-first-second.result (λ r. r ≡ s))
    (both_in_turn c.args.s.now c.args.first c.args.second c.if-first-second.false) c.taken_in_turn-else-first-second.ensures
