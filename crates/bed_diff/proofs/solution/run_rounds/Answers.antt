use Rattle.std.proofs.Common.{◌≡◌, ◌∙◌, length, arith, ap}
use Rattle.std.proofs.lemmas.List.{length-map}
use Rattle.std.proofs.lemmas.Bool.Decides.{nat_tests}
use Rattle.bed_diff.specs.declared.rounds.Label.{Label}
use Rattle.bed_diff.proofs.ClosingLemmas.{values_solve, ready_next}
use Rattle.bed_diff.proofs.solution.run_rounds.Goals as goal

pub returns-then-is_empty : goal.returns-then-is_empty
returns-then-is_empty c =
    let es = c.args.edges.now in
    let ls = c.run_round.new.labels.items in
    let i = c.rounds.invariant in
    let len : length ls ≡ (length c.args.labels.now.items) = c.run_round.ensures.len ∙ i.nodes in
    let e = c.is_empty.ensures in
    let t = c.if-is_empty.true in
    let z : length c.run_round.new.next.items ≡ 0 = grind (arith, nat_tests) in
    rw (c.in_ok-found.ensures, c.deref-then-is_empty.ensures.value) (
      length-map ls (λ (l : Label). l.value) ∙ len,
      values_solve es c.rounds.done ls c.run_round.new.next.items z
          (λ e h. (rw len (c.requires.edges e _ h).from_in, rw len (c.requires.edges e _ h).to_in))
          c.in_ok-run_round.ensures.progress c.in_ok-run_round.ensures.done c.in_ok-run_round.ensures.collected,
    )

pub rounds-preserved : goal.rounds-preserved
rounds-preserved c =
    let i = c.rounds.invariant in
    let len : length c.run_round.new.labels.items ≡ (length c.args.labels.now.items) = c.run_round.ensures.len ∙ i.nodes in
    let v = ap length c.deref-in-rounds.ensures.value in
    let late = rw c.in-None.is at c.in_ok-walk.ensures.late in
    ready_next c.args.edges.now (length c.args.labels.now.items) c.rounds.done c.run_round.new.labels.items c.run_round.new.next.items
    (λ e h. rw len (c.requires.edges e _ h).to_in) len (omega arith)
    c.in_ok-run_round.ensures.progress c.in_ok-run_round.ensures.done c.in_ok-run_round.ensures.collected
