use Rattle.std.proofs.Common.{◌≡◌, ℕ, ◌+◌, ◌<◌, subst, sym, ap, arith, length, List}
use Rattle.std.proofs.lemmas.List.{get_or_read}
use Rattle.bed_diff.specs.declared.rounds.Label.{Label}
use Rattle.bed_diff.specs.Edges.{edge_at}
use Rattle.bed_diff.specs.Rounds.{label_at, round_of, Collected}
use Rattle.bed_diff.proofs.FrontLemmas.{collected_push, collected_again}
use Rattle.bed_diff.proofs.rounds.relax_collecting.Goals as goal
use Rattle.bed_diff.proofs.rounds.relax_collecting.Goals.{else-changed-via-then-changed+else-fresh, else-changed-via-else-changed}

round_read : (ls : List Label) (x : ℕ) (l : Label) → x < length ls → l ≡ label_at ls x → round_of ls x ≡ l.round
round_read ls x l h e = ap (λ (m : Label). m.round) (sym e)

pub returns-in_ok-push-clause-collected : goal.returns-in_ok-push-clause-collected
returns-in_ok-push-clause-collected c =
    let w = c.requires.edges c.args.place _ c.requires.place in
    rw c.in_ok-push.ensures.items (collected_push c.args.done c.args.labels.now.items c.relax-changed.new.labels.items c.args.next.now.items
    (edge_at c.args.edges.now c.args.place).from c.relax-changed.ensures.len w.from_in c.relax-changed.ensures.others
    c.if-changed.ensures.changed c.requires.collected)

pub returns-else-changed-clause-collected : goal.returns-else-changed-clause-collected
returns-else-changed-clause-collected c =
    let e = c.requires.edges c.args.place _ c.requires.place in
    elim c.else-changed.branch [
      | else-changed-via-then-changed+else-fresh w ↦
          let read = get_or_read c.args.labels.now.items _ c.index.result.now e.from_in c.index.ensures _ in
          let old : round_of c.args.labels.now.items (edge_at c.args.edges.now c.args.place).from ≡ c.args.done + 1 =
          (let r = round_read c.args.labels.now.items (edge_at c.args.edges.now c.args.place).from c.index.result.now e.from_in read in
          let most = c.requires.progress.rounds (edge_at c.args.edges.now c.args.place).from e.from_in in
          omega arith) in
          collected_again c.args.done c.args.labels.now.items c.relax-changed.new.labels.items c.args.next.now.items
          (edge_at c.args.edges.now c.args.place).from c.relax-changed.ensures.len e.from_in c.relax-changed.ensures.others
          w.if-changed.ensures.changed c.requires.collected old
      | else-changed-via-else-changed w ↦
          let P : List Label → Type 0 = λ ls. Collected c.args.done ls c.args.next.now.items in
          subst P (sym w.if-changed.ensures.same) c.requires.collected
    ]
