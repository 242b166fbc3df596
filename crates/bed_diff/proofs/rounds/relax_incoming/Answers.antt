use Rattle.std.proofs.Common.{◌∙◌, ◌-◌, ◌<◌, ap, arith, length, refl}
use Rattle.std.proofs.lemmas.List.{get_or_read}
use Rattle.bed_diff.specs.Edges.{edge_at}
use Rattle.bed_diff.proofs.FrontLemmas.{done_before}
use Rattle.bed_diff.proofs.rounds.relax_incoming.Goals as goal

pub loop-after-preserved : goal.loop-after-preserved
loop-after-preserved c =
    let l = c.requires.listed in
    let i = c.loop-after.invariant in
    let place = c.loop-after.after - 1 in
    let in' : place < length c.args.edges.now = omega arith in
    let next = get_or_read c.args.incoming.now.before.items place c.index-after-in-loop-after.result.now (omega arith) c.index-after-in-loop-after.ensures 0 in
    let fall = l.falls place in' in
    record {
      low = omega arith;
      end = λ some. ap (λ p. (edge_at c.args.edges.now (p - 1)).to) next ∙ l.goes place in' (omega arith) ∙ i.end c.loop-after-test.true;
      len = c.relax_collecting.ensures.len ∙ i.len;
      progress = c.relax_collecting.ensures.progress;
      keeps = λ j h d. c.relax_collecting.ensures.keeps j h (i.keeps j h d);
      collected = c.in_ok-relax_collecting.ensures.collected;
      done = λ j lo h e. done_before c.args.edges.now (length c.args.labels.now.items) (length c.args.edges.now)
          c.args.incoming.now.last.items c.args.incoming.now.before.items c.args.done c.args.node c.loop-after.after
          c.loop-after.labels.items c.relax_collecting.new.labels.items l c.loop-after-test.true i.low refl (i.end c.loop-after-test.true)
          c.relax_collecting.ensures.keeps c.relax_collecting.ensures.done i.done j (omega arith) h e;
    }
