use Rattle.std.proofs.Common.{arith}
use Rattle.bed_layout.proofs.LabelLemmas.{size_more, set_more}
use Rattle.bed_layout.proofs.labels.set_places.Goals as goal

pub loop-number-preserved : goal.loop-number-preserved
loop-number-preserved c =
    let s = c.loop-number in
    let n = c.index-blocks-number in
    let more = size_more c.args.blocks.now s.number n.result c.loop-number-test.true n.is in
    record {
      next_is = omega (arith, more, c.block_size-next.ensures, s.invariant.next_is);
      set = set_more c.args.blocks.now c.args.at s.places c.set.new.places s.number s.next c.set.ensures s.invariant.next_is s.invariant.set;
    }
