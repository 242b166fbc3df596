use Rattle.std.proofs.Common.{map}
use Rattle.bed_link.proofs.OutsideLemmas.{outside_step}
use Rattle.bed_link.proofs.outside.outside_names_of.Goals as goal

pub loop-part-preserved : goal.loop-part-preserved
loop-part-preserved c = record {
  seen = c.in_ok-push_new.ensures.seen c.loop-part.invariant.seen;
  names = λ ds same.
      outside_step ds c.args.exported.now c.loop-part.seen (map (λ n. n.now) c.loop-part.out.items) (map (λ n. n.now) c.push_new.new.out.items)
      c.args.imports.now c.loop-part.part-index c.part-item.result _ c.loop-part-test.true c.part-item.is same c.loop-part.invariant.seen
      c.in_ok-push_new.ensures.names (c.loop-part.invariant.names ds same);
}
