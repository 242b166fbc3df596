use Rattle.std.proofs.Common.{map}
use Rattle.bed_table.specs.Layout.{address_of}
use Rattle.bed_table.specs.Seen.{label_of}
use Rattle.bed_table.proofs.StepLemmas.{within_step, code_step}
use Rattle.bed_table.proofs.code.put_functions.Goals as goal

pub loop-item-preserved : goal.loop-item-preserved
loop-item-preserved c =
    let s = c.loop-item in
    record {
      within = within_step c.args.functions.now s.item-index c.item-item.result s.at c.function_size-at.result c.loop-item-test.true c.item-item.is
          c.function_size-at.ensures s.invariant.within;
      same = code_step c.args.functions.now s.item-index c.item-item.result s.at c.function_size-at.result c.loop-item-test.true c.item-item.is
          c.function_size-at.ensures (address_of (map label_of c.args.labels.now)) s.out.items c.put_function.new.out.items _ s.invariant.same
          c.in_ok-put_function.ensures;
    }
