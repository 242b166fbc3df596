use Rattle.bed_table.proofs.StepLemmas.{within_step, bytes_step, count_step}
use Rattle.bed_table.proofs.symbols.SymbolTable.put_functions.Goals as goal

pub loop-item-preserved : goal.loop-item-preserved
loop-item-preserved c =
    let s = c.loop-item in
    record {
      within = within_step c.args.functions.now s.item-index c.item-item.result s.at c.function_size-at.result c.loop-item-test.true c.item-item.is
          c.function_size-at.ensures s.invariant.within;
      bytes_are = bytes_step c.args.functions.now s.item-index c.item-item.result s.at c.function_size-at.result c.loop-item-test.true c.item-item.is
          c.function_size-at.ensures s.self c.put_function.new.self c.in_ok-put_function.ensures _ s.invariant.bytes_are;
      count_is = count_step c.args.functions.now s.item-index c.item-item.result s.at c.function_size-at.result c.loop-item-test.true c.item-item.is
          c.function_size-at.ensures s.self c.put_function.new.self c.in_ok-put_function.ensures _ s.invariant.count_is;
    }
