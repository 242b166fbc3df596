use Rattle.bed_layout.proofs.FunctionLemmas.{longest_more}
use Rattle.bed_layout.proofs.functions.longest.Goals as goal

pub loop-module-preserved : goal.loop-module-preserved
loop-module-preserved g c B is =
    let s = c.loop-module in
    let of = c.longest_of-longest in
    longest_more g.M.HasBlocks.each c.args.code.now s.module-index c.module-item.result c.loop-module-test.true c.module-item.is c.functions.result.now s.longest of.result B c.functions.ensures of.ensures.least of.ensures.each (s.invariant B is)
