use Rattle.std.proofs.Common.{◌-◌, length, map, slice_get, refl}
use Rattle.bed_layout.specs.Layered.{functions_in}
use Rattle.bed_layout.proofs.FunctionLemmas.{found_here, found_later}
use Rattle.bed_layout.proofs.functions.function_at.Goals as goal

pub returns-then-left-functions : goal.returns-then-left-functions
returns-then-left-functions g c =
    let each = g.M.HasBlocks.each in
    let code = c.args.code.now in
    let s = c.loop-module in
    found_here each code s.module-index c.module-item.result c.loop-module-test.true c.module-item.is c.functions-functions.result.now s.left (slice_get (functions_in (map each code)) c.args.number) c.index-functions-left.result
    c.functions-functions.ensures c.if-left-functions.true c.index-functions-left.is s.invariant

pub loop-module-preserved : goal.loop-module-preserved
loop-module-preserved g c =
    let each = g.M.HasBlocks.each in
    let code = c.args.code.now in
    let s = c.loop-module in
    found_later each code s.module-index c.module-item.result c.loop-module-test.true c.module-item.is c.functions-functions.result.now s.left (s.left - length c.functions-functions.result.now)
    (slice_get (functions_in (map each code)) c.args.number) c.functions-functions.ensures c.if-left-functions.false refl s.invariant
