use Rattle.std.proofs.Common.{arith}
use Rattle.std.proofs.lemmas.Result.{err_from_is_err_and}
use Rattle.bed_image.specs.Reading.{rest_of, symbols_at}
use Rattle.bed_image.proofs.LoopLemmas.{goes_on, ends, is_done}
use Rattle.bed_image.proofs.reading.symbols.Goals as goal

pub returns-in_err-symbol-clause-gives : goal.returns-in_err-symbol-clause-gives
returns-in_err-symbol-clause-gives c =
    let p = err_from_is_err_and c.from_residual.result c.from_residual.ensures.1 in
    rw (p.1, p.2)
    (ends c.args.base c.args.size c.loop.symbols c.args.count c.loop.counter (rest_of c.loop.rest) (symbols_at c.args.base c.args.size c.args.count (rest_of c.args.from))
    c.loop.invariant.read c.in_err-symbol.field-0.0 c.loop-test.true c.in_err-symbol.ensures.gives)

pub loop-preserved : goal.loop-preserved
loop-preserved c =
    let before = c.loop.invariant.near in
    let moved = c.in_ok-symbol.ensures.moves in
    record {
      read = rw c.in_ok-push.ensures.ok
          (goes_on c.args.base c.args.size c.loop.symbols c.args.count c.loop.counter (rest_of c.loop.rest) (symbols_at c.args.base c.args.size c.args.count (rest_of c.args.from))
          c.loop.invariant.read c.in_ok-symbol.symbol (rest_of c.in_ok-symbol.after) c.loop-test.true c.in_ok-symbol.ensures.gives);
      near = omega arith;
    }

pub returns-clause-gives : goal.returns-clause-gives
returns-clause-gives c =
    is_done c.args.base c.args.size c.loop.symbols c.args.count c.loop.counter (rest_of c.loop.rest) (symbols_at c.args.base c.args.size c.args.count (rest_of c.args.from))
    c.loop.invariant.read c.loop-test.false
