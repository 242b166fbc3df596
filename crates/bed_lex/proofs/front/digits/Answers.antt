use Rattle.std.proofs.Common.{sym}
use Rattle.bed_lex.proofs.NumberLemmas.{passes}
use Rattle.bed_lex.proofs.front.digits.Goals as goal

pub returns-then-value-gt4294967295 : goal.returns-then-value-gt4294967295
returns-then-value-gt4294967295 c =
    passes c.args.hexadecimal c.args.word.now c.loop-byte.byte-index c.loop-byte.value c.in-Some.digit c.if-hexadecimal.radix c.loop-byte.invariant.radix
    c.loop-byte-test.true (sym c.in-Some.ensures.exact) c.if-value-gt4294967295.true c.loop-byte.invariant.so_far
