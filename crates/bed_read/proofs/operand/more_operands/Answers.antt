use Rattle.std.proofs.Common.{sym}
use Rattle.bed_grammar.proofs.Reading.{pushed, finished}
use Rattle.bed_read.proofs.Lists.{more_operands_more, more_operands_done}
use Rattle.bed_read.proofs.operand.more_operands.Goals as goal

pub loop-alloc-preserved : goal.loop-alloc-preserved
loop-alloc-preserved c = pushed _ _ _ c.loop-alloc.out c.push-in-loop-alloc.new.self c.in_ok-next.next.1 c.loop-alloc.invariant (more_operands_more _ _ _ _ _ c.in_ok-after.ensures.read (sym c.loop-alloc-test.ensures) c.in_ok-next.ensures) c.in_ok-push-2.ensures.ok

pub returns : goal.returns
returns c = finished _ _ c.loop-alloc.out _ c.loop-alloc.invariant (more_operands_done _ (sym c.loop-alloc-test.ensures))
