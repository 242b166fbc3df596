use Rattle.std.proofs.Common.{sym}
use Rattle.bed_grammar.proofs.Reading.{pushed, finished}
use Rattle.bed_read.proofs.Lists.{more_args_more, more_args_done}
use Rattle.bed_read.proofs.sequence.more_args.Goals as goal

pub loop-alloc-preserved : goal.loop-alloc-preserved
loop-alloc-preserved c = pushed _ _ _ c.loop-alloc.out c.push-in-loop-alloc.new.self c.in_ok-next.next c.loop-alloc.invariant (more_args_more _ _ _ _ _ _ c.in_ok-after.ensures.read (sym c.loop-alloc-test.ensures) c.in_ok-next.ensures) c.in_ok-push-2.ensures.ok

pub returns : goal.returns
returns c = finished _ _ c.loop-alloc.out _ c.loop-alloc.invariant (more_args_done _ _ (sym c.loop-alloc-test.ensures))
