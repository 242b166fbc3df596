use Rattle.std.proofs.Common.{sym}
use Rattle.bed_grammar.proofs.Reading.{pushed, finished}
use Rattle.bed_read.proofs.Lists.{more_cases_more, more_cases_done}
use Rattle.bed_read.proofs.item.more_cases.Goals as goal

pub loop-alloc-preserved : goal.loop-alloc-preserved
loop-alloc-preserved c = pushed _ _ _ c.loop-alloc.out c.push-in-loop-alloc.new.self c.in_ok-next.next c.loop-alloc.invariant (more_cases_more _ _ _ _ _ _ _ c.in_ok-after.ensures.read (sym c.loop-alloc-test.ensures) c.limit_at.ensures c.in_ok-next.ensures.exact) c.in_ok-push-2.ensures.ok

pub returns : goal.returns
returns c = finished _ _ c.loop-alloc.out _ c.loop-alloc.invariant (more_cases_done _ _ (sym c.loop-alloc-test.ensures))
