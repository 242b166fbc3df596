use Rattle.std.proofs.Common.{sym}
use Rattle.bed_grammar.proofs.Reading.{pushed, finished}
use Rattle.bed_read.proofs.Shorter.{shorter_signature}
use Rattle.bed_read.proofs.Lists.{signatures_more, signatures_done}
use Rattle.bed_read.proofs.item.signatures.Goals as goal

pub loop-alloc-preserved : goal.loop-alloc-preserved
loop-alloc-preserved c = pushed _ _ _ c.loop-alloc.out c.push.new.self c.in_ok-next.next c.loop-alloc.invariant (signatures_more _ _ _ (sym c.loop-alloc-test.ensures) c.in_ok-next.ensures) c.in_ok-push.ensures.ok

pub returns : goal.returns
returns c = finished _ _ c.loop-alloc.out _ c.loop-alloc.invariant (signatures_done _ (sym c.loop-alloc-test.ensures))

pub loop-alloc-smaller : goal.loop-alloc-smaller
loop-alloc-smaller c = shorter_signature _ _ _ c.in_ok-next.ensures
