use Rattle.std.proofs.Common.{sym}
use Rattle.bed_grammar.proofs.Reading.{pushed, finished}
use Rattle.bed_read.proofs.Shorter.{shorter_import}
use Rattle.bed_read.proofs.Lists.{imports_more, imports_done}
use Rattle.bed_read.proofs.item.imports.Goals as goal

pub loop-alloc-preserved : goal.loop-alloc-preserved
loop-alloc-preserved c = pushed _ _ _ c.loop-alloc.out c.push.new.self c.in_ok-next.next c.loop-alloc.invariant (imports_more _ _ _ (sym c.loop-alloc-test.ensures) c.in_ok-next.ensures) c.in_ok-push.ensures.ok

pub returns : goal.returns
returns c = finished _ _ c.loop-alloc.out _ c.loop-alloc.invariant (imports_done _ (sym c.loop-alloc-test.ensures))

pub loop-alloc-smaller : goal.loop-alloc-smaller
loop-alloc-smaller c = shorter_import _ _ _ c.in_ok-next.ensures
