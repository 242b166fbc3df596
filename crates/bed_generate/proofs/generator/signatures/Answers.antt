use Rattle.bed_generate.specs.Generated.{signature}
use Rattle.bed_generate.proofs.RowLemmas.{one_more}
use Rattle.bed_generate.proofs.generator.signatures.Goals as goal

pub loop-before-preserved : goal.loop-before-preserved
loop-before-preserved c =
    one_more signature c.loop-before.before _ _ _ c.loop-before.invariant c.in_ok-signature.ensures c.in_ok-push.ensures.ok
