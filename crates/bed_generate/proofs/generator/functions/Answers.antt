use Rattle.std.proofs.Common.{nat_eq}
use Rattle.bed_generate.specs.Generated.{function}
use Rattle.bed_generate.proofs.RowLemmas.{one_more}
use Rattle.bed_generate.proofs.generator.functions.Goals as goal

pub loop-before-preserved : goal.loop-before-preserved
loop-before-preserved c =
    one_more (λ i. function (nat_eq i c.args.count) i) c.loop-before.before _ _ _ c.loop-before.invariant c.in_ok-function.ensures c.in_ok-push.ensures.ok
