use Rattle.std.proofs.Common.{arith, ap}
use Rattle.bed_top.specs.Causes.{function_count}
use Rattle.bed_top.proofs.StageLemmas.{stopped, went}
use Rattle.bed_top.proofs.stages.linking_part.Goals as goal

pub returns-in_err-scoped-clause-gives : goal.returns-in_err-scoped-clause-gives
returns-in_err-scoped-clause-gives c = λ words. stopped c.from_residual.ensures.1 (c.in_err-scoped.ensures.gives words)

pub returns-in_err-linked-clause-gives : goal.returns-in_err-linked-clause-gives
returns-in_err-linked-clause-gives c = λ words. went (c.in_ok-scoped.ensures.gives words) (stopped c.from_residual-in_err-linked.ensures.1 (c.in_err-linked.ensures.gives _))

pub judged-requires : goal.judged-requires
judged-requires c = let few = c.in_ok-scoped.ensures.few in omega (arith, few, ap function_count c.in_ok-linked.ensures.only)

pub returns-clause-gives : goal.returns-clause-gives
returns-clause-gives c = λ words. went (c.in_ok-scoped.ensures.gives words) (went (c.in_ok-linked.ensures.gives _) (c.judged.ensures.gives _ _))
