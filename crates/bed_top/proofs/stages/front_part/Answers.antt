use Rattle.std.proofs.Common.{arith, ap, length}
use Rattle.bed_top.proofs.LeafLemmas.{some_scoped, few_scoped}
use Rattle.bed_top.proofs.StageLemmas.{stopped, went}
use Rattle.bed_top.proofs.stages.front_part.Goals as goal

pub returns-in_err-lengths-clause-gives : goal.returns-in_err-lengths-clause-gives
returns-in_err-lengths-clause-gives c = λ words. stopped c.from_residual.ensures.1 (c.in_err-lengths.ensures words _)

pub returns-in_err-modules-clause-gives : goal.returns-in_err-modules-clause-gives
returns-in_err-modules-clause-gives c = λ words. went (c.in_ok-lengths.ensures words _) (stopped c.from_residual-in_err-modules.ensures.1 (c.in_err-modules.ensures.gives words))

pub returns-in_err-few-clause-gives : goal.returns-in_err-few-clause-gives
returns-in_err-few-clause-gives c = λ words. went (c.in_ok-lengths.ensures words _) (went (c.in_ok-modules.ensures.gives words)
    (stopped c.from_residual-in_err-few.ensures.1 (c.in_err-few.ensures.gives _ _)))

pub returns-clause-gives : goal.returns-clause-gives
returns-clause-gives c = λ words. went (c.in_ok-lengths.ensures words _) (went (c.in_ok-modules.ensures.gives words) (went (c.in_ok-few.ensures.gives _ _) (c.scoped.ensures.gives words)))

pub returns-clause-some : goal.returns-clause-some
returns-clause-some c =
    let each = c.in_ok-modules.ensures.each in
    let same = c.in_ok-few.ensures.same in
    some_scoped c.in_ok-few.few.items c.scoped.result (omega (arith, each, ap length same, c.requires.some)) c.scoped.ensures.resolved

pub returns-clause-few : goal.returns-clause-few
returns-clause-few c = few_scoped c.in_ok-few.few.items c.scoped.result c.in_ok-few.ensures.few c.scoped.ensures.resolved

pub scoped-requires-clause-few : goal.scoped-requires-clause-few
scoped-requires-clause-few c =
    let each = c.in_ok-modules.ensures.each in
    let same = c.in_ok-few.ensures.same in
    omega (arith, each, ap length same, c.requires.few)
