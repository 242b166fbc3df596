use Rattle.bed_top.specs.Gives.{texts_of}
use Rattle.bed_top.specs.Views.{view}
use Rattle.bed_top.proofs.CallLemmas.{judged_refused, judged_passed}
use Rattle.bed_top.proofs.judge.judge.Goals as goal

pub returns-in_err-linked : goal.returns-in_err-linked
returns-in_err-linked c = λ words. judged_refused {v = view words (texts_of c.args.texts.now)} _ c.from_residual.ensures.1 (c.in_err-linked.ensures.gives words)

pub returns : goal.returns
returns c = λ words. judged_passed c.in_ok-plan_link.field-0 (c.in_ok-linked.ensures.gives words) (c.in_ok-plan_link.ensures (view words (texts_of c.args.texts.now)))
