use Rattle.std.proofs.Common.{◌≡◌, sym, ap, ◌∙◌, arith}
use Rattle.bed_plain.specs.Solving.{first_step}
use Rattle.bed_solve.proofs.SolvingLemmas.{begun_at, rests, spent, goes_to}
use Rattle.bed_solve.proofs.solution.solve.Goals as goal

pub loop-left-init : goal.loop-left-init
loop-left-init c = begun_at c.args.s.now c.in_ok-out.out c.new-taken.result c.in_ok-out.ensures c.new-taken.ensures

pub returns-in-None : goal.returns-in-None
returns-in-None c =
    let same : c.as_slice.result.now ≡ c.loop-left.taken = cc in
    rests c.args.s.now c.loop-left.out c.loop-left.taken c.loop-left.left c.loop-left.invariant
    (ap (λ ts. first_step c.loop-left.out.state ts 1 c.loop-left.out.state.facts) (sym same) ∙ sym c.in_ok-first_step.ensures ∙ c.in-None.is)

pub loop-left-preserved : goal.loop-left-preserved
loop-left-preserved c =
    let same : c.as_slice.result.now ≡ c.loop-left.taken = cc in
    goes_to c.args.s.now c.loop-left.out c.loop-left.taken c.loop-left.left c.in-Some.step c.push_step.new.out c.push.new.self c.loop-left.invariant (omega arith)
    (ap (λ ts. first_step c.loop-left.out.state ts 1 c.loop-left.out.state.facts) (sym same) ∙ sym c.in_ok-first_step.ensures ∙ c.in-Some.is) c.in_ok-push_step-in-Some.ensures c.in_ok-push-in-Some.ensures.ok

pub returns : goal.returns
returns c = spent c.args.s.now c.loop-left.out c.loop-left.taken c.loop-left.left c.loop-left.invariant (omega arith)
