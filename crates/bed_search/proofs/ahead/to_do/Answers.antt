use Rattle.std.proofs.Common.{arith, length, ◌++◌, ap, ◌∙◌}
use Rattle.bed_search.specs.Ahead.{hints_at}
use Rattle.bed_search.proofs.AheadLemmas.{along_next}
use Rattle.bed_search.proofs.ahead.to_do.Goals as goal

pub loop-n-preserved : goal.loop-n-preserved
loop-n-preserved c =
    along_next c.args.c.now.hints c.loop-n.n c.args.c.now.actions c.args.c.now.goal c.loop-n.out c.push_hints.new.out c.push.new.self _
    (let e = ap length c.as_slice-actions.ensures in omega arith) c.loop-n.invariant
    (c.in_ok-push_hints.ensures ∙ ap (λ hs. c.loop-n.out ++ hints_at hs c.loop-n.n) c.as_slice-hints.ensures) c.in_ok-push.ensures.ok
