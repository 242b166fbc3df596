use Rattle.bed_check_cond.proofs.TurnLemmas.{turned_below, goes_below, smaller_spent, smaller_below}
use Rattle.bed_check_cond.proofs.rests.walk_left.Goals as goal

pub turns-preserved-in_default-wait_both : goal.turns-preserved-in_default-wait_both
turns-preserved-in_default-wait_both c =
    let goes = turned_below c.args.decls.now c.args.function.now c.in_ok-turned.field-0 c.in-Some-2.turned c.in-Some.rests c.turns.node c.in-Some-2.is c.in_ok-turned.ensures in
    goes_below c.args.decls.now c.args.function.now _ _ _ c.in-Some.rests c.in-Some-2.turned.left c.in-Some-2.turned.below c.turns.node _ _ c.in-Some.ensures goes.0
    c.in_default-wait_both.ensures c.turns.invariant

pub turns-smaller-in_default-wait_both : goal.turns-smaller-in_default-wait_both
turns-smaller-in_default-wait_both c =
    let goes = turned_below c.args.decls.now c.args.function.now c.in_ok-turned.field-0 c.in-Some-2.turned c.in-Some.rests c.turns.node c.in-Some-2.is c.in_ok-turned.ensures in
    smaller_below _ _ _ c.in-Some.rests c.in-Some-2.turned.left c.in-Some-2.turned.below c.in-Some.ensures goes.1 c.in_default-wait_both.ensures

pub turns-smaller : goal.turns-smaller
turns-smaller c = smaller_spent _ _ c.in-Some.rests c.in-Some.ensures
