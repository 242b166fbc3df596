use Rattle.std.proofs.Common.{◌∙◌, sym}
use Rattle.bed_deriv.proofs.LeftLemmas.{number_kept, number_gone}
use Rattle.bed_deriv.proofs.choice.numbers_left.Goals as goal
use Rattle.bed_deriv.proofs.choice.numbers_left.Goals.{then-not-is_chosen+in_ok-push, else-not-is_chosen}

pub loop-at-preserved : goal.loop-at-preserved
loop-at-preserved c =
    elim c.if-not-is_chosen.branch [
      | then-not-is_chosen+in_ok-push w ↦
          number_kept c.args.choices.now c.args.atoms.now c.loop-at.at _ _ _ c.loop-at-test.true (sym c.is_chosen.ensures ∙ w.if-not-is_chosen.true) (w.out-is ∙ w.in_ok-push.ensures.ok) c.loop-at.invariant
      | else-not-is_chosen w ↦
          number_gone c.args.choices.now c.args.atoms.now c.loop-at.at _ _ _ c.loop-at-test.true (sym c.is_chosen.ensures ∙ w.if-not-is_chosen.false) w.out-is c.loop-at.invariant
    ]
