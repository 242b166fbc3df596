use Rattle.std.proofs.Common.{◌≡◌, ◌∙◌, ap, map, arith}
use Rattle.bed_deriv.specs.Opening.{replaced_fact}
use Rattle.bed_plain.specs.Solving.{setting}
use Rattle.bed_solve.proofs.SolvingLemmas.{set_more}
use Rattle.bed_solve.proofs.solution.read_all.Goals as goal

pub loop-reading-preserved : goal.loop-reading-preserved
loop-reading-preserved c =
    let same : c.as_slice.result.now ≡ c.loop-reading.goals = cc in
    set_more c.args.readings.now c.loop-reading.reading-index c.reading-item.result c.args.goal.now c.loop-reading.goals c.in_ok-goals-2.goals (omega arith) c.reading-item.is c.loop-reading.invariant
    (c.in_ok-goals-2.ensures ∙ ap (map (replaced_fact (setting c.reading-item.result))) same)
