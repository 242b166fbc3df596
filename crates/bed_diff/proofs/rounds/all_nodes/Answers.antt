use Rattle.std.proofs.Common.{◌∙◌, arith}
use Rattle.std.proofs.lemmas.List.{get_or_default}
use Rattle.bed_diff.proofs.rounds.all_nodes.Goals as goal

pub returns-clause-each : goal.returns-clause-each
returns-clause-each c = λ x h.
    let i = c.loop-node.invariant in
    let len = i.0 in
    (x, omega arith, get_or_default c.loop-node.all.items x x 0 (omega arith) ∙ i.1 x (omega arith))
