use Rattle.bed_check_cond.specs.Points.{rest_of, onward_left}
use Rattle.bed_check_cond.proofs.TurnLemmas.{opened_walk, opened_smaller}
use Rattle.bed_check_cond.proofs.rests.opened.Goals as goal

pub returns-else-node-eq4294967295-clause-walk : goal.returns-else-node-eq4294967295-clause-walk
returns-else-node-eq4294967295-clause-walk c =
    opened_walk c.args.decls.now c.args.function.now c.args.d.now (rest_of c.args.at.now) c.args.node c.len-n.result (onward_left c.in-Ok.left) c.as_slice.result.now
    c.as_slice-children.result.now c.facts_walked.result c.as_slice.ensures c.len-n.ensures c.as_slice-children.ensures c.in-Ok.ensures.exact c.facts_walked.ensures.walk

pub returns-else-node-eq4294967295-clause-smaller : goal.returns-else-node-eq4294967295-clause-smaller
returns-else-node-eq4294967295-clause-smaller c =
    opened_smaller c.args.d.now _ c.as_slice-children.result.now c.facts_walked.result c.as_slice-children.ensures c.facts_walked.ensures.children
