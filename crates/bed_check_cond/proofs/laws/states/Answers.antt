use Rattle.bed_check_cond.proofs.ChainLemmas.{rules_grow, steps_grow}
use Rattle.bed_check_cond.proofs.laws.states.Goals as goal

pub returns-clause-rules : goal.returns-clause-rules
returns-clause-rules c = rules_grow

pub returns-clause-steps : goal.returns-clause-steps
returns-clause-steps c = steps_grow
