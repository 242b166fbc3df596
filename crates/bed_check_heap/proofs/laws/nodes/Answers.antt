use Rattle.bed_check_heap.proofs.StepLaws.{stepped-leads, matched-meets}
use Rattle.bed_check_heap.proofs.laws.nodes.Goals as goal

pub returns-clause-steps : goal.returns-clause-steps
returns-clause-steps c = stepped-leads

pub returns-clause-matches : goal.returns-clause-matches
returns-clause-matches c = matched-meets
