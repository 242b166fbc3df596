use Rattle.bed_check_heap.proofs.TableLaws.{claim_is_kept, when_is_kept, never_is_kept}
use Rattle.bed_check_heap.proofs.laws.facts.Goals as goal

pub returns-clause-claim : goal.returns-clause-claim
returns-clause-claim c = claim_is_kept

pub returns-clause-when : goal.returns-clause-when
returns-clause-when c = when_is_kept

pub returns-clause-never : goal.returns-clause-never
returns-clause-never c = never_is_kept
