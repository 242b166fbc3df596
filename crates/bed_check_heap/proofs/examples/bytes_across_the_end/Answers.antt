use Rattle.bed_check_heap.proofs.ExampleLaws.{asks_too_high, no_tree}
use Rattle.bed_check_heap.proofs.examples.bytes_across_the_end.Goals as goal

pub returns-clause-asks : goal.returns-clause-asks
returns-clause-asks c = asks_too_high

pub returns-clause-none : goal.returns-clause-none
returns-clause-none c = no_tree
