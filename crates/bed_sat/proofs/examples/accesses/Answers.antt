use Rattle.bed_sat.proofs.BodyExamples.{storing_example, byte_example, unmapped_store_example}
use Rattle.bed_sat.proofs.examples.accesses.Goals as goal

pub returns-clause-word : goal.returns-clause-word
returns-clause-word c = storing_example

pub returns-clause-byte : goal.returns-clause-byte
returns-clause-byte c = byte_example

pub returns-clause-unmapped : goal.returns-clause-unmapped
returns-clause-unmapped c = unmapped_store_example
