use Rattle.bed_sat.proofs.MemoryExamples.{block_example, forgotten_example, segment_example, nowhere_example, wrap_example}
use Rattle.bed_sat.proofs.examples.assertions.Goals as goal

pub returns-clause-block : goal.returns-clause-block
returns-clause-block c = block_example

pub returns-clause-forgotten : goal.returns-clause-forgotten
returns-clause-forgotten c = forgotten_example

pub returns-clause-segment : goal.returns-clause-segment
returns-clause-segment c = segment_example

pub returns-clause-nowhere : goal.returns-clause-nowhere
returns-clause-nowhere c = nowhere_example

pub returns-clause-wraps : goal.returns-clause-wraps
returns-clause-wraps c = wrap_example
