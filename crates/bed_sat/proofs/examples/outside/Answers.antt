use Rattle.bed_sat.proofs.OutsideExamples.{calling_example, dishonest_example, unmet_call_example, tail_call_example}
use Rattle.bed_sat.proofs.examples.outside.Goals as goal

pub returns-clause-calling : goal.returns-clause-calling
returns-clause-calling c = calling_example

pub returns-clause-dishonest : goal.returns-clause-dishonest
returns-clause-dishonest c = dishonest_example

pub returns-clause-unmet_call : goal.returns-clause-unmet_call
returns-clause-unmet_call c = unmet_call_example

pub returns-clause-tail_call : goal.returns-clause-tail_call
returns-clause-tail_call c = tail_call_example
