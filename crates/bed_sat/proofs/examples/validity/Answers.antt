use Rattle.bed_sat.proofs.ValidExamples.{counting_is_valid, call_is_valid}
use Rattle.bed_sat.proofs.RefutedExamples.{forgotten_cell_example, unmapped_load_example, wrapping_sum_example}
use Rattle.bed_sat.proofs.examples.validity.Goals as goal

pub returns-clause-counting : goal.returns-clause-counting
returns-clause-counting c = counting_is_valid

pub returns-clause-calling : goal.returns-clause-calling
returns-clause-calling c = call_is_valid

pub returns-clause-forgotten : goal.returns-clause-forgotten
returns-clause-forgotten c = forgotten_cell_example

pub returns-clause-unmapped : goal.returns-clause-unmapped
returns-clause-unmapped c = unmapped_load_example

pub returns-clause-wraps : goal.returns-clause-wraps
returns-clause-wraps c = wrapping_sum_example
