use Rattle.bed_sat.proofs.BodyExamples.{wrong_after_example, no_cell_example, dropped_cell_example, cell_stays_example, unknown_target_example}
use Rattle.bed_sat.proofs.examples.calls.Goals as goal

pub returns-clause-wrong_after : goal.returns-clause-wrong_after
returns-clause-wrong_after c = wrong_after_example

pub returns-clause-no_cell : goal.returns-clause-no_cell
returns-clause-no_cell c = no_cell_example

pub returns-clause-dropped_cell : goal.returns-clause-dropped_cell
returns-clause-dropped_cell c = dropped_cell_example

pub returns-clause-cell_stays : goal.returns-clause-cell_stays
returns-clause-cell_stays c = cell_stays_example

pub returns-clause-unknown_target : goal.returns-clause-unknown_target
returns-clause-unknown_target c = unknown_target_example
