use Rattle.bed_sat.proofs.MemoryExamples.{no_functions_example}
use Rattle.bed_sat.proofs.ProgramExamples.{seven_example, two_functions_example, eight_example, loose_example}
use Rattle.bed_sat.proofs.examples.programs.Goals as goal

pub returns-clause-sound : goal.returns-clause-sound
returns-clause-sound c = seven_example

pub returns-clause-unsound : goal.returns-clause-unsound
returns-clause-unsound c = eight_example

pub returns-clause-empty_list : goal.returns-clause-empty_list
returns-clause-empty_list c = no_functions_example

pub returns-clause-unanswered : goal.returns-clause-unanswered
returns-clause-unanswered c = loose_example

pub returns-clause-several : goal.returns-clause-several
returns-clause-several c = two_functions_example
