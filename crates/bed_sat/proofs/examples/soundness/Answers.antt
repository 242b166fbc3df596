use Rattle.bed_sat.proofs.SoundExamples.{spinning_example, wrong_invariant_example, starters_cell_example, stray_example, undefined_example, overwriting_example, jumping_example}
use Rattle.bed_sat.proofs.examples.soundness.Goals as goal

pub returns-clause-spinning : goal.returns-clause-spinning
returns-clause-spinning c = spinning_example

pub returns-clause-wrong_invariant : goal.returns-clause-wrong_invariant
returns-clause-wrong_invariant c = wrong_invariant_example

pub returns-clause-starters_cell : goal.returns-clause-starters_cell
returns-clause-starters_cell c = starters_cell_example

pub returns-clause-stray : goal.returns-clause-stray
returns-clause-stray c = stray_example

pub returns-clause-undefined : goal.returns-clause-undefined
returns-clause-undefined c = undefined_example

pub returns-clause-overwriting : goal.returns-clause-overwriting
returns-clause-overwriting c = overwriting_example

pub returns-clause-jumping : goal.returns-clause-jumping
returns-clause-jumping c = jumping_example
