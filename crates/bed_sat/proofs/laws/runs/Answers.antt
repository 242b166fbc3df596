use Rattle.bed_machine.proofs.StepLaws.{step_only}
use Rattle.bed_sat.proofs.RunLaws.{run_prefix, turn_state}
use Rattle.bed_sat.proofs.laws.runs.Goals as goal

pub returns-clause-beginnings : goal.returns-clause-beginnings
returns-clause-beginnings c = run_prefix

pub returns-clause-states : goal.returns-clause-states
returns-clause-states c = turn_state

pub returns-clause-unique : goal.returns-clause-unique
returns-clause-unique c = step_only
