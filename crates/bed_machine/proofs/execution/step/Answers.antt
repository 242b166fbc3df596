-- What was decoded begins at eip, or nothing does.
use Rattle.bed_machine.proofs.Steps.{step_undefined, step_makes}
use Rattle.bed_machine.proofs.StepLaws.{outcome_state}
use Rattle.bed_machine.proofs.execution.step.Goals as goal

pub returns-in-Err-clause-step : goal.returns-in-Err-clause-step
returns-in-Err-clause-step g c = step_undefined _ _ c.in-Some.bytes.now c.in-Err.field-0 c.in-Some.ensures.inside.0 c.in-Some.ensures.inside.1 c.in-Err.ensures.found

pub returns-in-Ok-clause-step : goal.returns-in-Ok-clause-step
returns-in-Ok-clause-step g c =
    step_makes _ _ c.in-Some.bytes.now c.in-Ok.ins c.in-Ok.size _ c.in-Some.ensures.inside.0 c.in-Some.ensures.inside.1 c.in-Ok.ensures.found c.execute.ensures.effect

pub returns-in-Ok-clause-state : goal.returns-in-Ok-clause-state
returns-in-Ok-clause-state g c = outcome_state _ _ _ c.execute.result (returns-in-Ok-clause-step g c) c.execute.ensures.kept
