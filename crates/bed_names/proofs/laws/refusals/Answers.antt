use Rattle.bed_names.proofs.RuleLaws.{refusal_is_fault, faults_are_refused, no_fault_goes_before}
use Rattle.bed_names.proofs.laws.refusals.Goals as goal

pub returns-clause-is_fault : goal.returns-clause-is_fault
returns-clause-is_fault c = refusal_is_fault

pub returns-clause-refused : goal.returns-clause-refused
returns-clause-refused c = faults_are_refused

pub returns-clause-least : goal.returns-clause-least
returns-clause-least c = no_fault_goes_before
