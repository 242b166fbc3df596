use Rattle.bed_link.proofs.StandingLaws.{functions_stand, code_fits, imports_are_given, imports_lie_outside}
use Rattle.bed_link.proofs.laws.standing.Goals as goal

pub returns-clause-functions : goal.returns-clause-functions
returns-clause-functions c = functions_stand

pub returns-clause-code : goal.returns-clause-code
returns-clause-code c = code_fits

pub returns-clause-imports : goal.returns-clause-imports
returns-clause-imports c = imports_are_given

pub returns-clause-outside : goal.returns-clause-outside
returns-clause-outside c = imports_lie_outside
