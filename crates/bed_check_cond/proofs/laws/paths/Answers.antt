use Rattle.bed_check_cond.proofs.EndLaws.{finish_is_closed}
use Rattle.bed_check_cond.proofs.DerivedLaws.{step_is_closed}
use Rattle.bed_check_cond.proofs.laws.paths.Goals as goal

pub returns-clause-step : goal.returns-clause-step
returns-clause-step c = step_is_closed

pub returns-clause-finish : goal.returns-clause-finish
returns-clause-finish c = finish_is_closed
