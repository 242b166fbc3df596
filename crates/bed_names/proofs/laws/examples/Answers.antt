use Rattle.bed_names.proofs.RuleLaws.{second_return_is_dead, calls_need_room}
use Rattle.bed_names.proofs.laws.examples.Goals as goal

pub returns-clause-dead : goal.returns-clause-dead
returns-clause-dead c = second_return_is_dead

pub returns-clause-room : goal.returns-clause-room
returns-clause-room c = calls_need_room
