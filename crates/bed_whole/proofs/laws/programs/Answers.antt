use Rattle.bed_whole.proofs.ProgramLaws.{valid_is_sound}
use Rattle.bed_whole.proofs.laws.programs.Goals as goal

pub returns : goal.returns
returns c = valid_is_sound c.conditions.ensures.code c.declarations.ensures.among_all
