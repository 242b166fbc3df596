use Rattle.bed_layout.proofs.SoundLaws.{sound_from_all, sound, written_from_all}
use Rattle.bed_layout.proofs.laws.sound.Goals as goal

pub returns-clause-from_all : goal.returns-clause-from_all
returns-clause-from_all c = sound_from_all

pub returns-clause-from_exported : goal.returns-clause-from_exported
returns-clause-from_exported c = sound

pub returns-clause-of_statements : goal.returns-clause-of_statements
returns-clause-of_statements c = written_from_all
