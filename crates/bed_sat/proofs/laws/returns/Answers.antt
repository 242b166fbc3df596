use Rattle.bed_sat.proofs.ReturnLaws.{return_program_sound, return_program_sound_from_all, exported_sound}
use Rattle.bed_sat.proofs.laws.returns.Goals as goal

pub returns : goal.returns
returns c = record { sound = return_program_sound; from_all = return_program_sound_from_all; exported = exported_sound }
