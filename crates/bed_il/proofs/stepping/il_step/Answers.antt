use Rattle.bed_il.proofs.stepping.il_step.Goals as goal

pub step_in-requires : goal.step_in-requires
step_in-requires g c = c.requires _ c.in-Some.ensures.among
