use Rattle.bed_scoped.proofs.ScopedLaws.{scoped_are_named, scoped_is_sound}
use Rattle.bed_scoped.proofs.laws.modules.Goals as goal

pub returns-clause-named : goal.returns-clause-named
returns-clause-named c = scoped_are_named c.functions.ensures.regular c.conditions.ensures.code

pub returns-clause-sound : goal.returns-clause-sound
returns-clause-sound c = scoped_is_sound (scoped_are_named c.functions.ensures.regular c.conditions.ensures.code) c.fitting.ensures.sound
