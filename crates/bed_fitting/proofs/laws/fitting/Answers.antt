use Rattle.bed_fitting.proofs.FittingLaws.{linkable_fit}
use Rattle.bed_fitting.proofs.laws.fitting.Goals as goal

pub returns-clause-fit : goal.returns-clause-fit
returns-clause-fit c = linkable_fit c.standing.ensures.functions c.standing.ensures.code c.standing.ensures.imports c.standing.ensures.outside

pub returns-clause-sound : goal.returns-clause-sound
returns-clause-sound c = λ modules given base named linkable words valid.
    c.programs.ensures modules base given (linkable_fit c.standing.ensures.functions c.standing.ensures.code c.standing.ensures.imports c.standing.ensures.outside modules given base named linkable words) valid
