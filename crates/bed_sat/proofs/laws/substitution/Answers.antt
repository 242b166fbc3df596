use Rattle.std.proofs.Common.{refl}
use Rattle.bed_lang.specs.Substitution.{replaced}
use Rattle.bed_lang.proofs.ValueLaws.{value-replaced}
use Rattle.bed_sat.specs.Assertions.{meaning}
use Rattle.bed_sat.proofs.InstanceLaws.{terms_true_with}
use Rattle.bed_sat.proofs.laws.substitution.Goals as goal

pub returns-clause-word : goal.returns-clause-word
returns-clause-word c = λ v by w. value-replaced v by w (replaced v by w) refl

pub returns-clause-terms : goal.returns-clause-terms
returns-clause-terms c = λ w σ ν depth ts h. terms_true_with w.codes w.labels σ ν (meaning w depth) ts h
