use Rattle.bed_regular.proofs.FunctionLaws.{scoped_are_regular, regular_keep_laws}
use Rattle.bed_regular.proofs.laws.functions.Goals as goal

pub returns-clause-regular : goal.returns-clause-regular
returns-clause-regular c = scoped_are_regular

pub returns-clause-laws : goal.returns-clause-laws
returns-clause-laws c = regular_keep_laws
