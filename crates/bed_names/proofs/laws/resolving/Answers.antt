use Rattle.bed_names.proofs.BareLemmas.{no_bare_argument_is_left}
use Rattle.bed_names.proofs.SkeletonLaws.{resolving_keeps_skeletons}
use Rattle.bed_names.proofs.laws.resolving.Goals as goal

pub returns-clause-no_bare_argument : goal.returns-clause-no_bare_argument
returns-clause-no_bare_argument c = no_bare_argument_is_left

pub returns-clause-same_skeleton : goal.returns-clause-same_skeleton
returns-clause-same_skeleton c = resolving_keeps_skeletons
