use Rattle.bed_search.proofs.SteadyLaws.{steady}
use Rattle.bed_search.proofs.laws.counts.Goals as goal

pub returns : goal.returns
returns c = steady
