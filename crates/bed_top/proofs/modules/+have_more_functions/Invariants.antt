use Rattle.std.proofs.Common.{length}
use Rattle.bed_top.proofs.modules.+have_more_functions.Given as goal

abbrev pub decreases-have_more_functions : goal.decreases-have_more_functions
decreases-have_more_functions l = length l.modules.now
