use Rattle.std.proofs.Common.{length}
use Rattle.bed_top.proofs.returns.+differ.Given as goal

abbrev pub decreases-differ : goal.decreases-differ
decreases-differ l = length l.names.now
