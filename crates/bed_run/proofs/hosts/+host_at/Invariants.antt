use Rattle.std.proofs.Common.{length}
use Rattle.bed_run.proofs.hosts.+host_at.Given as goal

abbrev pub decreases-host_at : goal.decreases-host_at
decreases-host_at l = length l.outside.now
