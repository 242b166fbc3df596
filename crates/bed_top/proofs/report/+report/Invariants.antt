use Rattle.std.proofs.Common.{length}
use Rattle.bed_top.proofs.report.+report.Given as goal

abbrev pub decreases-report : goal.decreases-report
decreases-report g l = length l.lines.now
