use Rattle.std.proofs.Common.{length}
use Rattle.bed_top.proofs.modules.+read_modules.Given as goal

abbrev pub decreases-read_modules : goal.decreases-read_modules
decreases-read_modules l = length l.texts.now
