use Rattle.std.proofs.Common.{length}
use Rattle.bed_top.proofs.texts.+read_texts.Given as goal

abbrev pub decreases-read_texts : goal.decreases-read_texts
decreases-read_texts g l = length l.names.now
