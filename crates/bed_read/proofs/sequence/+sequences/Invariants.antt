use Rattle.std.proofs.Common.{◌+◌, ◌*◌}
use Rattle.bed_read.proofs.sequence.+sequences.Given as goal

abbrev pub decreases-boxed_seq : goal.decreases-boxed_seq
decreases-boxed_seq l = l.depth * 5 + 4

abbrev pub decreases-last_seq : goal.decreases-last_seq
decreases-last_seq l = l.depth * 5 + 5

abbrev pub decreases-seq : goal.decreases-seq
decreases-seq l = l.depth * 5 + 3

abbrev pub decreases-plain_seq : goal.decreases-plain_seq
decreases-plain_seq l = l.depth * 5 + 2

abbrev pub decreases-cons : goal.decreases-cons
decreases-cons l = l.depth * 5 + 1

abbrev pub decreases-app : goal.decreases-app
decreases-app l = l.depth * 5 + 1
