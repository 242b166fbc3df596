use Rattle.std.proofs.Common.{refl}
use Rattle.bed_read.proofs.sequence.+sequences.Goals as goal

pub last_seq-returns : goal.last_seq-returns
last_seq-returns t c = ((c.in_ok-rest.field-0-0.now, (c.in_ok-seq.seq, c.in_ok-rest-2.field-0-0.now)), rw (c.in_ok-rest.ensures.read, c.in_ok-seq.ensures, c.in_ok-rest-2.ensures.read) refl, refl)
