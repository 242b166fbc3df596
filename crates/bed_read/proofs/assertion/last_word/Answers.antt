use Rattle.std.proofs.Common.{refl}
use Rattle.bed_read.proofs.assertion.last_word.Goals as goal

pub returns : goal.returns
returns c = ((c.in_ok-rest.field-0-0.now, (c.in_ok-word.word, c.in_ok-rest-2.field-0-0.now)), rw (c.in_ok-rest.ensures.read, c.in_ok-word.ensures, c.in_ok-rest-2.ensures.read) refl, refl)
