use Rattle.std.proofs.Common.{refl}
use Rattle.bed_read.proofs.source.hints_and_after.Goals as goal

pub returns : goal.returns
returns c = ((c.in_ok-hints.hints, (c.in_ok-rest.field-0-0.now, c.in_ok-after.after)), rw (c.in_ok-hints.ensures, c.in_ok-rest.ensures.read, c.in_ok-after.ensures.exact) refl, refl)
