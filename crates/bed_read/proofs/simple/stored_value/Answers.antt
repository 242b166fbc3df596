use Rattle.std.proofs.Common.{refl}
use Rattle.bed_read.proofs.simple.stored_value.Goals as goal

pub returns : goal.returns
returns c = ((c.in_ok-rest.field-0-0.now, (c.in_ok-rest-2.field-0-0.now, (c.in_ok-value.value, c.in_ok-rest-3.field-0-0.now))), rw (c.in_ok-rest.ensures.read, c.in_ok-rest-2.ensures.read, c.in_ok-value.ensures, c.in_ok-rest-3.ensures.read) refl, refl)
