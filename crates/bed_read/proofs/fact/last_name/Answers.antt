use Rattle.std.proofs.Common.{refl}
use Rattle.bed_read.proofs.fact.last_name.Goals as goal

pub returns : goal.returns
returns c = ((c.in_ok-rest.field-0-0.now, (c.in_ok-name.name, c.in_ok-rest-2.field-0-0.now)), rw (c.in_ok-rest.ensures.read, c.in_ok-name.ensures.exact, c.in_ok-rest-2.ensures.read) refl, refl)
