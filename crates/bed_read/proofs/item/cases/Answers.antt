use Rattle.std.proofs.Common.{refl}
use Rattle.bed_read.proofs.item.cases.Goals as goal

pub returns : goal.returns
returns c = ((c.in_ok-rest.field-0-0.now, (c.in_ok-first.first, (c.in_ok-cases.ensures.0, c.in_ok-rest-2.field-0-0.now))), rw (c.in_ok-rest.ensures.read, c.in_ok-first.ensures.exact, c.in_ok-cases.ensures.1, c.in_ok-rest-2.ensures.read) refl, c.in_ok-cases.ensures.2)
