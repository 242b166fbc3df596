use Rattle.std.proofs.Common.{refl}
use Rattle.bed_read.proofs.hint.case_number.Goals as goal

pub returns : goal.returns
returns c = ((c.in_ok-rest.field-0-0.now, (c.in_ok-rest-2.field-0-0.now, (c.in_ok-case.field-0-0-0, c.in_ok-case.case))), rw (c.in_ok-rest.ensures.read, c.in_ok-rest-2.ensures.read, c.in_ok-case.ensures.exact) refl, refl)
