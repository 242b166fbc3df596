use Rattle.std.proofs.Common.{refl}
use Rattle.bed_read.proofs.hint.fact_after.Goals as goal

pub returns : goal.returns
returns c = ((c.in_ok-rest.field-0-0.now, c.in_ok-fact.fact), rw (c.in_ok-rest.ensures.read, c.in_ok-fact.ensures) refl, refl)
