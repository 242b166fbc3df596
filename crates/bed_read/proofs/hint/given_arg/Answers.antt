use Rattle.std.proofs.Common.{refl}
use Rattle.bed_read.proofs.hint.given_arg.Goals as goal

pub returns : goal.returns
returns c = ((c.in_ok-rest.field-0-0.now, c.in_ok-arg.arg), rw (c.in_ok-rest.ensures.read, c.in_ok-arg.ensures) refl, refl)
