use Rattle.std.proofs.Common.{refl}
use Rattle.bed_read.proofs.item.locals_and_body.Goals as goal

pub returns : goal.returns
returns c = ((c.in_ok-locals.locals, c.in_ok-body.body), rw (c.in_ok-locals.ensures, c.in_ok-body.ensures) refl, refl)
