use Rattle.std.proofs.Common.{refl}
use Rattle.bed_read.proofs.simple.rest_and_keep.Goals as goal

pub returns : goal.returns
returns c = ((c.in_ok-name.name, (c.in_ok-rest.field-0-0.now, c.in_ok-keep.keep)), rw (c.in_ok-name.ensures.exact, c.in_ok-rest.ensures.read, c.in_ok-keep.ensures.exact) refl, refl)
