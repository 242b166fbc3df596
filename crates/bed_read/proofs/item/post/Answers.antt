use Rattle.std.proofs.Common.{refl}
use Rattle.bed_read.proofs.item.post.Goals as goal

pub returns : goal.returns
returns c = ((c.in_ok-rest.field-0-0.now, (c.in_ok-post.post, c.in_ok-rest-2.field-0-0.now)), rw (c.in_ok-rest.ensures.read, c.in_ok-post.ensures.exact, c.in_ok-rest-2.ensures.read) refl, refl)
