use Rattle.std.proofs.Common.{refl}
use Rattle.bed_read.proofs.item.imports_and_functions.Goals as goal

pub returns : goal.returns
returns c = ((c.in_ok-imports.imports, c.in_ok-functions.functions), rw (c.in_ok-imports.ensures, c.in_ok-functions.ensures) refl, refl)
