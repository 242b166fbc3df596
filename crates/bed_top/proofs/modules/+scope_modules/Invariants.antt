use Rattle.std.proofs.Common.{length}
use Rattle.std.specs.Vec.Iter.{into_iter_items}
use Rattle.bed_top.proofs.modules.+scope_modules.Given as goal

abbrev pub decreases-scope_modules : goal.decreases-scope_modules
decreases-scope_modules l = length (into_iter_items l.modules.now)
