use Rattle.std.proofs.Common.{◌≡◌, drop}
use Rattle.bed_names.specs.Names.{is_among}
use Rattle.bed_names.specs.Terms.{bind_names}
use Rattle.bed_names.proofs.twice.is_bound.Given as goal

abbrev pub invariant-loop-b : goal.invariant-loop-b
invariant-loop-b l = is_among (bind_names (drop l.b-index l.binders)) l.x ≡ is_among (bind_names l.binders) l.x
