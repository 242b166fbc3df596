use Rattle.std.proofs.Common.{◌≡◌, drop}
use Rattle.bed_names.specs.Names.{is_among}
use Rattle.bed_names.proofs.visible.is_among.Given as goal

abbrev pub invariant-loop-y : goal.invariant-loop-y
invariant-loop-y l = is_among (drop l.y-index l.names) l.x ≡ is_among l.names l.x
