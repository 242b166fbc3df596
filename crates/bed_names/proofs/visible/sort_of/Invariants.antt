use Rattle.std.proofs.Common.{◌≡◌, drop}
use Rattle.bed_names.specs.Names.{sort_of}
use Rattle.bed_names.proofs.visible.sort_of.Given as goal

abbrev pub invariant-loop-b : goal.invariant-loop-b
invariant-loop-b l = sort_of (drop l.b-index l.names) l.x ≡ sort_of l.names l.x
