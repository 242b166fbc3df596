use Rattle.std.proofs.Common.{◌≡◌, drop, map}
use Rattle.bed_table.specs.Layout.{address_of}
use Rattle.bed_table.specs.Seen.{label_of}
use Rattle.bed_table.proofs.scope.address_of.Given as goal

abbrev pub invariant-loop-known : goal.invariant-loop-known
invariant-loop-known l = address_of (map label_of (drop l.known-index l.labels)) l.name.bytes ≡ address_of (map label_of l.labels) l.name.bytes
