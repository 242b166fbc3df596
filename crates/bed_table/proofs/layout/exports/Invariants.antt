use Rattle.std.proofs.Common.{◌≡◌, drop, map}
use Rattle.bed_table.specs.Layout.{exports}
use Rattle.bed_table.specs.Seen.{defined_of}
use Rattle.bed_table.proofs.layout.exports.Given as goal

abbrev pub invariant-loop-item : goal.invariant-loop-item
invariant-loop-item l = exports (map defined_of (drop l.item-index l.functions)) l.name.bytes ≡ exports (map defined_of l.functions) l.name.bytes
