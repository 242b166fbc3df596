use Rattle.std.proofs.Common.{◌≡◌, drop, map}
use Rattle.bed_link.specs.Faults.{each}
use Rattle.bed_link.specs.Linkable.{address_fault, address_faults}
use Rattle.bed_link.specs.Seen.{outside_of}
use Rattle.bed_link.proofs.outside.all_apart.Given as goal

abbrev pub invariant-loop-import : goal.invariant-loop-import
invariant-loop-import l =
    each (address_fault l.base l.length (map outside_of l.imports)) (map outside_of (drop l.import-index l.imports))
    ≡ address_faults l.base l.length (map outside_of l.imports)
