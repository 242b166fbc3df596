use Rattle.std.proofs.Common.{◌≡◌, ◌++◌, drop, map}
use Rattle.bed_link.specs.Parts.{numbered}
use Rattle.bed_link.specs.Seen.{pair_of}
use Rattle.bed_link.proofs.parts.push_parts.Given as goal

abbrev pub invariant-loop-item : goal.invariant-loop-item
invariant-loop-item g l = map pair_of l.out.items ++ map (numbered l.number) (drop l.item-index l.items)
    ≡ map pair_of l.initial.out.items ++ map (numbered l.number) l.items
