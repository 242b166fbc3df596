use Rattle.std.proofs.Common.{◌≡◌, drop, map}
use Rattle.bed_link.specs.Linkable.{given_twice}
use Rattle.bed_link.specs.Seen.{knows}
use Rattle.bed_link.proofs.twice.apart.Given as goal

abbrev pub invariant-loop-item : goal.invariant-loop-item
invariant-loop-item g l = given_twice (knows l.given) (map g.T.Named.name_of (drop l.item-index l.items))
    ≡ given_twice (knows l.given) (map g.T.Named.name_of l.items)
