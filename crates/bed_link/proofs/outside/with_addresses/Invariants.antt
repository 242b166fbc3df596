use Rattle.std.proofs.Common.{◌≡◌, ◌++◌, drop, map}
use Rattle.bed_link.specs.Linkable.{with_given}
use Rattle.bed_link.specs.Seen.{outside_of}
use Rattle.bed_link.proofs.outside.with_addresses.Given as goal

abbrev pub invariant-loop-name : goal.invariant-loop-name
invariant-loop-name l = map outside_of l.out.items ++ map (λ n. with_given l.given n.now) (drop l.name-index l.imports)
    ≡ map (λ n. with_given l.given n.now) l.imports
