use Rattle.std.proofs.Common.{◌≡◌, drop, map}
use Rattle.bed_link.specs.Linkable.{unused}
use Rattle.bed_link.specs.Seen.{knows}
use Rattle.bed_link.proofs.unresolved.all_used.Given as goal

abbrev pub invariant-loop-word : goal.invariant-loop-word
invariant-loop-word l = unused (knows l.imported) (map (λ g. g.0) (drop l.word-index l.given))
    ≡ unused (knows l.imported) (map (λ g. g.0) l.given)
