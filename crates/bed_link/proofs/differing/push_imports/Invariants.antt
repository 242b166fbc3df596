use Rattle.std.proofs.Common.{◌≡◌, ◌++◌, drop, map}
use Rattle.bed_link.specs.Parts.{import_claim}
use Rattle.bed_link.specs.Seen.{claim_of, pair_of}
use Rattle.bed_link.proofs.differing.push_imports.Given as goal

abbrev pub invariant-loop-part : goal.invariant-loop-part
invariant-loop-part l = map claim_of l.out.items ++ map import_claim (map pair_of (drop l.part-index l.imports))
    ≡ map claim_of l.initial.out.items ++ map import_claim (map pair_of l.imports)
