use Rattle.std.proofs.Common.{◌≡◌, ◌++◌, drop, map, filter}
use Rattle.bed_link.specs.Parts.{function_claim, is_exported}
use Rattle.bed_link.specs.Seen.{claim_of, pair_of}
use Rattle.bed_link.proofs.differing.push_functions.Given as goal

abbrev pub invariant-loop-part : goal.invariant-loop-part
invariant-loop-part l = map claim_of l.out.items ++ map function_claim (filter is_exported (map pair_of (drop l.part-index l.functions)))
    ≡ map claim_of l.initial.out.items ++ map function_claim (filter is_exported (map pair_of l.functions))
