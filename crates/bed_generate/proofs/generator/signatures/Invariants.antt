use Rattle.std.proofs.Common.{◌≡◌, map}
use Rattle.std.specs.List.{range_with_len}
use Rattle.bed_generate.specs.Generated.{signature}
use Rattle.bed_generate.proofs.generator.signatures.Given as goal

abbrev pub invariant-loop-before : goal.invariant-loop-before
invariant-loop-before l = l.out ≡ map signature (range_with_len 1 l.before)
