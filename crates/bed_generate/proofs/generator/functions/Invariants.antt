use Rattle.std.proofs.Common.{◌≡◌, map, nat_eq}
use Rattle.std.specs.List.{range_with_len}
use Rattle.bed_generate.specs.Generated.{function}
use Rattle.bed_generate.proofs.generator.functions.Given as goal

abbrev pub invariant-loop-before : goal.invariant-loop-before
invariant-loop-before l = l.out ≡ map (λ i. function (nat_eq i l.count) i) (range_with_len 1 l.before)
