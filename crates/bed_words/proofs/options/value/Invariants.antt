use Rattle.std.proofs.Common.{◌≡◌, map, length, string_bytes}
use Rattle.bed_words.specs.Commands.{value_of}
use Rattle.bed_words.proofs.options.value.Given as goal

abbrev pub invariant-loop-rest : goal.invariant-loop-rest
invariant-loop-rest l = value_of l.name (map string_bytes l.options) ≡ value_of l.name (map string_bytes l.rest)

abbrev pub decreases-loop-rest : goal.decreases-loop-rest
decreases-loop-rest l = length l.rest
