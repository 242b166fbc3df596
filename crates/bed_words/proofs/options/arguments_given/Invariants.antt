use Rattle.std.proofs.Common.{◌≡◌, ◌++◌, map, length, string_bytes}
use Rattle.bed_words.specs.Commands.{arguments_of}
use Rattle.bed_words.proofs.options.arguments_given.Given as goal

abbrev pub invariant-loop-rest : goal.invariant-loop-rest
invariant-loop-rest l =
    l.arguments ++ arguments_of (map string_bytes l.rest) ≡ arguments_of (map string_bytes l.options)

abbrev pub decreases-loop-rest : goal.decreases-loop-rest
decreases-loop-rest l = length l.rest
