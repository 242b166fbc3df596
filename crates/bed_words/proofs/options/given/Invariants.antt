use Rattle.std.proofs.Common.{◌≡◌, map, length, string_bytes}
use Rattle.bed_words.specs.Options.{is_given}
use Rattle.bed_words.proofs.options.given.Given as goal

abbrev pub invariant-loop-rest : goal.invariant-loop-rest
invariant-loop-rest l = is_given l.name (map string_bytes l.options) ≡ is_given l.name (map string_bytes l.rest)

abbrev pub decreases-loop-rest : goal.decreases-loop-rest
decreases-loop-rest l = length l.rest
