use Rattle.std.proofs.Common.{◌≡◌, ◌≤◌, ◌-◌, map, length, take, drop, string_bytes, []}
use Rattle.bed_words.specs.Reading.{read_options, later}
use Rattle.bed_words.proofs.options.count_options.Given as goal

abbrev pub invariant-loop-before : goal.invariant-loop-before
invariant-loop-before l = record {
  within : l.place ≤ length l.words;
  so_far : read_options l.verb [] (map string_bytes l.words)
      ≡ later l.place (read_options l.verb (map string_bytes (take l.place l.words)) (map string_bytes (drop l.place l.words)));
}

abbrev pub decreases-loop-before : goal.decreases-loop-before
decreases-loop-before l = length l.words - l.place
