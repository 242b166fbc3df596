use Rattle.std.proofs.Common.{◌≡◌, ◌+◌, ◌≤◌, drop}
use Rattle.bed_top.specs.Places.{after_bytes}
use Rattle.bed_top.proofs.place.place.Given as goal

abbrev pub invariant-loop-byte : goal.invariant-loop-byte
invariant-loop-byte l =
    (after_bytes l.place (drop l.byte-index l.passed) ≡ after_bytes (1, 1) l.passed)
    × (1 ≤ l.place.1)
    × (l.place.0 + l.place.1 ≤ l.byte-index + 2)
