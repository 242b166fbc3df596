use Rattle.std.proofs.Common.{◌≡◌, ℕ, ◌+◌, ◌<◌, take, length, get_or}
use Rattle.bed_lang.specs.Numbers.{wrap}
use Rattle.bed_il.specs.Places.{blocks_size}
use Rattle.bed_layout.proofs.labels.set_places.Given as goal

abbrev pub invariant-loop-number : goal.invariant-loop-number
invariant-loop-number l = record {
  next_is : l.next ≡ wrap (l.fn.at + blocks_size (take l.number l.blocks));
  set : (k : ℕ) → k < l.number → k < length l.places → get_or l.places k 0 ≡ wrap (l.fn.at + blocks_size (take k l.blocks));
}
