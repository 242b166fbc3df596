use Rattle.std.proofs.Common.{◌≡◌, ◌-◌, ◌+◌, ◌*◌, ◌≤◌}
use Rattle.bed_image.specs.Reading.{rest_of, symbols_at}
use Rattle.bed_image.proofs.LoopLemmas.{with_front}
use Rattle.bed_image.proofs.reading.symbols.Given as goal

abbrev pub invariant-loop : goal.invariant-loop
invariant-loop l = record {
  read : with_front l.symbols (symbols_at l.base l.size (l.count - l.counter) (rest_of l.rest)) ≡ symbols_at l.base l.size l.count (rest_of l.from);
  near : l.rest.at ≤ l.from.at + 261 * l.counter;
}
