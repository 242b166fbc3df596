use Rattle.std.proofs.Common.{◌+◌, ◌-◌, ◌≤◌, ◌++◌, List, ℕ, length}
use Rattle.bed_disasm.specs.Listing.{IsListed}
use Rattle.bed_disasm.proofs.lines.listed.Given as goal

abbrev pub invariant-loop-at : goal.invariant-loop-at
invariant-loop-at l = record {
  after : l.i.code.base ≤ l.at;
  within : l.at ≤ l.i.code.base + length l.i.code.bytes;
  text : (rest : List ℕ) → IsListed l.i.code l.i.symbols l.at rest → IsListed l.i.code l.i.symbols l.i.code.base (l.text.items ++ rest);
}

abbrev pub decreases-loop-at : goal.decreases-loop-at
decreases-loop-at l = l.i.code.base + length l.i.code.bytes - l.at
