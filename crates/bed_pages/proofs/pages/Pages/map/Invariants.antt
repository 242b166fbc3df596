use Rattle.std.proofs.Common.{◌≡◌, ◌-◌, ◌≤◌}
use Rattle.bed_pages.specs.Pages.{pages_bytes}
use Rattle.bed_pages.specs.Zeros.{with_zeros}
use Rattle.bed_pages.proofs.pages.Pages.map.Given as goal

abbrev pub invariant-loop-done : goal.invariant-loop-done
invariant-loop-done l = record {
  within : l.done ≤ l.bytes;
  mapped : pages_bytes l.self ≡ with_zeros (pages_bytes l.initial.self) l.at l.done;
}

abbrev pub decreases-loop-done : goal.decreases-loop-done
decreases-loop-done l = l.bytes - l.done
