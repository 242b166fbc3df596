use Rattle.std.proofs.Common.{◌≡◌, ℕ, None, length, slice_index_or}
use Rattle.bed_pages.specs.Zeros.{zeroed_between}
use Rattle.bed_pages.proofs.page.Page.zero.Given as goal

abbrev pub invariant-loop-i : goal.invariant-loop-i
invariant-loop-i l = record {
  whole : length l.self.cells.items ≡ 4096;
  cells : (k : ℕ) → slice_index_or l.self.cells.items k None ≡ zeroed_between l.from l.i k (slice_index_or l.initial.self.cells.items k None);
}
