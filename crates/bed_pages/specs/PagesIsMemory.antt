-- A `Pages` is a memory.
use Rattle.std.proofs.Common.{◌≡◌, ℕ, ◌/◌, ◌%◌, ◌<◌, Bool, true, false, Option, Some, None, nat_lt, if◌then◌else◌, refl, arith}
use Rattle.std.proofs.lemmas.Bool.Decides.{nat_tests}
use Rattle.bed_machine.specs.Memory.{IsMemory}
use Rattle.bed_machine.specs.Plain.{cell}
use Rattle.bed_pages.specs.Pages.{in_page, page_at, pages_bytes}
use Rattle.bed_pages.specs.declared.pages.Pages.{Pages}

if_in_range : (a v w : ℕ) (t : Bool) → nat_lt a 4294967296 ≡ t → (if t then Some (w % 256) else None) ≡ Some v → (a < 4294967296) × (v < 256)
if_in_range a v w true is e =
    let same : w % 256 ≡ v = cc in
    (grind (arith, nat_tests), omega arith)
if_in_range a v w false is e = absurd cc

cell_in_range : (a v : ℕ) (o : Option ℕ) → cell a o ≡ Some v → (a < 4294967296) × (v < 256)
cell_in_range a v None e = absurd cc
cell_in_range a v (Some w) e = if_in_range a v w _ refl e

pub pages_is_memory : (p : Pages) → IsMemory (pages_bytes p)
pages_is_memory p a v e = cell_in_range a v (in_page (page_at p (a / 4096)) (a % 4096)) e
