-- A `Plain` is a memory.
use Rattle.std.proofs.Common.{◌≡◌, ℕ, ◌%◌, ◌<◌, Bool, true, false, Option, Some, None, nat_lt, if◌then◌else◌, refl, arith}
use Rattle.std.proofs.lemmas.Bool.Decides.{nat_tests}
use Rattle.std.specs.Ordering.{nat_cmp}
use Rattle.std.specs.BTreeMap as tree
use Rattle.bed_machine.specs.Memory.{IsMemory}
use Rattle.bed_machine.specs.Plain.{cell, plain_bytes}
use Rattle.bed_machine.specs.declared.memory.Plain.{Plain}

if_in_range : (a v w : ℕ) (t : Bool) → nat_lt a 4294967296 ≡ t → (if t then Some (w % 256) else None) ≡ Some v → (a < 4294967296) × (v < 256)
if_in_range a v w true is e =
    let same : w % 256 ≡ v = cc in
    (grind (arith, nat_tests), omega arith)
if_in_range a v w false is e = absurd cc

cell_in_range : (a v : ℕ) (o : Option ℕ) → cell a o ≡ Some v → (a < 4294967296) × (v < 256)
cell_in_range a v None e = absurd cc
cell_in_range a v (Some w) e = if_in_range a v w _ refl e

pub plain_is_memory : (p : Plain) → IsMemory (plain_bytes p)
plain_is_memory p a v e = cell_in_range a v (tree.get nat_cmp p.cells a) e
