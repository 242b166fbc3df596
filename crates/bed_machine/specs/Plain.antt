-- The memory that a `Plain` is.
use Rattle.std.specs.Prelude.{ℕ, ◌%◌, Option, Some, None, nat_lt, if◌then◌else◌}
use Rattle.std.specs.Ordering.{nat_cmp}
use Rattle.std.specs.BTreeMap as tree
use Rattle.bed_machine.specs.Memory.{Memory}
use Rattle.bed_machine.specs.declared.memory.Plain.{Plain}

-- what a key and its value say, as a 32-bit address and a byte, which all of them are
abbrev pub cell : ℕ → Option ℕ → Option ℕ
cell a None = None
cell a (Some v) = if nat_lt a 4294967296 then Some (v % 256) else None

-- the byte at each address that is a key
abbrev pub plain_bytes : Plain → Memory
plain_bytes p a = cell a (tree.get nat_cmp p.cells a)
