-- Memory with zeros mapped.
use Rattle.std.specs.Prelude.{◌≡◌, ℕ, ◌+◌, ◌≤◌, Bool, true, false, ◌&&◌, Option, Some, None, nat_le, nat_lt}
use Rattle.bed_machine.specs.Memory.{Memory}

-- a zero where nothing is mapped, if this address is meant; a byte that is mapped stays
abbrev pub zeroed : Bool → Option ℕ → Option ℕ
zeroed meant (Some v) = Some v
zeroed true None = Some 0
zeroed false None = None

-- the same for the numbers from one up to another
abbrev pub zeroed_between : ℕ → ℕ → ℕ → Option ℕ → Option ℕ
zeroed_between from to i byte = zeroed (nat_le from i && nat_lt i to) byte

-- the memory with so many zeros mapped from an address on, where nothing was mapped
abbrev pub with_zeros : Memory → ℕ → ℕ → Memory
with_zeros m at count a = zeroed_between at (at + count) a (m a)

-- zeros are mapped for the first of these addresses alone
pub record IsPrefixMapped (old : Memory) (at count : ℕ) (new : Memory) : Type 0 where
  pub mapped : ℕ
  pub within : mapped ≤ count
  pub is : new ≡ with_zeros old at mapped
