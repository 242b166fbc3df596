-- Code, apart from data memory.
use Rattle.std.specs.Prelude.{ℕ, ◌+◌, ◌-◌, ◌≤◌, ◌<◌, List, length, drop}

-- bytes of code, the first at the address `base`
pub record MachineCode : Type 0 where
  pub base : ℕ
  pub bytes : List ℕ

-- the address of one of the code's bytes
abbrev pub IsInCode : MachineCode → ℕ → Type 0
IsInCode c a = (c.base ≤ a) × (a < c.base + length c.bytes)

-- the code's bytes from an address on
abbrev pub bytes_from : MachineCode → ℕ → List ℕ
bytes_from c a = drop (a - c.base) c.bytes
