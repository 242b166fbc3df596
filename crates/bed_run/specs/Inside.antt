-- The test of an address against the code.
use Rattle.std.specs.Prelude.{ℕ, ◌+◌, Bool, ◌&&◌, length, nat_le, nat_lt}
use Rattle.bed_machine.specs.MachineCode.{MachineCode}

-- the address is that of one of the code's bytes
abbrev pub is_inside : MachineCode → ℕ → Bool
is_inside c a = nat_le c.base a && nat_lt a (c.base + length c.bytes)
