-- Data memory: bytes at 32-bit addresses, and the words that four bytes in a row make.
use Rattle.std.specs.Prelude.{◌≡◌, ℕ, ◌+◌, ◌*◌, ◌/◌, ◌%◌, ◌<◌, Option, Some, None, nat_eq, nat_le, if◌then◌else◌}

-- the byte at each address that is mapped
abbrev pub Memory : Type 0
Memory = ℕ → Option ℕ

-- nothing is mapped
abbrev pub empty : Memory
empty a = None

-- addresses are 32-bit words, and contents are bytes
abbrev pub IsMemory : Memory → Type 0
IsMemory m = (a v : ℕ) → m a ≡ Some v → (a < 4294967296) × (v < 256)

-- four bytes as a word, the lowest first
abbrev pub word_of : Option ℕ → Option ℕ → Option ℕ → Option ℕ → Option ℕ
word_of (Some a) (Some b) (Some c) (Some d) = Some (a + 256 * b + 65536 * c + 16777216 * d)
word_of a b c d = None

-- the word at an address: all of its bytes are mapped, and the last has an address
abbrev pub word_at : Memory → ℕ → Option ℕ
word_at m a = if nat_le a 4294967292 then word_of (m a) (m (a + 1)) (m (a + 2)) (m (a + 3)) else None

-- the memory with the low byte of v at an address
abbrev pub put_byte : Memory → ℕ → ℕ → Memory
put_byte m a v x = if nat_eq x a then Some (v % 256) else m x

-- the memory with the four bytes of v at an address and after it, the lowest first
abbrev pub put_word : Memory → ℕ → ℕ → Memory
put_word m a v = put_byte (put_byte (put_byte (put_byte m a v) (a + 1) (v / 256)) (a + 2) (v / 65536)) (a + 3) (v / 16777216)
