-- Numbers of 32 bits, and the bytes that such a number is written as.
use Rattle.std.specs.Prelude.{ℕ, ◌/◌, ◌%◌, List, [], ◌∷◌}

-- a number modulo 2^32
abbrev pub wrap : ℕ → ℕ
wrap n = n % 4294967296

-- the four bytes of a word, the lowest first
abbrev pub word_bytes : ℕ → List ℕ
word_bytes n = (n % 256) ∷ (n / 256 % 256) ∷ (n / 65536 % 256) ∷ (n / 16777216 % 256) ∷ []
