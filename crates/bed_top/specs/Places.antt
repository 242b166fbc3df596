-- Lines and columns. Both count from 1, columns in bytes; a line feed ends a line.
use Rattle.std.specs.Prelude.{ℕ, ◌+◌, List, [], ◌∷◌, take, nat_eq, if◌then◌else◌}

-- the place after one more byte
abbrev pub after_byte : (ℕ × ℕ) → ℕ → ℕ × ℕ
after_byte place byte = if nat_eq byte 10 then (place.0 + 1, 1) else (place.0, place.1 + 1)

-- the place after more bytes
abbrev pub after_bytes : (ℕ × ℕ) → List ℕ → ℕ × ℕ
after_bytes place [] = place
after_bytes place (byte ∷ bytes) = after_bytes (after_byte place byte) bytes

-- the line and the column of an offset in a text
abbrev pub place_of : List ℕ → ℕ → ℕ × ℕ
place_of text at = after_bytes (1, 1) (take at text)
