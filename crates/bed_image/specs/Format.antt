-- The bytes of an image file, and which values are images: what a file can hold, so that it is read again.
use Rattle.std.specs.Prelude.{◌≡◌, ℕ, ◌+◌, ◌%◌, ◌^◌, ◌<◌, ◌≤◌, List, [], ◌∷◌, ◌++◌, length, codes}
use Rattle.std.specs.List.{flat_map, AllByRecursion}
use Rattle.bed_lang.specs.Numbers.{word_bytes}
use Rattle.bed_image.specs.declared.image.Symbol.{Symbol}
use Rattle.bed_image.specs.declared.image.Image.{Image}

-- kind, address, length of the name in one byte, name
abbrev pub symbol_bytes : Symbol → List ℕ
symbol_bytes s = (s.kind ∷ []) ++ (word_bytes s.address ++ ((length s.name % 256 ∷ []) ++ s.name))

abbrev pub table_bytes : List Symbol → List ℕ
table_bytes symbols = flat_map symbol_bytes symbols

-- `BIM1`, the base, the length of the code, the number of symbols, the symbols
abbrev pub header_bytes : ℕ → ℕ → List Symbol → List ℕ
header_bytes base size symbols =
    codes "BIM1" ++ (word_bytes base ++ (word_bytes size ++ (word_bytes (length symbols) ++ table_bytes symbols)))

-- the code follows, to the end
abbrev pub image_bytes : Image → List ℕ
image_bytes i = header_bytes i.code.base (length i.code.bytes) i.symbols ++ i.code.bytes

-- the code is of `size` bytes from `base` on; only an import may stand outside of it
pub record IsSymbol (base size : ℕ) (s : Symbol) : Type 0 where
  pub kind : s.kind ≤ 3
  pub address : s.address < 2 ^ 32
  pub inside : s.kind < 3 → (base ≤ s.address) × (s.address < base + size)
  pub named : 0 < length s.name
  pub short : length s.name < 256
  pub printing : AllByRecursion (λ b. (0x21 ≤ b) × (b ≤ 0x7E)) s.name

-- a value that an image file holds
pub record IsImage (i : Image) : Type 0 where
  pub base : i.code.base < 2 ^ 32
  pub size : length i.code.bytes ≤ 1048576
  pub ends : i.code.base + length i.code.bytes ≤ 2 ^ 32
  pub count : length i.symbols ≤ 65536
  pub symbols : AllByRecursion (IsSymbol i.code.base (length i.code.bytes)) i.symbols

-- the bytes are those of the image
abbrev pub IsFileOf : Image → List ℕ → Type 0
IsFileOf i bytes = IsImage i × (bytes ≡ image_bytes i)
