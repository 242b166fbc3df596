-- The fields of an image in their order, and the first fault of bytes that are none. A field that isn't whole is a
-- fault at the end of the bytes, a whole field with a bad value is one at its offset, and bytes behind the code are
-- one at the first of them.
use Rattle.std.specs.Prelude.{◌≡◌, ℕ, ◌+◌, ◌^◌, ◌<◌, Bool, true, false, ◌&&◌, ◌||◌, List, [], ◌∷◌, ◌++◌, length, slice_index, codes, nat_lt, nat_le, nat_eq, Result, Ok, Err}
use Rattle.std.specs.List.{AllByRecursion, list_all}
use Rattle.std.specs.Int.{w32, from_le_bytes}
use Rattle.bed_lang.specs.Numbers.{word_bytes}
use Rattle.bed_image.specs.declared.error.ImageError.{ImageError}
use Rattle.bed_image.specs.declared.error.ImageError.TheVariants.{BadImage, Memory}
use Rattle.bed_image.specs.declared.image.Symbol.{Symbol}
use Rattle.bed_image.specs.declared.image.Image.{Image}
use Rattle.bed_image.specs.Format.{IsSymbol, IsImage, table_bytes, header_bytes, image_bytes}

-- `BIM1` as a word
abbrev pub magic_word : ℕ
magic_word = from_le_bytes w32 (codes "BIM1")

-- which values are good: of the magic, the length of the code, the number of symbols, and of a symbol the
-- kind, the address, the length of the name and the name
abbrev pub is_magic : ℕ → Bool
is_magic n = nat_eq n magic_word

abbrev pub is_code_size : ℕ → ℕ → Bool
is_code_size base size = nat_le size 1048576 && nat_le (base + size) 4294967296

abbrev pub is_count : ℕ → Bool
is_count n = nat_le n 65536

abbrev pub is_kind : ℕ → Bool
is_kind kind = nat_le kind 3

abbrev pub is_address : ℕ → ℕ → ℕ → ℕ → Bool
is_address base size kind a = nat_eq kind 3 || (nat_le base a && nat_lt a (base + size))

abbrev pub is_name_size : ℕ → Bool
is_name_size size = nat_lt 0 size

abbrev pub is_printing : List ℕ → Bool
is_printing name = list_all (λ b. nat_le 0x21 b && nat_le b 0x7E) name

-- behind these first bytes of a symbol, good so far, comes a field of so many bytes, good by this test
pub data IsNextInSymbol (base size : ℕ) : List ℕ → ℕ → (List ℕ → Bool) → Type 0 where
  Kind : IsNextInSymbol base size [] 1 (λ f. is_kind (slice_index f 0))
  Address : (k : ℕ) → is_kind k ≡ true
      → IsNextInSymbol base size (k ∷ []) 4 (λ f. is_address base size k (from_le_bytes w32 f))
  NameSize : (k a : ℕ) → is_kind k ≡ true → a < 2 ^ 32 → is_address base size k a ≡ true
      → IsNextInSymbol base size ((k ∷ []) ++ word_bytes a) 1 (λ f. is_name_size (slice_index f 0))
  Name : (k a n : ℕ) → is_kind k ≡ true → a < 2 ^ 32 → is_address base size k a ≡ true → is_name_size n ≡ true
      → IsNextInSymbol base size ((k ∷ []) ++ (word_bytes a ++ (n ∷ []))) n is_printing

-- the same in a table of `count` symbols, of which the first ones are whole
pub data IsNextInTable (base size count : ℕ) : List ℕ → ℕ → (List ℕ → Bool) → Type 0 where
  InSymbol : (ss : List Symbol) (front : List ℕ) (n : ℕ) (good : List ℕ → Bool) → length ss < count → AllByRecursion (IsSymbol base size) ss
      → IsNextInSymbol base size front n good → IsNextInTable base size count (table_bytes ss ++ front) n good

-- the same in an image
pub data IsNext : List ℕ → ℕ → (List ℕ → Bool) → Type 0 where
  Magic : IsNext [] 4 (λ f. is_magic (from_le_bytes w32 f))
  Base : IsNext (codes "BIM1") 4 (λ _. true)
  CodeSize : (base : ℕ) → base < 2 ^ 32 → IsNext (codes "BIM1" ++ word_bytes base) 4 (λ f. is_code_size base (from_le_bytes w32 f))
  Count : (base size : ℕ) → base < 2 ^ 32 → is_code_size base size ≡ true
      → IsNext (codes "BIM1" ++ (word_bytes base ++ word_bytes size)) 4 (λ f. is_count (from_le_bytes w32 f))
  InTable : (base size count : ℕ) (front : List ℕ) (n : ℕ) (good : List ℕ → Bool)
      → base < 2 ^ 32 → is_code_size base size ≡ true → is_count count ≡ true → IsNextInTable base size count front n good
      → IsNext (codes "BIM1" ++ (word_bytes base ++ (word_bytes size ++ (word_bytes count ++ front)))) n good
  Code : (base size : ℕ) (ss : List Symbol) → base < 2 ^ 32 → is_code_size base size ≡ true → is_count (length ss) ≡ true
      → AllByRecursion (IsSymbol base size) ss → IsNext (header_bytes base size ss) size (λ _. true)

-- the first fault stands at this offset
pub data IsFault (bytes : List ℕ) : ℕ → Type 0 where
  Ends : (front rest : List ℕ) (n : ℕ) (good : List ℕ → Bool) → IsNext front n good → length rest < n → bytes ≡ front ++ rest
      → IsFault bytes (length bytes)
  Bad : (front value rest : List ℕ) (good : List ℕ → Bool) → IsNext front (length value) good → good value ≡ false
      → bytes ≡ front ++ (value ++ rest) → IsFault bytes (length front)
  After : (i : Image) (rest : List ℕ) → IsImage i → 0 < length rest → bytes ≡ image_bytes i ++ rest
      → IsFault bytes (length (image_bytes i))

-- the answer is this image, or want of memory
abbrev pub Answers : Image → Result Image ImageError → Type 0
Answers i (Ok j) = j ≡ i
Answers i (Err (BadImage at)) = ⊥
Answers i (Err Memory) = Unit {0}

-- the answer is the refusal with this offset, or want of memory
abbrev pub Refuses : ℕ → Result Image ImageError → Type 0
Refuses at (Ok i) = ⊥
Refuses at (Err (BadImage b)) = b ≡ at
Refuses at (Err Memory) = Unit {0}
