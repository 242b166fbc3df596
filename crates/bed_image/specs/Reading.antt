-- What the reader's private functions compute of the bytes, one field after another. That this finds exactly the
-- image, or the fault of `Faults`, is what the contract of `read_image` says.
use Rattle.std.specs.Prelude.{◌≡◌, ℕ, zero, suc, ◌+◌, ◌==◌, Bool, true, List, [], ◌∷◌, length, take, drop, slice_index, Result, Ok, Err, nat_lt, if◌then◌else◌}
use Rattle.std.specs.Int.{w32, from_le_bytes}
use Rattle.bed_image.specs.declared.error.ImageError.{ImageError}
use Rattle.bed_image.specs.declared.error.ImageError.TheVariants.{BadImage, Memory}
use Rattle.bed_image.specs.declared.image.Symbol.{Symbol}
use Rattle.bed_image.specs.declared.image.Image.{Image}
use Rattle.bed_machine.specs.MachineCode.{MachineCode}
use Rattle.bed_image.specs.Faults.{is_magic, is_code_size, is_count, is_kind, is_address, is_name_size, is_printing}
use Rattle.bed_image.specs.declared.reading.Unread.{Unread}
use Rattle.bed_image.specs.declared.reading.Header.{Header}

-- the bytes that aren't read yet, and the offset of the first of them
pub record Rest : Type 0 where
  pub at : ℕ
  pub bytes : List ℕ

abbrev pub rest_of : Unread → Rest
rest_of u = record { at = u.at; bytes = u.bytes.now }

-- a value, or the offset of the first fault
infixl 10 ◌>>=◌
abbrev pub ◌>>=◌ : {A B : Type 0} → Result A ℕ → (A → Result B ℕ) → Result B ℕ
(Ok x) >>= f = f x
(Err at) >>= f = Err at

-- what a function answered, seen by `view`, is what reading gives, unless memory ran out
abbrev pub Fails : {Y : Type 0} → ImageError → Result Y ℕ → Type 0
Fails (BadImage at) read = read ≡ Err at
Fails Memory read = Unit {0}

abbrev pub Gives : {X Y : Type 0} → (X → Y) → Result X ImageError → Result Y ℕ → Type 0
Gives view (Ok x) read = read ≡ Ok (view x)
Gives view (Err e) read = Fails e read

-- a field of this many bytes, and what follows it
unfoldable pub field_at : ℕ → Rest → Result (List ℕ × Rest) ℕ
field_at size r =
    if nat_lt (length r.bytes) size then Err (r.at + length r.bytes)
    else Ok (take size r.bytes, record { at = r.at + size; bytes = drop size r.bytes })

-- a value that passed its test, or the fault at its offset
abbrev pub checked : {A : Type 0} → Bool → ℕ → A → Result A ℕ
checked good at x = if good then Ok x else Err at

unfoldable pub byte_at : (ℕ → Bool) → Rest → Result (ℕ × Rest) ℕ
byte_at good r = do
  f ← field_at 1 r
  checked (good (slice_index f.0 0)) r.at (slice_index f.0 0, f.1)

unfoldable pub word_at : (ℕ → Bool) → Rest → Result (ℕ × Rest) ℕ
word_at good r = do
  f ← field_at 4 r
  checked (good (from_le_bytes w32 f.0)) r.at (from_le_bytes w32 f.0, f.1)

unfoldable pub text_at : ℕ → (List ℕ → Bool) → Rest → Result (List ℕ × Rest) ℕ
text_at size good r = do
  f ← field_at size r
  checked (good f.0) r.at f

-- a symbol of code of `size` bytes from `base` on
unfoldable pub symbol_at : ℕ → ℕ → Rest → Result (Symbol × Rest) ℕ
symbol_at base size r = do
  kind ← byte_at is_kind r
  address ← word_at (is_address base size kind.0) kind.1
  count ← byte_at is_name_size address.1
  name ← text_at count.0 is_printing count.1
  Ok (record { kind = kind.0; address = address.0; name = name.0 }, name.1)

-- so many symbols
unfoldable pub symbols_at : ℕ → ℕ → ℕ → Rest → Result (List Symbol × Rest) ℕ
symbols_at base size zero r = Ok ([], r)
symbols_at base size (suc n) r = do
  first ← symbol_at base size r
  others ← symbols_at base size n first.1
  Ok (first.0 ∷ others.0, others.1)

-- the code, and nothing behind it
unfoldable pub code_at : ℕ → ℕ → Rest → Result MachineCode ℕ
code_at base size r = do
  f ← field_at size r
  checked (length f.1.bytes == 0) f.1.at (record { base = base; bytes = f.0 })

-- all that stands before the code
unfoldable pub header_at : Rest → Result (Header × Rest) ℕ
header_at r = do
  begun ← word_at is_magic r
  base ← word_at (λ _. true) begun.1
  size ← word_at (is_code_size base.0) base.1
  count ← word_at is_count size.1
  symbols ← symbols_at base.0 size.0 count.0 count.1
  Ok (record { base = base.0; size = size.0; symbols = symbols.0 }, symbols.1)

-- all of the bytes
unfoldable pub image_of : List ℕ → Result Image ℕ
image_of bytes = do
  header ← header_at (record { at = 0; bytes = bytes })
  code ← code_at header.0.base header.0.size header.1
  Ok (record { code = code; symbols = header.0.symbols })
