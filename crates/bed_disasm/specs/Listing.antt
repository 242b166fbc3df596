-- A listing: the code from its first byte to its last, a line for each instruction, and for each byte at which none
-- begins.
use Rattle.std.specs.Prelude.{◌≡◌, ℕ, ◌+◌, ◌&&◌, List, [], ◌∷◌, ◌++◌, length, take, codes, nat_lt, nat_eq, slice_index, if◌then◌else◌}
use Rattle.std.specs.List.{flat_map}
use Rattle.bed_lang.specs.Numbers.{wrap}
use Rattle.bed_machine.specs.MachineCode.{MachineCode, IsInCode, bytes_from}
use Rattle.bed_machine.specs.Instructions.{BeginsWith}
use Rattle.bed_machine.specs.declared.instructions.Ins.{Ins}
use Rattle.bed_image.specs.declared.image.Symbol.{Symbol}
use Rattle.bed_image.specs.declared.image.Image.{Image}
use Rattle.bed_disasm.specs.Text.{byte_text, bytes_text, word_text, instruction_text}

-- address, bytes, what they say
abbrev pub line_text : ℕ → List ℕ → List ℕ → List ℕ
line_text at bytes says = word_text at ++ (codes " " ++ (bytes_text bytes ++ (codes " " ++ (says ++ codes "\n"))))

-- what the line of a byte says
abbrev pub byte_says : ℕ → List ℕ
byte_says b = codes "db 0x" ++ byte_text b

-- the line at an address, with the code's bytes from there on, and how many of them it covers
pub data IsLine (at : ℕ) (bytes : List ℕ) (size : ℕ) (text : List ℕ) : Type 0 where
  -- an instruction begins there
  Instruction : (i : Ins) → BeginsWith bytes i size → text ≡ line_text at (take size bytes) (instruction_text (wrap (at + size)) i)
      → IsLine at bytes size text
  -- none does: one byte
  Byte : ((i : Ins) (n : ℕ) → BeginsWith bytes i n → ⊥) → size ≡ 1 → text ≡ line_text at (slice_index bytes 0 ∷ []) (byte_says (slice_index bytes 0))
      → IsLine at bytes size text

-- `name:`, for a symbol at an address that isn't an import
abbrev pub name_line : ℕ → Symbol → List ℕ
name_line at s = if nat_lt s.kind 3 && nat_eq s.address at then s.name ++ codes ":\n" else []

abbrev pub name_lines : List Symbol → ℕ → List ℕ
name_lines symbols at = flat_map (name_line at) symbols

-- the text from an address to the end of the code
pub data IsListed (c : MachineCode) (symbols : List Symbol) : ℕ → List ℕ → Type 0 where
  End : IsListed c symbols (c.base + length c.bytes) []
  Line : (at size : ℕ) (text rest : List ℕ) → IsInCode c at → IsLine at (bytes_from c at) size text → IsListed c symbols (at + size) rest
      → IsListed c symbols at (name_lines symbols at ++ (text ++ rest))

-- the listing of an image
abbrev pub IsListing : Image → List ℕ → Type 0
IsListing i text = IsListed i.code i.symbols i.code.base text
