-- What the definitions give: statements of laws.
use Rattle.std.specs.Prelude.{◌≡◌, ℕ, ◌+◌, List, [], ◌∷◌, length}
use Rattle.bed_lang.specs.Numbers.{word_bytes}
use Rattle.bed_lang.specs.declared.word.Name.{Name}
use Rattle.bed_lang.specs.declared.module.Op.TheVariants as op
use Rattle.bed_lang.specs.declared.module.Rel.TheVariants.{Equal, Unequal, Less, AtMost}
use Rattle.bed_machine.specs.Instructions.{row}
use Rattle.bed_machine.specs.declared.registers.Reg.TheVariants.{Edx, Esi}
use Rattle.bed_il.specs.declared.blocks.Scratch.TheVariants.{First, Second}
use Rattle.bed_il.specs.declared.blocks.Value.TheVariants.{Number, Slot, Function}
use Rattle.bed_il.specs.declared.blocks.Inst.{Inst}
use Rattle.bed_il.specs.declared.blocks.Inst.TheVariants.{SaveReturn, Fetch, Keep, KeepAnswer, Apply, LoadWord, LoadByte, StoreWord, StoreByte, RaiseSp, LowerSp, ReturnTo, SetAnswer, TakeReturn}
use Rattle.bed_il.specs.declared.blocks.Jump.{Jump}
use Rattle.bed_il.specs.declared.blocks.Jump.TheVariants.{Goto, Fall, Test, Register}
use Rattle.bed_il.specs.declared.blocks.Block.{Block}
use Rattle.bed_il.specs.Bytes.{ins_of, distance, jump_bytes, block_bytes, laid}
use Rattle.bed_il.specs.Places.{block_size, blocks_size}

-- blocks have as many bytes as their size says, wherever they stand and whatever the labels are
abbrev pub SizesAreLengths : Type 0
SizesAreLengths =
    (functions : List ℕ → ℕ) (places : ℕ → ℕ) (at : ℕ) (B : List Block) → length (laid functions places B at) ≡ blocks_size B

-- the bytes of each instruction, in full
pub record BytesOfInstructions (functions : List ℕ → ℕ) (places : ℕ → ℕ) : Type 0 where
  pub save_return : row (ins_of functions places SaveReturn) ≡ 0x89 ∷ 0xB5 ∷ word_bytes 0
  pub take_return : row (ins_of functions places TakeReturn) ≡ 0x8B ∷ 0xB5 ∷ word_bytes 0
  pub number_first : (n : ℕ) → row (ins_of functions places (Fetch First (Number n))) ≡ 0xB9 ∷ word_bytes n
  pub number_second : (n : ℕ) → row (ins_of functions places (Fetch Second (Number n))) ≡ 0xBA ∷ word_bytes n
  pub function_first : (f : Name) → row (ins_of functions places (Fetch First (Function f))) ≡ 0xB9 ∷ word_bytes (functions f.bytes)
  pub function_second : (f : Name) → row (ins_of functions places (Fetch Second (Function f))) ≡ 0xBA ∷ word_bytes (functions f.bytes)
  pub slot_first : (d : ℕ) → row (ins_of functions places (Fetch First (Slot d))) ≡ 0x8B ∷ 0x8D ∷ word_bytes d
  pub slot_second : (d : ℕ) → row (ins_of functions places (Fetch Second (Slot d))) ≡ 0x8B ∷ 0x95 ∷ word_bytes d
  pub keep : (d : ℕ) → row (ins_of functions places (Keep d)) ≡ 0x89 ∷ 0x8D ∷ word_bytes d
  pub keep_answer : (d : ℕ) → row (ins_of functions places (KeepAnswer d)) ≡ 0x89 ∷ 0x85 ∷ word_bytes d
  pub add : row (ins_of functions places (Apply op.Add)) ≡ 0x03 ∷ 0xCA ∷ []
  pub sub : row (ins_of functions places (Apply op.Sub)) ≡ 0x2B ∷ 0xCA ∷ []
  pub mul : row (ins_of functions places (Apply op.Mul)) ≡ 0x0F ∷ 0xAF ∷ 0xCA ∷ []
  pub and : row (ins_of functions places (Apply op.And)) ≡ 0x23 ∷ 0xCA ∷ []
  pub or : row (ins_of functions places (Apply op.Or)) ≡ 0x0B ∷ 0xCA ∷ []
  pub xor : row (ins_of functions places (Apply op.Xor)) ≡ 0x33 ∷ 0xCA ∷ []
  pub load_word : (d : ℕ) → row (ins_of functions places (LoadWord d)) ≡ 0x8B ∷ 0x89 ∷ word_bytes d
  pub load_byte : (d : ℕ) → row (ins_of functions places (LoadByte d)) ≡ 0x0F ∷ 0xB6 ∷ 0x89 ∷ word_bytes d
  pub store_word : (d : ℕ) → row (ins_of functions places (StoreWord d)) ≡ 0x89 ∷ 0x91 ∷ word_bytes d
  pub store_byte : (d : ℕ) → row (ins_of functions places (StoreByte d)) ≡ 0x88 ∷ 0x91 ∷ word_bytes d
  pub raise_sp : (n : ℕ) → row (ins_of functions places (RaiseSp n)) ≡ 0x81 ∷ 0xC5 ∷ word_bytes n
  pub lower_sp : (n : ℕ) → row (ins_of functions places (LowerSp n)) ≡ 0x81 ∷ 0xED ∷ word_bytes n
  pub return_to : (l : ℕ) → row (ins_of functions places (ReturnTo l)) ≡ 0xBE ∷ word_bytes (places l)
  pub set_answer : row (ins_of functions places SetAnswer) ≡ 0x8B ∷ 0xC1 ∷ []

-- the bytes of each jump, from an address
pub record BytesOfJumps (places : ℕ → ℕ) (at : ℕ) : Type 0 where
  pub goto : (l : ℕ) → jump_bytes places (Goto l) at ≡ 0xE9 ∷ word_bytes (distance places (at + 5) l)
  pub fall : (l : ℕ) → jump_bytes places (Fall l) at ≡ []
  pub equal : (yes_label no_label : ℕ) → jump_bytes places (Test Equal yes_label no_label) at
      ≡ 0x3B ∷ 0xCA ∷ 0x0F ∷ 0x85 ∷ word_bytes (distance places (at + 8) no_label)
  pub unequal : (yes_label no_label : ℕ) → jump_bytes places (Test Unequal yes_label no_label) at
      ≡ 0x3B ∷ 0xCA ∷ 0x0F ∷ 0x84 ∷ word_bytes (distance places (at + 8) no_label)
  pub less : (yes_label no_label : ℕ) → jump_bytes places (Test Less yes_label no_label) at
      ≡ 0x3B ∷ 0xCA ∷ 0x0F ∷ 0x83 ∷ word_bytes (distance places (at + 8) no_label)
  pub at_most : (yes_label no_label : ℕ) → jump_bytes places (Test AtMost yes_label no_label) at
      ≡ 0x3B ∷ 0xCA ∷ 0x0F ∷ 0x87 ∷ word_bytes (distance places (at + 8) no_label)
  pub by_esi : jump_bytes places (Register Esi) at ≡ 0xFF ∷ 0xE6 ∷ []
  pub by_edx : jump_bytes places (Register Edx) at ≡ 0xFF ∷ 0xE2 ∷ []
