-- Where blocks stand, by the sizes of their instructions.
use Rattle.std.specs.Prelude.{◌≡◌, ℕ, ◌+◌, Some, List, [], ◌∷◌, length, nat_eq, if◌then◌else◌}
use Rattle.bed_machine.specs.Instructions.{row}
use Rattle.bed_il.specs.declared.blocks.Inst.{Inst}
use Rattle.bed_il.specs.declared.blocks.Jump.{Jump}
use Rattle.bed_il.specs.declared.blocks.Block.{Block}
use Rattle.bed_il.specs.BlockMachine.{block_at}
use Rattle.bed_il.specs.Bytes.{ins_of, jump_bytes}

-- The number of bytes of an instruction, of a row of them, of a jump and of a block. None of it hangs on an address, so it is taken
-- where all are 0.
abbrev pub inst_size : Inst → ℕ
inst_size i = length (row (ins_of (λ f. 0) (λ l. 0) i))

abbrev pub insts_size : List Inst → ℕ
insts_size [] = 0
insts_size (i ∷ is) = inst_size i + insts_size is

abbrev pub jump_size : Jump → ℕ
jump_size jump = length (jump_bytes (λ l. 0) jump 0)

abbrev pub block_size : Block → ℕ
block_size b = insts_size b.insts + jump_size b.jump

abbrev pub blocks_size : List Block → ℕ
blocks_size [] = 0
blocks_size (b ∷ bs) = block_size b + blocks_size bs

-- the address at which the block of a label begins, where blocks are laid out from an address
abbrev pub place_of : List Block → ℕ → ℕ → ℕ
place_of [] at l = at
place_of (b ∷ bs) at l = if nat_eq b.label l then at else place_of bs (at + block_size b) l

-- labels have the addresses of their blocks, laid out from an address
abbrev pub ArePlaced : List Block → ℕ → (ℕ → ℕ) → Type 0
ArePlaced B at places = (l : ℕ) (b : Block) → block_at B l ≡ Some b → places l ≡ place_of B at l
