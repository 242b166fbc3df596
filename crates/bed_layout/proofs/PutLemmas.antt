-- Bytes put one after the other: the front of the room grows.
use Rattle.std.proofs.Common.{◌≡◌, ℕ, ◌+◌, ◌%◌, ◌<◌, List, ◌∷◌, ◌++◌, length, drop, get_or, sym, ◌∙◌, ap, ap₂, arith, add-one, append_assoc}
use Rattle.std.proofs.Math.Seq.{drop-cons}
use Rattle.bed_lang.specs.Numbers.{wrap}
use Rattle.bed_machine.specs.Instructions.{row}
use Rattle.bed_il.specs.declared.blocks.Inst.{Inst}
use Rattle.bed_il.specs.declared.blocks.Block.{Block}
use Rattle.bed_il.specs.Bytes.{ins_of, insts_bytes, jump_bytes, block_bytes, laid}
use Rattle.bed_il.specs.Places.{inst_size, insts_size, block_size, blocks_size}
use Rattle.bed_il.proofs.PlaceLaws.{inst_size_is, insts_size_is, block_size_is}
use Rattle.bed_layout.proofs.WrapLemmas.{jump_wraps, laid_wraps}

cons_at : {A : Type 0} (xs : List A) (k : ℕ) (x : A) → k < length xs → x ≡ get_or xs k x → drop k xs ≡ x ∷ drop (k + 1) xs
cons_at xs k x lt is = drop-cons xs k x lt ∙ ap₂ (λ y n. y ∷ drop n xs) (sym is) (sym (add-one k))

module _ (functions : List ℕ → ℕ) (places : ℕ → ℕ) where
  -- an instruction has the size of its row
  pub row_long : (i : Inst) (bytes : List ℕ) → bytes ≡ row (ins_of functions places i) → length bytes ≡ inst_size i
  row_long i bytes e = ap length e ∙ inst_size_is functions places i

  -- one instruction more
  pub insts_step : (insts : List Inst) (k : ℕ) (i : Inst) (bytes front later all : List ℕ) → k < length insts → i ≡ get_or insts k i → bytes ≡ row (ins_of functions places i)
      → front ++ insts_bytes functions places (drop k insts) ≡ all → later ≡ front ++ bytes → later ++ insts_bytes functions places (drop (k + 1) insts) ≡ all
  insts_step insts k i bytes front later all lt is row_is before put =
      let rest : List ℕ = insts_bytes functions places (drop (k + 1) insts) in
      ap (λ l. l ++ rest) (put ∙ ap (λ b. front ++ b) row_is) ∙ append_assoc front (row (ins_of functions places i)) rest
      ∙ sym (ap (λ l. front ++ insts_bytes functions places l) (cons_at insts k i lt is)) ∙ before

  pub insts_room : (insts : List Inst) (k : ℕ) (i : Inst) (bytes : List ℕ) (next total : ℕ) → k < length insts → i ≡ get_or insts k i → bytes ≡ row (ins_of functions places i)
      → next + insts_size (drop k insts) ≡ total → next + length bytes + insts_size (drop (k + 1) insts) ≡ total
  insts_room insts k i bytes next total lt is row_is before =
      let e : insts_size (drop k insts) ≡ inst_size i + insts_size (drop (k + 1) insts) = ap insts_size (cons_at insts k i lt is) in
      let n = row_long i bytes row_is in
      omega arith

  -- a block: its instructions, and then its jump
  pub block_put : (b : Block) (at jump_at size : ℕ) (front middle later : List ℕ) → size ≡ wrap (insts_size b.insts) → jump_at ≡ (at + size) % 4294967296
      → middle ≡ front ++ insts_bytes functions places b.insts → later ≡ middle ++ jump_bytes places b.jump jump_at → later ≡ front ++ block_bytes functions places b at
  block_put b at jump_at size front middle later size_is at_is insts_put jump_put =
      let n = insts_size_is functions places b.insts in
      let same : wrap jump_at ≡ wrap (at + length (insts_bytes functions places b.insts)) = omega arith in
      jump_put ∙ ap₂ (λ l j. l ++ j) insts_put (jump_wraps places b.jump jump_at (at + length (insts_bytes functions places b.insts)) same)
      ∙ append_assoc front (insts_bytes functions places b.insts) _

  -- one block more
  pub blocks_step : (blocks : List Block) (k : ℕ) (b : Block) (at size after : ℕ) (front later all : List ℕ) → k < length blocks → b ≡ get_or blocks k b → size ≡ wrap (block_size b) → after ≡ (at + size) % 4294967296
      → front ++ laid functions places (drop k blocks) at ≡ all → later ≡ front ++ block_bytes functions places b at → later ++ laid functions places (drop (k + 1) blocks) after ≡ all
  blocks_step blocks k b at size after front later all lt is size_is after_is before put =
      let n = block_size_is functions places b at in
      let same : wrap after ≡ wrap (at + length (block_bytes functions places b at)) = omega arith in
      let rest : List ℕ = laid functions places (drop (k + 1) blocks) (at + length (block_bytes functions places b at)) in
      ap₂ (λ l r. l ++ r) put (laid_wraps functions places (drop (k + 1) blocks) after (at + length (block_bytes functions places b at)) same)
      ∙ append_assoc front (block_bytes functions places b at) rest
      ∙ sym (ap (λ l. front ++ laid functions places l at) (cons_at blocks k b lt is)) ∙ before

pub blocks_room : (blocks : List Block) (k : ℕ) (b : Block) (next total : ℕ) → k < length blocks → b ≡ get_or blocks k b → next + blocks_size (drop k blocks) ≡ total → next + block_size b + blocks_size (drop (k + 1) blocks) ≡ total
blocks_room blocks k b next total lt is before =
    let e : blocks_size (drop k blocks) ≡ block_size b + blocks_size (drop (k + 1) blocks) = ap blocks_size (cons_at blocks k b lt is) in
    omega arith
