-- Where blocks stand: their sizes are the lengths of their bytes, and a label's place is that of its block.
use Rattle.std.proofs.Common.{◌≡◌, ◌≢◌, ℕ, ◌+◌, Bool, true, false, Option, Some, None, List, [], ◌∷◌, ◌++◌, length, nat_eq, if◌then◌else◌, refl, sym, ◌∙◌, ap, ap₂, append_assoc, length-append, arith}
use Rattle.std.proofs.lemmas.Bool.Decides.{nat_tests}
use Rattle.bed_lang.specs.declared.module.Op.TheVariants as op
use Rattle.bed_machine.specs.Instructions.{row}
use Rattle.bed_il.specs.declared.blocks.Scratch.TheVariants.{First, Second}
use Rattle.bed_il.specs.declared.blocks.Value.TheVariants.{Number, Slot, Function}
use Rattle.bed_il.specs.declared.blocks.Inst.{Inst}
use Rattle.bed_il.specs.declared.blocks.Inst.TheVariants.{SaveReturn, Fetch, Keep, KeepAnswer, Apply, LoadWord, LoadByte, StoreWord, StoreByte, RaiseSp, LowerSp, ReturnTo, SetAnswer, TakeReturn}
use Rattle.bed_il.specs.declared.blocks.Jump.{Jump}
use Rattle.bed_il.specs.declared.blocks.Jump.TheVariants.{Goto, Fall, Test, Register}
use Rattle.bed_il.specs.declared.blocks.Block.{Block}
use Rattle.bed_il.specs.BlockMachine.{block_at}
use Rattle.bed_il.specs.Bytes.{ins_of, insts_bytes, jump_bytes, block_bytes, laid}
use Rattle.bed_il.specs.Places.{inst_size, insts_size, jump_size, block_size, blocks_size, place_of}

module _ (functions : List ℕ → ℕ) (places : ℕ → ℕ) where
  -- sizes are lengths
  pub inst_size_is : (i : Inst) → length (row (ins_of functions places i)) ≡ inst_size i
  inst_size_is SaveReturn = refl
  inst_size_is (Fetch r (Number n)) = refl
  inst_size_is (Fetch r (Slot d)) = refl
  inst_size_is (Fetch r (Function f)) = refl
  inst_size_is (Keep d) = refl
  inst_size_is (KeepAnswer d) = refl
  inst_size_is (Apply o) = refl
  inst_size_is (LoadWord d) = refl
  inst_size_is (LoadByte d) = refl
  inst_size_is (StoreWord d) = refl
  inst_size_is (StoreByte d) = refl
  inst_size_is (RaiseSp n) = refl
  inst_size_is (LowerSp n) = refl
  inst_size_is (ReturnTo l) = refl
  inst_size_is SetAnswer = refl
  inst_size_is TakeReturn = refl

  pub insts_size_is : (is : List Inst) → length (insts_bytes functions places is) ≡ insts_size is
  insts_size_is [] = refl
  insts_size_is (i ∷ is) = length-append (row (ins_of functions places i)) (insts_bytes functions places is) ∙ ap₂ (λ a b. a + b) (inst_size_is i) (insts_size_is is)

  pub jump_size_is : (j : Jump) (at : ℕ) → length (jump_bytes places j at) ≡ jump_size j
  jump_size_is (Goto l) at = refl
  jump_size_is (Fall l) at = refl
  jump_size_is (Test r p q) at = refl
  jump_size_is (Register r) at = refl

  pub block_size_is : (b : Block) (at : ℕ) → length (block_bytes functions places b at) ≡ block_size b
  block_size_is b at =
      length-append (insts_bytes functions places b.insts) (jump_bytes places b.jump (at + length (insts_bytes functions places b.insts)))
      ∙ ap₂ (λ a c. a + c) (insts_size_is b.insts) (jump_size_is b.jump _)

  pub laid_size_is : (B : List Block) (at : ℕ) → length (laid functions places B at) ≡ blocks_size B
  laid_size_is [] at = refl
  laid_size_is (b ∷ B) at =
      length-append (block_bytes functions places b at) (laid functions places B (at + length (block_bytes functions places b at)))
      ∙ ap₂ (λ a c. a + c) (block_size_is b at) (laid_size_is B _)

  -- blocks in two lists are laid out one list after the other
  pub laid_append : (B C : List Block) (at : ℕ) → laid functions places (B ++ C) at ≡ laid functions places B at ++ laid functions places C (at + blocks_size B)
  laid_append [] C at = let e : at ≡ at + 0 = omega arith in ap (laid functions places C) e
  laid_append (b ∷ B) C at =
      let n : length (block_bytes functions places b at) ≡ block_size b = block_size_is b at in
      let e : at + length (block_bytes functions places b at) + blocks_size B ≡ at + (block_size b + blocks_size B) = omega arith in
      ap (λ l. block_bytes functions places b at ++ l) (laid_append B C (at + length (block_bytes functions places b at)) ∙ ap (λ x. laid functions places B (at + length (block_bytes functions places b at)) ++ laid functions places C x) e)
      ∙ sym (append_assoc (block_bytes functions places b at) _ _)

pub laid_size : (functions : List ℕ → ℕ) (places : ℕ → ℕ) (at : ℕ) (B : List Block) → length (laid functions places B at) ≡ blocks_size B
laid_size functions places at B = laid_size_is functions places B at

pub size_append : (B C : List Block) → blocks_size (B ++ C) ≡ blocks_size B + blocks_size C
size_append [] C = let e : blocks_size C ≡ 0 + blocks_size C = omega arith in e
size_append (b ∷ B) C = let e = size_append B C in omega arith

-- the first block stands first
pub place_first : (b : Block) (B : List Block) (at l : ℕ) → b.label ≡ l → place_of (b ∷ B) at l ≡ at
place_first b B at l e = let t : nat_eq b.label l ≡ true = grind (arith, nat_tests) in rw t refl

-- the others behind it
pub place_other : (b : Block) (B : List Block) (at l : ℕ) → b.label ≢ l → place_of (b ∷ B) at l ≡ place_of B (at + block_size b) l
place_other b B at l ne = let t : nat_eq b.label l ≡ false = grind (arith, nat_tests) in rw t refl

none_some : {A : Type 0} {y : A} → ◌≡◌ {A = Option A} None (Some y) → ⊥
none_some e = cc

some_none : {A : Type 0} {y : A} → ◌≡◌ {A = Option A} (Some y) None → ⊥
some_none e = cc

-- a block of the first of two lists has its place there
pub place_front : (B C : List Block) (at l : ℕ) (b : Block) → block_at B l ≡ Some b → place_of (B ++ C) at l ≡ place_of B at l
place_front [] C at l b found = absurd (none_some found)
place_front (d ∷ B) C at l b found = by_test (nat_eq d.label l) refl (λ more. place_front B C (at + block_size d) l b more)
  where
    by_test : (t : Bool) → nat_eq d.label l ≡ t → (block_at B l ≡ Some b → place_of (B ++ C) (at + block_size d) l ≡ place_of B (at + block_size d) l)
        → (if nat_eq d.label l then at else place_of (B ++ C) (at + block_size d) l) ≡ (if nat_eq d.label l then at else place_of B (at + block_size d) l)
    by_test true t more = rw t refl
    by_test false t more = rw t (more (sym (rw t refl) ∙ found))

-- and one of the second alone behind the first list
pub place_back : (B C : List Block) (at l : ℕ) → block_at B l ≡ None → place_of (B ++ C) at l ≡ place_of C (at + blocks_size B) l
place_back [] C at l none = let e : at ≡ at + 0 = omega arith in ap (λ y. place_of C y l) e
place_back (d ∷ B) C at l none = by_test (nat_eq d.label l) refl (λ more. place_back B C (at + block_size d) l more)
  where
    by_test : (t : Bool) → nat_eq d.label l ≡ t → (block_at B l ≡ None → place_of (B ++ C) (at + block_size d) l ≡ place_of C (at + block_size d + blocks_size B) l)
        → (if nat_eq d.label l then at else place_of (B ++ C) (at + block_size d) l) ≡ place_of C (at + (block_size d + blocks_size B)) l
    by_test true t more = absurd (some_none {y = d} (sym (rw t refl) ∙ none))
    by_test false t more =
        let e : at + block_size d + blocks_size B ≡ at + (block_size d + blocks_size B) = omega arith in
        rw t (more (sym (rw t refl) ∙ none) ∙ ap (λ y. place_of C y l) e)
