-- Which blocks may stand together. Blocks that fit are laid out with no more than their own labels: each label that they name has a
-- block, and what falls goes to the block right after, so no jump is needed there.
use Rattle.std.specs.Prelude.{◌≡◌, ◌≢◌, ◌⊎◌, ℕ, Option, Some, None, IsSome, List, [], ◌∷◌, ◌++◌, length, Contains}
use Rattle.bed_machine.specs.declared.registers.Reg.TheVariants.{Edx, Esi}
use Rattle.bed_il.specs.declared.blocks.Inst.{Inst}
use Rattle.bed_il.specs.declared.blocks.Inst.TheVariants.{ReturnTo}
use Rattle.bed_il.specs.declared.blocks.Jump.{Jump}
use Rattle.bed_il.specs.declared.blocks.Jump.TheVariants.{Goto, Fall, Test, Register}
use Rattle.bed_il.specs.declared.blocks.Block.{Block}
use Rattle.bed_il.specs.BlockMachine.{block_at}

-- the labels to which calls of a block come back
abbrev pub back_labels : List Inst → List ℕ
back_labels [] = []
back_labels (ReturnTo l ∷ is) = l ∷ back_labels is
back_labels (_ ∷ is) = back_labels is

-- the labels that a jump names
abbrev pub jump_labels : Jump → List ℕ
jump_labels (Goto l) = l ∷ []
jump_labels (Fall l) = l ∷ []
jump_labels (Test rel on_true on_false) = on_true ∷ on_false ∷ []
jump_labels (Register r) = []

-- the labels that blocks name, by a ReturnTo or a jump
abbrev pub named_labels : List Block → List ℕ
named_labels [] = []
named_labels (b ∷ bs) = (back_labels b.insts ++ jump_labels b.jump) ++ named_labels bs

-- the labels of blocks differ
abbrev pub AreDistinct : List Block → Type 0
AreDistinct [] = Unit {0}
AreDistinct (b ∷ bs) = (block_at bs b.label ≡ None) × AreDistinct bs

-- the label of the first block; where there is none, that of what stands right after, if anything does
abbrev pub first_label : List Block → Option ℕ → Option ℕ
first_label [] after = after
first_label (b ∷ bs) after = Some b.label

-- a fall, and a test that is true, go to what stands right after
abbrev pub GoesOn : Jump → Option ℕ → Type 0
GoesOn (Goto l) after = Unit {0}
GoesOn (Fall l) after = after ≡ Some l
GoesOn (Test rel on_true on_false) after = after ≡ Some on_true
GoesOn (Register r) after = Unit {0}

abbrev pub AllGoOn : List Block → Option ℕ → Type 0
AllGoOn [] after = Unit {0}
AllGoOn (b ∷ bs) after = GoesOn b.jump (first_label bs after) × AllGoOn bs after

-- a block that leaves by EDX says to which one label the call comes back; one leaves by ESI, or by no register
abbrev pub LeavesOnce : Jump → List Inst → Type 0
LeavesOnce (Register Edx) is = length (back_labels is) ≡ 1
LeavesOnce (Register Esi) is = Unit {0}
LeavesOnce (Register _) is = ⊥
LeavesOnce _ is = Unit {0}

-- Blocks fit, where `after` is the label of what stands right after them, if anything does: their labels differ; each label that they
-- name is one of theirs or that one; what falls goes to what stands right after; and they leave by ESI, or by EDX with a label to
-- come back to.
pub record Fit (B : List Block) (after : Option ℕ) : Type 0 where
  pub distinct : AreDistinct B
  pub named : (l : ℕ) → Contains (named_labels B) l → IsSome (block_at B l) ⊎ (after ≡ Some l)
  pub go_on : AllGoOn B after
  pub leave : (b : Block) → Contains B b → LeavesOnce b.jump b.insts

-- The block of a label has instructions. Two labels may have one address, as an empty block has no bytes; a label of a block with
-- instructions is the only one of its kind at its address.
pub record HasCode (B : List Block) (l : ℕ) : Type 0 where
  pub block : Block
  pub found : block_at B l ≡ Some block
  pub some : block.insts ≢ []

-- The blocks of a whole function, from its first label. No jump and no ReturnTo names that label: control comes to it by a call
-- alone, so what holds there is the function's precondition.
pub record FitFunction (B : List Block) (entry : ℕ) : Type 0 where
  pub fit : Fit B None
  pub first : first_label B None ≡ Some entry
  pub code : HasCode B entry
  pub alone : Contains (named_labels B) entry → ⊥
