-- Bytes hang on addresses modulo 2^32 alone.
use Rattle.std.proofs.Common.{◌≡◌, ℕ, ◌+◌, ◌-◌, List, [], ◌∷◌, ◌++◌, length, refl, sym, ◌∙◌, ap, ap₂, arith}
use Rattle.bed_lang.specs.Numbers.{wrap, word_bytes}
use Rattle.bed_machine.specs.Instructions.{row, number_of}
use Rattle.bed_machine.specs.declared.instructions.Ins.TheVariants.{Cmp, Jcc}
use Rattle.bed_machine.specs.declared.registers.Reg.TheVariants.{Ecx, Edx, Esi}
use Rattle.bed_il.specs.declared.blocks.Inst.{Inst}
use Rattle.bed_il.specs.declared.blocks.Inst.TheVariants.{SaveReturn, Fetch, Keep, KeepAnswer, Apply, LoadWord, LoadByte, StoreWord, StoreByte, RaiseSp, LowerSp, ReturnTo, SetAnswer, TakeReturn}
use Rattle.bed_il.specs.declared.blocks.Value.TheVariants.{Number, Slot, Function}
use Rattle.bed_il.specs.declared.blocks.Jump.{Jump}
use Rattle.bed_il.specs.declared.blocks.Jump.TheVariants.{Goto, Fall, Test, Register}
use Rattle.bed_il.specs.declared.blocks.Block.{Block}
use Rattle.bed_il.specs.Bytes.{otherwise, ins_of, insts_bytes, distance, jump_bytes, block_bytes, laid}
use Rattle.bed_il.specs.Places.{blocks_size, place_of}
use Rattle.bed_layout.specs.Functions.{function_bytes, code_bytes}
use Rattle.bed_layout.proofs.InstructionLemmas.{word_bytes-wrap}
use Rattle.bed_layout.proofs.LabelLemmas.{place_wraps}

pub word_same : (x y : ℕ) → wrap x ≡ wrap y → word_bytes x ≡ word_bytes y
word_same x y e = word_bytes-wrap x ∙ ap word_bytes e ∙ sym (word_bytes-wrap y)

module _ (p q : ℕ → ℕ) (same : (l : ℕ) → wrap (p l) ≡ wrap (q l)) where
  distance_same : (x y l : ℕ) → wrap x ≡ wrap y → distance p x l ≡ distance q y l
  distance_same x y l e = let s = same l in ap (λ z. wrap (p l + (4294967296 - z))) e ∙ sum (p l) (q l) (4294967296 - wrap y) s
    where
      sum : (a b c : ℕ) → wrap a ≡ wrap b → wrap (a + c) ≡ wrap (b + c)
      sum a b c e = omega arith

  jump_same : (j : Jump) (x y : ℕ) → wrap x ≡ wrap y → jump_bytes p j x ≡ jump_bytes q j y
  jump_same (Goto l) x y e = ap (λ n. 0xE9 ∷ (word_bytes n ++ [])) (distance_same (x + 5) (y + 5) l (omega arith))
  jump_same (Fall l) x y e = refl
  jump_same (Test r yes_label no_label) x y e = ap (λ n. row (Cmp Ecx Edx) ++ (row (Jcc (otherwise r) n) ++ [])) (distance_same (x + 8) (y + 8) no_label (omega arith))
  jump_same (Register r) x y e = refl

  module _ (functions : List ℕ → ℕ) where
    row_same : (i : Inst) → row (ins_of functions p i) ≡ row (ins_of functions q i)
    row_same SaveReturn = refl
    row_same (Fetch r (Number n)) = refl
    row_same (Fetch r (Slot d)) = refl
    row_same (Fetch r (Function f)) = refl
    row_same (Keep d) = refl
    row_same (KeepAnswer d) = refl
    row_same (Apply o) = refl
    row_same (LoadWord d) = refl
    row_same (LoadByte d) = refl
    row_same (StoreWord d) = refl
    row_same (StoreByte d) = refl
    row_same (RaiseSp n) = refl
    row_same (LowerSp n) = refl
    row_same (ReturnTo l) = ap (λ w. (0xB8 + number_of Esi) ∷ w) (word_same (p l) (q l) (same l))
    row_same SetAnswer = refl
    row_same TakeReturn = refl

    insts_same : (is : List Inst) → insts_bytes functions p is ≡ insts_bytes functions q is
    insts_same [] = refl
    insts_same (i ∷ is) = ap₂ (λ a b. a ++ b) (row_same i) (insts_same is)

    block_same : (b : Block) (x y : ℕ) → wrap x ≡ wrap y → block_bytes functions p b x ≡ block_bytes functions q b y
    block_same b x y e =
        let s = insts_same b.insts in
        let n : length (insts_bytes functions p b.insts) ≡ length (insts_bytes functions q b.insts) = ap length s in
        ap₂ (λ a c. a ++ c) s (jump_same b.jump (x + length (insts_bytes functions p b.insts)) (y + length (insts_bytes functions q b.insts)) (omega arith))

    pub laid_same : (B : List Block) (x y : ℕ) → wrap x ≡ wrap y → laid functions p B x ≡ laid functions q B y
    laid_same [] x y e = refl
    laid_same (b ∷ B) x y e =
        let s = block_same b x y e in
        let n : length (block_bytes functions p b x) ≡ length (block_bytes functions q b y) = ap length s in
        ap₂ (λ a c. a ++ c) s (laid_same B (x + length (block_bytes functions p b x)) (y + length (block_bytes functions q b y)) (omega arith))

pub jump_wraps : (p : ℕ → ℕ) (j : Jump) (x y : ℕ) → wrap x ≡ wrap y → jump_bytes p j x ≡ jump_bytes p j y
jump_wraps p j x y e = jump_same p p (λ l. refl) j x y e

pub laid_wraps : (functions : List ℕ → ℕ) (p : ℕ → ℕ) (B : List Block) (x y : ℕ) → wrap x ≡ wrap y → laid functions p B x ≡ laid functions p B y
laid_wraps functions p B x y e = laid_same p p (λ l. refl) functions B x y e

pub function_wraps : (functions : List ℕ → ℕ) (B : List Block) (x y : ℕ) → wrap x ≡ wrap y → function_bytes functions B x ≡ function_bytes functions B y
function_wraps functions B x y e = laid_same (place_of B x) (place_of B y) (λ l. place_wraps B x y l e) functions B x y e

pub code_wraps : (functions : List ℕ → ℕ) (Bs : List (List Block)) (x y : ℕ) → wrap x ≡ wrap y → code_bytes functions Bs x ≡ code_bytes functions Bs y
code_wraps functions [] x y e = refl
code_wraps functions (B ∷ Bs) x y e = ap₂ (λ a b. a ++ b) (function_wraps functions B x y e) (code_wraps functions Bs (x + blocks_size B) (y + blocks_size B) (omega arith))
