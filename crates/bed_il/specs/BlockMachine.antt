-- The block machine: what the instructions and jumps of blocks do. It has the machine's effects on five registers and data
-- memory, with labels in place of addresses, so that what is said of blocks needs no bytes (after Bedrock's IL).
use Rattle.std.specs.Prelude.{ℕ, ◌+◌, ◌-◌, ◌*◌, Bool, true, false, not, Option, Some, None, Result, Ok, Err, List, [], ◌∷◌, find, slice_get, nat_eq, nat_lt, nat_le, if◌then◌else◌}
use Rattle.bed_lang.specs.Numbers.{wrap}
use Rattle.bed_lang.specs.declared.module.Op.{Op}
use Rattle.bed_lang.specs.declared.module.Op.TheVariants as op
use Rattle.bed_lang.specs.declared.module.Rel.{Rel}
use Rattle.bed_lang.specs.declared.module.Rel.TheVariants.{Equal, Unequal, Less, AtMost}
use Rattle.bed_machine.specs.Memory.{Memory, word_at, put_byte, put_word}
use Rattle.bed_machine.specs.Machine.{result_of}
use Rattle.bed_machine.specs.declared.registers.Reg.TheVariants.{Edx, Esi}
use Rattle.bed_machine.specs.declared.instructions.Arith.TheVariants as arith
use Rattle.bed_il.specs.declared.blocks.Scratch.{Scratch}
use Rattle.bed_il.specs.declared.blocks.Scratch.TheVariants.{First, Second}
use Rattle.bed_il.specs.declared.blocks.Value.{Value}
use Rattle.bed_il.specs.declared.blocks.Value.TheVariants.{Number, Slot, Function}
use Rattle.bed_il.specs.declared.blocks.Inst.{Inst}
use Rattle.bed_il.specs.declared.blocks.Inst.TheVariants.{SaveReturn, Fetch, Keep, KeepAnswer, Apply, LoadWord, LoadByte, StoreWord, StoreByte, RaiseSp, LowerSp, ReturnTo, SetAnswer, TakeReturn}
use Rattle.bed_il.specs.declared.blocks.Jump.{Jump}
use Rattle.bed_il.specs.declared.blocks.Jump.TheVariants.{Goto, Fall, Test, Register}
use Rattle.bed_il.specs.declared.blocks.Block.{Block}

-- a state: the frame's address, the return address, the answer, the two operands, the label of the block in which control is, the
-- number of its next instruction, and data memory
pub record BlockState : Type 0 where
  pub sp : ℕ
  pub rp : ℕ
  pub rv : ℕ
  pub first : ℕ
  pub second : ℕ
  pub label : ℕ
  pub next : ℕ
  pub memory : Memory

-- the state with an operand set
abbrev pub set_scratch : Scratch → ℕ → BlockState → BlockState
set_scratch First v s = record s { first = v }
set_scratch Second v s = record s { second = v }

-- the result of an operation on two words
abbrev pub op_of : Op → ℕ → ℕ → ℕ
op_of op.Add a b = result_of arith.Add a b
op_of op.Sub a b = result_of arith.Sub a b
op_of op.Mul a b = wrap (a * b)
op_of op.And a b = result_of arith.And a b
op_of op.Or a b = result_of arith.Or a b
op_of op.Xor a b = result_of arith.Xor a b

-- whether words compare so, without sign
abbrev pub compares : Rel → ℕ → ℕ → Bool
compares Equal a b = nat_eq a b
compares Unequal a b = not (nat_eq a b)
compares Less a b = nat_lt a b
compares AtMost a b = nat_le a b

-- what follows an access at an address that holds this, or the address where it faults
abbrev pub on_access : Option ℕ → ℕ → (ℕ → BlockState) → Result BlockState ℕ
on_access None a after = Err a
on_access (Some v) a after = Ok (after v)

-- the word at an address is read, or replaced; so is a byte
abbrev pub reads : BlockState → ℕ → (ℕ → BlockState) → Result BlockState ℕ
reads s a after = on_access (word_at s.memory a) a after

abbrev pub writes : BlockState → ℕ → ℕ → Result BlockState ℕ
writes s a v = on_access (word_at s.memory a) a (λ _. record s { memory = put_word s.memory a v })

abbrev pub reads_byte : BlockState → ℕ → (ℕ → BlockState) → Result BlockState ℕ
reads_byte s a after = on_access (s.memory a) a after

abbrev pub writes_byte : BlockState → ℕ → ℕ → Result BlockState ℕ
writes_byte s a v = on_access (s.memory a) a (λ _. record s { memory = put_byte s.memory a v })

-- What one turn does: control stays in the blocks, in this state; it leaves by the return address; it leaves by the second operand,
-- to come back at the block with the label, if there is one; it leaves by another register, which no block may; an access faults at
-- the address; or no block has the label.
pub data Move : Type 0 where
  Within : BlockState → Move
  Returns : Move
  Calls : Option ℕ → Move
  Strays : Move
  Faults : ℕ → Move
  Missing : Move

-- control at the first instruction of a block
abbrev pub at_label : ℕ → BlockState → BlockState
at_label l s = record s { label = l; next = 0 }

-- control at the next instruction, if there was no fault
abbrev pub to_next : Result BlockState ℕ → Move
to_next (Ok s) = Within (record s { next = s.next + 1 })
to_next (Err a) = Faults a

-- the label to which a call of a block comes back: that of its first ReturnTo. Two labels may stand at one address, so the return
-- address doesn't tell it.
abbrev pub back_label : List Inst → Option ℕ
back_label [] = None
back_label (ReturnTo l ∷ is) = Some l
back_label (_ ∷ is) = back_label is

-- how control goes on behind the last instruction of a block
abbrev pub follows : Jump → List Inst → BlockState → Move
follows (Goto l) is s = Within (at_label l s)
follows (Fall l) is s = Within (at_label l s)
follows (Test rel on_true on_false) is s = Within (at_label (if compares rel s.first s.second then on_true else on_false) s)
follows (Register Esi) is s = Returns
follows (Register Edx) is s = Calls (back_label is)
follows (Register _) is s = Strays

-- the addresses of functions and imports by their names, and of blocks by their labels
module _ (functions : List ℕ → ℕ) (places : ℕ → ℕ) where
  -- what an instruction does to registers and memory; control stays where it is
  abbrev pub effect : Inst → BlockState → Result BlockState ℕ
  effect SaveReturn s = writes s s.sp s.rp
  effect (Fetch into (Number n)) s = Ok (set_scratch into (wrap n) s)
  effect (Fetch into (Slot disp)) s = reads s (wrap (s.sp + disp)) (λ v. set_scratch into v s)
  effect (Fetch into (Function f)) s = Ok (set_scratch into (wrap (functions f.bytes)) s)
  effect (Keep disp) s = writes s (wrap (s.sp + disp)) s.first
  effect (KeepAnswer disp) s = writes s (wrap (s.sp + disp)) s.rv
  effect (Apply o) s = Ok (record s { first = op_of o s.first s.second })
  effect (LoadWord disp) s = reads s (wrap (s.first + disp)) (λ v. record s { first = v })
  effect (LoadByte disp) s = reads_byte s (wrap (s.first + disp)) (λ v. record s { first = v })
  effect (StoreWord disp) s = writes s (wrap (s.first + disp)) s.second
  effect (StoreByte disp) s = writes_byte s (wrap (s.first + disp)) s.second
  effect (RaiseSp n) s = Ok (record s { sp = wrap (s.sp + n) })
  effect (LowerSp n) s = Ok (record s { sp = wrap (s.sp + (4294967296 - n)) })
  effect (ReturnTo l) s = Ok (record s { rp = places l })
  effect SetAnswer s = Ok (record s { rv = s.first })
  effect TakeReturn s = reads s s.sp (λ v. record s { rp = v })

  -- a turn in a block: the next instruction, or the jump behind the last
  abbrev pub in_block : Option Inst → Block → BlockState → Move
  in_block (Some i) b s = to_next (effect i s)
  in_block None b s = follows b.jump b.insts s

  abbrev pub in_blocks : Option Block → BlockState → Move
  in_blocks None s = Missing
  in_blocks (Some b) s = in_block (slice_get b.insts s.next) b s

-- the block with a label, the first of several
abbrev pub block_at : List Block → ℕ → Option Block
block_at B l = find (λ b. nat_eq b.label l) B

-- one turn
abbrev pub il_move : (List ℕ → ℕ) → (ℕ → ℕ) → List Block → BlockState → Move
il_move functions places B s = in_blocks functions places (block_at B s.label) s
