-- The blocks of statements: each row of the code table in the instructions of blocks.
use Rattle.std.specs.Prelude.{ℕ, ◌+◌, ◌*◌, Bool, true, false, if◌then◌else◌, List, [], ◌∷◌, ◌++◌}
use Rattle.bed_lang.specs.Numbers.{wrap}
use Rattle.bed_lang.specs.declared.word.Name.{Name}
use Rattle.bed_lang.specs.declared.module.Operand.{Operand}
use Rattle.bed_lang.specs.declared.module.Operand.TheVariants as operand
use Rattle.bed_lang.specs.declared.module.Op.{Op}
use Rattle.bed_lang.specs.declared.module.Place.{Place}
use Rattle.bed_lang.specs.declared.module.Test.{Test}
use Rattle.bed_table.specs.Words.{slot, call_area}
use Rattle.bed_machine.specs.declared.registers.Reg.TheVariants.{Edx, Esi}
use Rattle.bed_il.specs.declared.blocks.Scratch.TheVariants.{First, Second}
use Rattle.bed_il.specs.declared.blocks.Value.{Value}
use Rattle.bed_il.specs.declared.blocks.Value.TheVariants.{Number, Slot, Function}
use Rattle.bed_il.specs.declared.blocks.Inst.{Inst}
use Rattle.bed_il.specs.declared.blocks.Inst.TheVariants.{Fetch, Keep, Apply, LoadWord, LoadByte, StoreWord, StoreByte, RaiseSp, LowerSp, ReturnTo, KeepAnswer, SetAnswer, TakeReturn}
use Rattle.bed_il.specs.declared.blocks.Jump.TheVariants as jump
use Rattle.bed_il.specs.declared.blocks.Jump.TheVariants.{Goto, Fall, Register}
use Rattle.bed_il.specs.declared.blocks.Block.{Block}
use Rattle.bed_laws.specs.Activations.{IsAmong}

-- what brings an operand into a register
abbrev pub value_of : List Name → Operand → Value
value_of locals (operand.Number n) = Number n
value_of locals (operand.Local x) = Slot (slot locals x.bytes)
value_of locals (operand.Label f) = Function f

-- a local that stands as an operand is one of the function's
abbrev pub IsKnown : List Name → Operand → Type 0
IsKnown locals (operand.Local x) = IsAmong locals x.bytes
IsKnown locals _ = Unit {0}

-- a block that falls on to the label `next`
abbrev pub falling : ℕ → List Inst → ℕ → Block
falling first insts next = record { label = first; insts = insts; jump = Fall next }

-- no instruction, and a jump to a label
abbrev pub going : ℕ → ℕ → Block
going label to = record { label = label; insts = []; jump = Goto to }

-- a test goes to one of two labels
abbrev pub test_block : List Name → Test → ℕ → ℕ → ℕ → Block
test_block locals t first on_true on_false = record {
  label = first;
  insts = Fetch First (value_of locals t.left) ∷ Fetch Second (value_of locals t.right) ∷ [];
  jump = jump.Test t.rel on_true on_false;
}

-- the blocks of the statements without a call and without statements in them; in a function's locals, at a label, on to another
module _ (locals : List Name) where
  abbrev pub keep : Name → Inst
  keep x = Keep (slot locals x.bytes)

  -- x <- a
  abbrev pub assign_block : Name → Operand → ℕ → ℕ → Block
  assign_block x a first next = falling first (Fetch First (value_of locals a) ∷ keep x ∷ []) next

  -- x <- a op b
  abbrev pub compute_block : Name → Op → Operand → Operand → ℕ → ℕ → Block
  compute_block x op a b first next =
      falling first (Fetch First (value_of locals a) ∷ Fetch Second (value_of locals b) ∷ Apply op ∷ keep x ∷ []) next

  -- x <- [p], and of a byte
  abbrev pub load_block : Name → Place → ℕ → ℕ → Block
  load_block x p first next = falling first (Fetch First (value_of locals p.base) ∷ LoadWord p.disp ∷ keep x ∷ []) next

  abbrev pub load_byte_block : Name → Place → ℕ → ℕ → Block
  load_byte_block x p first next = falling first (Fetch First (value_of locals p.base) ∷ LoadByte p.disp ∷ keep x ∷ []) next

  -- [p] <- a, and of a byte
  abbrev pub store_block : Place → Operand → ℕ → ℕ → Block
  store_block p a first next = falling first (Fetch First (value_of locals p.base) ∷ Fetch Second (value_of locals a) ∷ StoreWord p.disp ∷ []) next

  abbrev pub store_byte_block : Place → Operand → ℕ → ℕ → Block
  store_byte_block p a first next = falling first (Fetch First (value_of locals p.base) ∷ Fetch Second (value_of locals a) ∷ StoreByte p.disp ∷ []) next

  -- return a
  abbrev pub return_block : Operand → ℕ → Block
  return_block a first = record {
    label = first;
    insts = Fetch First (value_of locals a) ∷ SetAnswer ∷ TakeReturn ∷ [];
    jump = Register Esi;
  }

  -- the arguments of a call, from number i on, go to the words 1 + i of the callee's frame
  abbrev pub argument_insts : ℕ → List Operand → List Inst
  argument_insts i [] = []
  argument_insts i (a ∷ more) = Fetch First (value_of locals a) ∷ Keep (wrap (call_area locals + (4 + 4 * i))) ∷ argument_insts (1 + i) more

  -- x <- call target(arguments): a block that leaves, and one to which the call comes back
  abbrev pub leave_insts : Operand → ℕ → List Inst
  leave_insts target back = Fetch Second (value_of locals target) ∷ RaiseSp (call_area locals) ∷ ReturnTo back ∷ []

  abbrev pub leave_block : Operand → List Operand → ℕ → Block
  leave_block target arguments first = record {
    label = first;
    insts = argument_insts 0 arguments ++ leave_insts target (first + 1);
    jump = Register Edx;
  }

  abbrev pub back_block : Name → ℕ → ℕ → Block
  back_block x back next = falling back (LowerSp (call_area locals) ∷ KeepAnswer (slot locals x.bytes) ∷ []) next

  abbrev pub call_blocks : Name → Operand → List Operand → ℕ → ℕ → List Block
  call_blocks x target arguments first next = leave_block target arguments first ∷ back_block x (first + 1) next ∷ []

-- no statement, or a hint: a block of its own with no bytes, since control comes to a label
abbrev pub empty_block : ℕ → ℕ → Block
empty_block first next = falling first [] next

-- how many labels a jump has that is there only where control comes to it
abbrev pub jump_count : Bool → ℕ
jump_count falls = if falls then 1 else 0

-- that jump, as a block
abbrev pub going_if : Bool → ℕ → ℕ → List Block
going_if falls label to = if falls then (going label to ∷ []) else []

-- while t { body }, where the body's blocks have n labels, from a first label on, to a next one: the test, the body, and the jump back
-- where control comes to the body's end
abbrev pub loop_blocks : Bool → List Name → Test → ℕ → ℕ → ℕ → (ℕ → ℕ → List Block) → List Block
loop_blocks falls locals t n first next body =
    test_block locals t first (first + 1) next
    ∷ (body (first + 1) (if falls then first + 1 + n else next) ++ going_if falls (first + 1 + n) first)

-- if t { yes } else { no }, where the first body's blocks have n labels: the test, the first body, the jump over the second where control
-- comes to the end of the first, and the second
abbrev pub choice_blocks : Bool → List Name → Test → ℕ → ℕ → ℕ → (ℕ → ℕ → List Block) → (ℕ → ℕ → List Block) → List Block
choice_blocks falls locals t n first next yes_part no_part =
    test_block locals t first (first + 1) (first + 1 + n + jump_count falls)
    ∷ (yes_part (first + 1) (first + 1 + n) ++ (going_if falls (first + 1 + n) next ++ no_part (first + 1 + n + jump_count falls) next))
