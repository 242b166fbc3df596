-- Loads and stores of a word or of a byte: their statements, their blocks, and their actions.
use Rattle.std.specs.Prelude.{ℕ, Bool, true, false, List}
use Rattle.bed_lang.specs.declared.word.Name.{Name}
use Rattle.bed_lang.specs.declared.module.Operand.{Operand}
use Rattle.bed_lang.specs.declared.module.Place.{Place}
use Rattle.bed_lang.specs.declared.module.Action.{Action}
use Rattle.bed_lang.specs.declared.module.Action.TheVariants as action
use Rattle.bed_lang.specs.declared.statement.Stmt.{Stmt}
use Rattle.bed_lang.specs.declared.statement.StmtKind.{StmtKind, Load, LoadByte, Store, StoreByte}
use Rattle.bed_il.specs.declared.blocks.Block.{Block}
use Rattle.bed_laws.specs.StatementBlocks as blocks

-- a statement at a place
abbrev pub statement : ℕ → StmtKind → Stmt
statement at kind = record { at = at; kind = kind }

-- a load; of a byte where `byte` is true
abbrev pub load_kind : Bool → Name → Place → StmtKind
load_kind false x p = Load x p
load_kind true x p = LoadByte x p

abbrev pub load_action : Bool → Name → Place → Action
load_action false x p = action.Load x p
load_action true x p = action.LoadByte x p

abbrev pub load_block : List Name → Bool → Name → Place → ℕ → ℕ → Block
load_block locals false x p first next = blocks.load_block locals x p first next
load_block locals true x p first next = blocks.load_byte_block locals x p first next

-- a store; of a byte where `byte` is true
abbrev pub store_kind : Bool → Place → Operand → StmtKind
store_kind false p a = Store p a
store_kind true p a = StoreByte p a

abbrev pub store_action : Bool → Place → Operand → Action
store_action false p a = action.Store p a
store_action true p a = action.StoreByte p a

abbrev pub store_block : List Name → Bool → Place → Operand → ℕ → ℕ → Block
store_block locals false p a first next = blocks.store_block locals p a first next
store_block locals true p a first next = blocks.store_byte_block locals p a first next
