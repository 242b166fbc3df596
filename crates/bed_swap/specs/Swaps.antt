-- What changes the values of two locals by way of a third: its statements, its blocks, its actions, and where it may stand.
use Rattle.std.specs.Prelude.{ℕ, ◌+◌, List, [], ◌∷◌}
use Rattle.bed_lang.specs.declared.word.Name.{Name}
use Rattle.bed_lang.specs.declared.module.Operand.TheVariants.{Local}
use Rattle.bed_lang.specs.declared.module.Action.{Action}
use Rattle.bed_lang.specs.declared.module.Action.TheVariants as action
use Rattle.bed_lang.specs.declared.statement.Stmt.{Stmt}
use Rattle.bed_lang.specs.declared.statement.StmtKind.{Assign}
use Rattle.bed_sat.specs.Conditions.{Path, then_action}
use Rattle.bed_il.specs.declared.blocks.Block.{Block}
use Rattle.bed_laws.specs.Activations.{IsAmong}
use Rattle.bed_laws.specs.StatementBlocks.{assign_block}

-- into <- from: the statement, its block in a function with these locals, and its action
abbrev pub moved : Name → Name → Stmt
moved into from = record { at = 0; kind = Assign into (Local from) }

abbrev pub moved_block : List Name → Name → Name → ℕ → ℕ → Block
moved_block locals into from first next = assign_block locals into (Local from) first next

abbrev pub moves : Name → Name → Action
moves into from = action.Assign into (Local from)

module _ (x y t : Name) where
  -- t <- x; x <- y; y <- t
  abbrev pub swap_statements : List Stmt
  swap_statements = moved t x ∷ moved x y ∷ moved y t ∷ []

  abbrev pub swap_blocks : List Name → ℕ → ℕ → List Block
  swap_blocks locals first next =
      moved_block locals t x first (first + 1) ∷ moved_block locals x y (first + 1) (first + 1 + 1) ∷ moved_block locals y t (first + 1 + 1) next ∷ []

  abbrev pub swap_actions : List Action
  swap_actions = moves t x ∷ moves x y ∷ moves y t ∷ []

  abbrev pub swap_path : Path → Path
  swap_path p = then_action (moves y t) (then_action (moves x y) (then_action (moves t x) p))

  -- all three are locals of the function
  abbrev pub AreLocals : List Name → Type 0
  AreLocals locals = IsAmong locals x.bytes × IsAmong locals y.bytes × IsAmong locals t.bytes
