-- The two laws of blocks for the statements that they stand for.
use Rattle.std.specs.Prelude.{◌≡◌, ◌⊎◌, ℕ, false, Option, None, List}
use Rattle.bed_lang.specs.declared.word.Name.{Name}
use Rattle.bed_lang.specs.declared.module.Join.{Join}
use Rattle.bed_lang.specs.declared.statement.Stmt.{Stmt}
use Rattle.bed_table.specs.Code.{body_piece}
use Rattle.bed_sat.specs.Assertions.{World}
use Rattle.bed_sat.specs.Conditions.{Path, body_part}
use Rattle.bed_il.specs.declared.blocks.Block.{Block}
use Rattle.bed_laws.specs.Activations.{FunctionSite}
use Rattle.bed_laws.specs.Keeps.{LoopHead, Law}
use Rattle.bed_laws.specs.Lays.{Lays}

-- the first law for each path that comes, with the conditions that the statements owe for it, and the path that leaves them
abbrev pub KeepStatements : World → FunctionSite → (ℕ → ℕ) → List Block → List LoopHead → ℕ → ℕ → List Stmt → Type 0
KeepStatements w c places B heads first next body =
    (from : Path) → Law w c places B heads first next ((body_part c.site body).owes from) from ((body_part c.site body).goes_on from)

-- the second law, with the statements' code
abbrev pub LayStatements : List Name → List Block → List LoopHead → ℕ → ℕ → List Stmt → Type 0
LayStatements locals B heads first next body = Lays locals B heads first next (body_piece body)

-- an `if` without a join: one of the bodies doesn't come to its end
abbrev pub IsJoined : Option Join → List Stmt → List Stmt → Type 0
IsJoined join ys ns = join ≡ None → ((body_piece ys).falls ≡ false) ⊎ ((body_piece ns).falls ≡ false)
