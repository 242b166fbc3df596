-- Functions whose blocks are those of statements.
use Rattle.std.specs.Prelude.{◌≡◌, ℕ, ◌+◌, ◌≤◌, Some, None, List, ◌∷◌}
use Rattle.bed_lang.specs.declared.word.Name.{Name}
use Rattle.bed_lang.specs.declared.statement.Stmt.{Stmt}
use Rattle.bed_sat.specs.Conditions.{path_at_entry, body_part}
use Rattle.bed_sat.specs.Runs.{Outside}
use Rattle.bed_sat.specs.Sound.{Linked, world_of, IsOutsideOf}
use Rattle.bed_il.specs.declared.blocks.Block.{Block}
use Rattle.bed_laws.specs.Keeps.{AllHold}
use Rattle.bed_laws.specs.Spans.{Spans}
use Rattle.bed_laws.specs.Statements.{KeepStatements}
use Rattle.bed_layout.specs.Bodies.{entry_block, IsScoped}
use Rattle.bed_layout.specs.Functions.{BlockFunction, places_in}

-- A function's blocks are those of its body's statements, which keep the first law beside every outside, behind the block that saves
-- the return address. No path leaves the body, and beside every outside its conditions hold.
pub record IsWritten (p : Linked) (f : BlockFunction) : Type 0 where
  pub further : List Name
  pub body : List Stmt
  pub inner : List Block
  pub end : ℕ
  pub next : ℕ
  pub blocks : f.blocks ≡ entry_block f.entry ∷ inner
  pub scoped : IsScoped f.site further
  pub labels : f.entry + 1 ≤ end
  pub spans : Spans inner f.heads (f.entry + 1) end
  pub keeps : (X : Outside) → IsOutsideOf p X → KeepStatements (world_of p X) f.site (places_in f) inner f.heads (f.entry + 1) next body
  pub ends : (body_part f.site.site body).goes_on (path_at_entry (Some f.site.signature)) ≡ None
  pub hold : (X : Outside) → IsOutsideOf p X → AllHold (world_of p X) f.site ((body_part f.site.site body).owes (path_at_entry (Some f.site.signature)))
