-- The laws of the blocks of a body.
use Rattle.std.specs.Prelude.{◌≡◌, ◌⊎◌, ◌<◌, ◌≤◌, ◌+◌, ℕ, List, length}
use Rattle.bed_lang.specs.declared.word.Name.{Name}
use Rattle.bed_lang.specs.declared.condition.Decls.{Decls}
use Rattle.bed_lang.specs.declared.statement.Stmt.{Stmt}
use Rattle.bed_table.specs.Code.{body_piece}
use Rattle.bed_sat.specs.Assertions.{World}
use Rattle.bed_laws.specs.Activations.{FunctionSite, AreDistinct}
use Rattle.bed_laws.specs.Spans.{Spans}
use Rattle.bed_laws.specs.Statements.{KeepStatements, LayStatements}
use Rattle.bed_bodies.specs.Demands.{AreMet}
use Rattle.bed_bodies.specs.Bodies.{Built}

-- Blocks are those of a body: they have as many labels as they say, control comes to their end where it comes to that of the body,
-- and where their demands are met they keep both laws.
pub record AreOf (body : List Stmt) (b : Built) : Type 0 where
  pub falls : (body_piece body).falls ≡ b.falls
  pub spans : (locals : List Name) (first next : ℕ) → Spans (b.code locals first next) (b.heads first) first (first + b.count)
  pub numbered : (locals : List Name) (first next : ℕ) → length (b.code locals first next) ≡ b.count
  pub keeps : (w : World) (c : FunctionSite) → AreMet w.decls c b.demands → AreDistinct c.site.locals → (places : ℕ → ℕ) (first next : ℕ) → (next < first) ⊎ (first + b.count ≤ next)
      → KeepStatements w c places (b.code c.site.locals first next) (b.heads first) first next body
  pub lays : (d : Decls) (c : FunctionSite) → AreMet d c b.demands → (first next : ℕ) → (next < first) ⊎ (first + b.count ≤ next)
      → LayStatements c.site.locals (b.code c.site.locals first next) (b.heads first) first next body
