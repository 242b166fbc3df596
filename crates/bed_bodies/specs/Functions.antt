-- The blocks of functions and of modules.
use Rattle.std.specs.Prelude.{ℕ, ◌+◌, None, List, [], ◌∷◌, map}
use Rattle.bed_lang.specs.declared.word.Name.{Name}
use Rattle.bed_lang.specs.declared.module.Module.{Module}
use Rattle.bed_lang.specs.declared.statement.Stmt.{Stmt}
use Rattle.bed_table.specs.Pieces.{Piece, sequence}
use Rattle.bed_table.specs.CodeTable.{entry}
use Rattle.bed_table.specs.Code.{locals_of, body_piece}
use Rattle.bed_sat.specs.Assertions.{World}
use Rattle.bed_sat.specs.Conditions.{Path, body_part}
use Rattle.bed_sat.specs.Written.{written}
use Rattle.bed_il.specs.declared.blocks.Inst.TheVariants.{SaveReturn}
use Rattle.bed_il.specs.declared.blocks.Block.{Block}
use Rattle.bed_il.specs.Fit.{FitFunction}
use Rattle.bed_laws.specs.Activations.{FunctionSite, AreDistinct}
use Rattle.bed_laws.specs.Keeps.{LoopHead, Law}
use Rattle.bed_laws.specs.Lays.{Lays}
use Rattle.bed_laws.specs.StatementBlocks.{falling}
use Rattle.bed_bodies.specs.Demands.{AreMet}
use Rattle.bed_bodies.specs.Bodies.{body_built}

-- The entry of a function has a label of its own, 0: no jump comes to it, so what holds there is the precondition. The body's labels are
-- from 1 on.
abbrev pub entry_block : Block
entry_block = falling 0 (SaveReturn ∷ []) 1

-- the label behind a body
abbrev pub end_of : List Stmt → ℕ
end_of body = 1 + (body_built body).count

abbrev pub function_blocks : List Name → List Stmt → List Block
function_blocks locals body = entry_block ∷ (body_built body).code locals 1 (end_of body)

abbrev pub function_heads : List Stmt → List LoopHead
function_heads body = (body_built body).heads 1

-- the blocks of each function of a module, with `find` and `walk` written out
abbrev pub blocks_of : Module → List (List Block)
blocks_of m = map (λ f. function_blocks (locals_of m.signatures f) (written f.body)) m.functions

-- The code of a body with the entry before it.
abbrev pub whole_piece : List Stmt → Piece
whole_piece body = sequence (entry ∷ body_piece body ∷ [])

-- The blocks of a function whose body doesn't come to its end fit, are the code table's bytes of the entry and the body, and from the first
-- label of the body on keep their specification for every path that comes there.
pub record FunctionLaws (c : FunctionSite) (body : List Stmt) : Type 1 where
  pub fit : FitFunction (function_blocks c.site.locals body) 0
  pub lays : Lays c.site.locals (function_blocks c.site.locals body) (function_heads body) 0 (end_of body) (whole_piece body)
  pub keeps : (w : World) → AreMet w.decls c (body_built body).demands → AreDistinct c.site.locals → (places : ℕ → ℕ) (from : Path)
      → Law w c places ((body_built body).code c.site.locals 1 (end_of body)) (function_heads body) 1 (end_of body) ((body_part c.site body).owes from) from None
