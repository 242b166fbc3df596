-- Each function keeps its specification where the conditions of its body hold.
use Rattle.std.proofs.Common.{◌≡◌, ℕ, ◌≤◌, false, Some, List, ◌++◌, length, refl, arith}
use Rattle.bed_lang.specs.declared.word.Name.{Name}
use Rattle.bed_lang.specs.declared.module.Signature.{Signature}
use Rattle.bed_lang.specs.declared.statement.Stmt.{Stmt}
use Rattle.bed_table.specs.Code.{body_piece}
use Rattle.bed_sat.specs.Assertions.{World}
use Rattle.bed_sat.specs.Conditions.{path_at_entry, body_part}
use Rattle.bed_laws.specs.Activations.{AreDistinct}
use Rattle.bed_laws.specs.Keeps.{AllHold}
use Rattle.bed_bodies.specs.Demands.{AreMet}
use Rattle.bed_bodies.specs.Bodies.{body_built}
use Rattle.bed_bodies.specs.Functions.{end_of, function_blocks, function_heads}
use Rattle.bed_bodies.specs.Entries.{FunctionKeeps, IsOwn}
use Rattle.bed_bodies.proofs.BodyLaws.{body_laws}
use Rattle.bed_bodies.proofs.FunctionLaws.{function_laws}
use Rattle.bed_bodies.proofs.EntryLaws.{site, function_keeps}

module _ (w : World) (m f : Name) (S : Signature) (further : List Name) (distinct : AreDistinct (S.params ++ further)) (own : IsOwn w further S.pre) (room : length further ≤ S.reserve)
    (body : List Stmt) (met : AreMet w.decls (site w m f S further distinct) (body_built body).demands) (stops : (body_piece body).falls ≡ false) where
  pub keeps_specification : (places : ℕ → ℕ) → AllHold w (site w m f S further distinct) ((body_part (site w m f S further distinct).site body).owes (path_at_entry (Some S)))
      → FunctionKeeps w (site w m f S further distinct) places (function_blocks (S.params ++ further) body) (function_heads body) 0
  keeps_specification places valid =
      let c = site w m f S further distinct in
      function_keeps w m f S further distinct places own room ((body_built body).code (S.params ++ further) 1 (end_of body)) (function_heads body) 0 (end_of body) (omega arith)
      ((body_laws body).spans (S.params ++ further) 1 (end_of body)) ((body_part c.site body).owes (path_at_entry (Some S))) valid (path_at_entry (Some S)) refl refl
      ((function_laws w.decls c body met stops).keeps w met distinct places (path_at_entry (Some S)))
