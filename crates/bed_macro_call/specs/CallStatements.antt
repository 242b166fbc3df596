-- Both laws of a call, what a path makes of it, and that control comes to its end.
use Rattle.std.proofs.Common.{◌≡◌, ℕ, ◌+◌, ◌<◌, ◌≤◌, ◌⊎◌, inl, inr, true, Option, Some, List, [], ◌∷◌, sym, ◌∙◌, ap, subst}
use Rattle.std.specs.Prelude.{is_some}
use Rattle.std.proofs.Math.Nat.{add_assoc}
use Rattle.bed_lang.specs.declared.word.Name.{Name}
use Rattle.bed_lang.specs.declared.logic.Assertion.{Assertion}
use Rattle.bed_lang.specs.declared.module.Operand.{Operand}
use Rattle.bed_lang.specs.declared.module.Hint.{Hint}
use Rattle.bed_lang.specs.declared.condition.Goal.TheVariants.{Calls}
use Rattle.bed_lang.specs.declared.statement.Stmt.{Stmt}
use Rattle.bed_lang.specs.declared.statement.StmtKind.{Call}
use Rattle.bed_table.specs.CodeTable as table
use Rattle.bed_table.specs.Code.{body_piece}
use Rattle.bed_sat.specs.Assertions.{World}
use Rattle.bed_sat.specs.Conditions.{Site, Path, call, condition, body_part, path_from, then_using}
use Rattle.bed_sat.proofs.ConditionLaws.{part-Call}
use Rattle.bed_laws.specs.Activations.{FunctionSite, IsAmong, AreDistinct}
use Rattle.bed_laws.specs.Spans.{Spans}
use Rattle.bed_laws.specs.Statements.{KeepStatements, LayStatements}
use Rattle.bed_laws.specs.StatementBlocks.{IsKnown, leave_block, back_block, call_blocks}
use Rattle.bed_laws.proofs.TestLaws.{one_span, no_heads}
use Rattle.bed_laws.proofs.CallLaws.{AreKnown, call_law}
use Rattle.bed_laws.proofs.CallLays.{call_lays}
use Rattle.bed_laws.proofs.MacroLaws.{then_spans}
use Rattle.bed_laws.proofs.StatementsLaws.{one_goes, one_owes, keep_one, lay_one, piece-Call}
use Rattle.bed_macro.specs.Ends.{GoOnWhereTheyFall}
use Rattle.bed_macro_call.specs.Room.{HasRoom}

module _ (at place : ℕ) (x : Name) (target : Operand) (via : Option Name) (args : List Operand) (hints : List Hint) (after : Assertion) where
  abbrev pub call_statement : Stmt
  call_statement = record { at = at; kind = Call place x target via args hints after }

  pub call_falls : (body_piece (call_statement ∷ [])).falls ≡ true
  call_falls = ap (λ q. q.falls) (piece-Call at place x target via args hints after)

  pub call_owes : (site : Site) (p : Path) → (body_part site (call_statement ∷ [])).owes p ≡ condition site at (Calls target via args x after) (then_using hints p) ∷ []
  call_owes site p = one_owes site call_statement (call site at x target via args hints after) (part-Call site at place x target via args hints after) p

  pub call_goes : (site : Site) (p : Path) → (body_part site (call_statement ∷ [])).goes_on p ≡ Some (path_from after)
  call_goes site p = one_goes site call_statement (call site at x target via args hints after) (part-Call site at place x target via args hints after) p

  pub call_ends : (site : Site) → GoOnWhereTheyFall site (call_statement ∷ [])
  call_ends site p = ap is_some (call_goes site p) ∙ sym call_falls

  pub call_spans : (locals : List Name) (first next : ℕ) → Spans (call_blocks locals x target args first next) [] first (first + 2)
  call_spans locals first next =
      then_spans (leave_block locals target args first ∷ []) (back_block locals x (first + 1) next ∷ []) [] [] first 1 1
      (one_span (leave_block locals target args first) [] (λ y is. no_heads y is)) (one_span (back_block locals x (first + 1) next) [] (λ y is. no_heads y is))

  beyond : (first next : ℕ) → (next < first) ⊎ (first + 2 ≤ next) → (next < first) ⊎ (first + 1 + 1 ≤ next)
  beyond first next (inl p) = inl p
  beyond first next (inr p) = inr (subst (λ k. k ≤ next) (sym (add_assoc first 1 1)) p)

  pub call_keeps : (w : World) (c : FunctionSite) → IsAmong c.site.locals x.bytes × IsKnown c.site.locals target × AreKnown c.site.locals args × HasRoom w.decls c target via → AreDistinct c.site.locals
      → (places : ℕ → ℕ) (first next : ℕ) → (next < first) ⊎ (first + 2 ≤ next)
      → KeepStatements w c places (call_blocks c.site.locals x target args first next) [] first next (call_statement ∷ [])
  call_keeps w c fit distinct places first next out =
      keep_one w c places (call_blocks c.site.locals x target args first next) [] first next call_statement (call c.site at x target via args hints after) (part-Call c.site at place x target via args hints after)
      (λ from. call_law w c places distinct at x fit.0 target via fit.1 args fit.2 hints after fit.3 first next (beyond first next out) from)

  pub call_lay : (locals : List Name) (first next : ℕ) → LayStatements locals (call_blocks locals x target args first next) [] first next (call_statement ∷ [])
  call_lay locals first next =
      lay_one locals (call_blocks locals x target args first next) [] first next call_statement (table.call x target args) (piece-Call at place x target via args hints after) (call_lays locals x target args first next)
