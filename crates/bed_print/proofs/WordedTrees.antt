-- Statements with brackets round names that stand for words, variant by variant.
use Rattle.std.proofs.Common.{◌≡◌, ℕ, List, map, Option, sym, ap, ◌∙◌}
use Rattle.bed_lang.specs.declared.word.Name.{Name}
use Rattle.bed_lang.specs.declared.word.Seq.{Seq}
use Rattle.bed_lang.specs.declared.logic.Assertion.{Assertion}
use Rattle.bed_lang.specs.declared.module.Operand.{Operand}
use Rattle.bed_lang.specs.declared.module.Op.{Op}
use Rattle.bed_lang.specs.declared.module.Place.{Place}
use Rattle.bed_lang.specs.declared.module.Test.{Test}
use Rattle.bed_lang.specs.declared.module.Hint.{Hint}
use Rattle.bed_lang.specs.declared.module.Join.{Join}
use Rattle.bed_lang.specs.declared.statement.Stmt.{Stmt, fold_out-Stmt}
use Rattle.bed_lang.specs.declared.statement.StmtKind.{StmtKind, StmtKind-F, map-StmtKind, roll-StmtKind, fold-roll-StmtKind}
use Rattle.bed_lang.specs.declared.statement.StmtKind as stmt
use Rattle.bed_lang.specs.declared.statement.StmtKind.TheVariants.{rolls-Assign, rolls-Compute, rolls-Load, rolls-LoadByte, rolls-Store, rolls-StoreByte, rolls-Call, rolls-If, rolls-While, rolls-Return, rolls-Hint, rolls-Find, rolls-Walk}
use Rattle.bed_names.specs.Terms.{Visible}
use Rattle.bed_print.proofs.Worded.{worded_step, worded_stmt_step, worded_kind, worded_stmt, worded_hint, worded_assertion, worded_keep, worded_join}

module _ (v : Visible) where
  -- a statement whose kind is this one
  pub worded-of : (at : ℕ) (k l : StmtKind) → worded_kind v k ≡ l → worded_stmt v (record { at = at; kind = k }) ≡ record { at = at; kind = l }
  worded-of at k l e =
      fold_out-Stmt StmtKind Stmt (worded_step v) (worded_stmt_step v) (record { at = at; kind = k })
      ∙ ap standing e
    where
      standing : StmtKind → Stmt
      standing z = record { at = at; kind = z }

  unrolled : (x : StmtKind-F StmtKind Stmt) (k : StmtKind) → roll-StmtKind x ≡ k
      → worded_kind v k ≡ worded_step v (map-StmtKind StmtKind Stmt StmtKind Stmt (worded_kind v) (worded_stmt v) x)
  unrolled x k e = ap (worded_kind v) (sym e) ∙ fold-roll-StmtKind StmtKind Stmt (worded_step v) (worded_stmt_step v) x

  pub worded-Assign : (x : Name) (a : Operand) → worded_kind v (stmt.Assign x a) ≡ stmt.Assign x a
  worded-Assign x a = unrolled (StmtKind-F.Assign x a) _ (rolls-Assign x a)

  pub worded-Compute : (x : Name) (o : Op) (a b : Operand) → worded_kind v (stmt.Compute x o a b) ≡ stmt.Compute x o a b
  worded-Compute x o a b = unrolled (StmtKind-F.Compute x o a b) _ (rolls-Compute x o a b)

  pub worded-Load : (x : Name) (p : Place) → worded_kind v (stmt.Load x p) ≡ stmt.Load x p
  worded-Load x p = unrolled (StmtKind-F.Load x p) _ (rolls-Load x p)

  pub worded-LoadByte : (x : Name) (p : Place) → worded_kind v (stmt.LoadByte x p) ≡ stmt.LoadByte x p
  worded-LoadByte x p = unrolled (StmtKind-F.LoadByte x p) _ (rolls-LoadByte x p)

  pub worded-Store : (p : Place) (a : Operand) → worded_kind v (stmt.Store p a) ≡ stmt.Store p a
  worded-Store p a = unrolled (StmtKind-F.Store p a) _ (rolls-Store p a)

  pub worded-StoreByte : (p : Place) (a : Operand) → worded_kind v (stmt.StoreByte p a) ≡ stmt.StoreByte p a
  worded-StoreByte p a = unrolled (StmtKind-F.StoreByte p a) _ (rolls-StoreByte p a)

  pub worded-Call : (at : ℕ) (x : Name) (t : Operand) (via : Option Name) (xs : List Operand) (hs : List Hint) (after : Assertion)
      → worded_kind v (stmt.Call at x t via xs hs after) ≡ stmt.Call at x t via xs (map (worded_hint v) hs) (worded_assertion v after)
  worded-Call at x t via xs hs after = unrolled (StmtKind-F.Call at x t via xs hs after) _ (rolls-Call at x t via xs hs after)

  pub worded-If : (t : Test) (ys ns : List Stmt) (j : Option Join)
      → worded_kind v (stmt.If t ys ns j) ≡ stmt.If t (map (worded_stmt v) ys) (map (worded_stmt v) ns) (worded_join v j)
  worded-If t ys ns j = unrolled (StmtKind-F.If t ys ns j) _ (rolls-If t ys ns j)

  pub worded-While : (t : Test) (at : ℕ) (inv : Assertion) (body : List Stmt)
      → worded_kind v (stmt.While t at inv body) ≡ stmt.While t at (worded_assertion v inv) (map (worded_stmt v) body)
  worded-While t at inv body = unrolled (StmtKind-F.While t at inv body) _ (rolls-While t at inv body)

  pub worded-Return : (a : Operand) → worded_kind v (stmt.Return a) ≡ stmt.Return a
  worded-Return a = unrolled (StmtKind-F.Return a) _ (rolls-Return a)

  pub worded-Hint : (h : Hint) → worded_kind v (stmt.Hint h) ≡ stmt.Hint (worded_hint v h)
  worded-Hint h = unrolled (StmtKind-F.Hint h) _ (rolls-Hint h)

  pub worded-Find : (n x : Name) (k : Operand) (p : Name) (s : Seq) (u t : Name) (keep : Assertion) (body : List Stmt)
      → worded_kind v (stmt.Find n x k p s u t keep body) ≡ stmt.Find n x k p s u t (worded_keep v u t keep) (map (worded_stmt v) body)
  worded-Find n x k p s u t keep body = unrolled (StmtKind-F.Find n x k p s u t keep body) _ (rolls-Find n x k p s u t keep body)

  pub worded-Walk : (n x p : Name) (s : Seq) (u t : Name) (keep : Assertion) (body : List Stmt)
      → worded_kind v (stmt.Walk n x p s u t keep body) ≡ stmt.Walk n x p s u t (worded_keep v u t keep) (map (worded_stmt v) body)
  worded-Walk n x p s u t keep body = unrolled (StmtKind-F.Walk n x p s u t keep body) _ (rolls-Walk n x p s u t keep body)
