-- What is written out for each kind of statement, and what a path makes of it, as equations.
use Rattle.std.proofs.Common.{◌≡◌, ℕ, Option, None, List, [], ◌∷◌, sym, ◌∙◌, ap}
use Rattle.bed_lang.specs.declared.word.Name.{Name}
use Rattle.bed_lang.specs.declared.word.Seq.{Seq}
use Rattle.bed_lang.specs.declared.logic.Assertion.{Assertion}
use Rattle.bed_lang.specs.declared.module.Op.{Op}
use Rattle.bed_lang.specs.declared.module.Operand.{Operand}
use Rattle.bed_lang.specs.declared.module.Place.{Place}
use Rattle.bed_lang.specs.declared.module.Test.{Test}
use Rattle.bed_lang.specs.declared.module.Hint.{Hint}
use Rattle.bed_lang.specs.declared.module.Join.{Join}
use Rattle.bed_lang.specs.declared.module.Action.TheVariants as action
use Rattle.bed_lang.specs.declared.statement.Stmt.{Stmt, fold_out-Stmt}
use Rattle.bed_lang.specs.declared.statement.StmtKind.{StmtKind, StmtKind-F, roll-StmtKind, map-StmtKind, fold-roll-StmtKind, Assign, Compute, Load, LoadByte, Store, StoreByte, Call, If, While, Return, Hint as HintStmt, Find, Walk}
use Rattle.bed_lang.specs.declared.statement.StmtKind.TheVariants.{rolls-Assign, rolls-Compute, rolls-Load, rolls-LoadByte, rolls-Store, rolls-StoreByte, rolls-Call, rolls-If, rolls-While, rolls-Return, rolls-Hint, rolls-Find, rolls-Walk}
use Rattle.bed_table.specs.ListLoops.{list_invariant, not_yet, is_key}
use Rattle.bed_sat.specs.Written.{statement, made_hint, made_test, list_loop, written_kind_step, written_step, written_kind, written_statement, written}
use Rattle.bed_sat.specs.Conditions.{Site, Part, straight, then_action, then_hint, part_step, call, loop, choice, answer, kind_part_step, kind_part, statement_part, body_part}

-- ---- what is written out

written_roll : (x : StmtKind-F StmtKind Stmt) (at : ℕ) (k : StmtKind) → roll-StmtKind x ≡ k
    → written_statement (record { at = at; kind = k }) ≡ written_kind_step (map-StmtKind _ _ _ _ written_kind written_statement x) at
written_roll x at k e =
    fold_out-Stmt (ℕ → List Stmt) (List Stmt) written_kind_step written_step (record { at = at; kind = k })
    ∙ ap (λ f. f at) (ap written_kind (sym e) ∙ fold-roll-StmtKind (ℕ → List Stmt) (List Stmt) written_kind_step written_step x)

pub written-Assign : (at : ℕ) (x : Name) (a : Operand) → written_statement (record { at = at; kind = Assign x a }) ≡ statement at (Assign x a) ∷ []
written-Assign at x a = written_roll (StmtKind-F.Assign x a) at _ (rolls-Assign x a)

pub written-Compute : (at : ℕ) (x : Name) (op : Op) (a b : Operand) → written_statement (record { at = at; kind = Compute x op a b }) ≡ statement at (Compute x op a b) ∷ []
written-Compute at x op a b = written_roll (StmtKind-F.Compute x op a b) at _ (rolls-Compute x op a b)

pub written-Load : (at : ℕ) (x : Name) (p : Place) → written_statement (record { at = at; kind = Load x p }) ≡ statement at (Load x p) ∷ []
written-Load at x p = written_roll (StmtKind-F.Load x p) at _ (rolls-Load x p)

pub written-LoadByte : (at : ℕ) (x : Name) (p : Place) → written_statement (record { at = at; kind = LoadByte x p }) ≡ statement at (LoadByte x p) ∷ []
written-LoadByte at x p = written_roll (StmtKind-F.LoadByte x p) at _ (rolls-LoadByte x p)

pub written-Store : (at : ℕ) (p : Place) (a : Operand) → written_statement (record { at = at; kind = Store p a }) ≡ statement at (Store p a) ∷ []
written-Store at p a = written_roll (StmtKind-F.Store p a) at _ (rolls-Store p a)

pub written-StoreByte : (at : ℕ) (p : Place) (a : Operand) → written_statement (record { at = at; kind = StoreByte p a }) ≡ statement at (StoreByte p a) ∷ []
written-StoreByte at p a = written_roll (StmtKind-F.StoreByte p a) at _ (rolls-StoreByte p a)

pub written-Call : (at place : ℕ) (x : Name) (t : Operand) (v : Option Name) (as' : List Operand) (hs : List Hint) (A : Assertion)
    → written_statement (record { at = at; kind = Call place x t v as' hs A }) ≡ statement at (Call place x t v as' hs A) ∷ []
written-Call at place x t v as' hs A = written_roll (StmtKind-F.Call place x t v as' hs A) at _ (rolls-Call place x t v as' hs A)

pub written-If : (at : ℕ) (t : Test) (ys ns : List Stmt) (j : Option Join)
    → written_statement (record { at = at; kind = If t ys ns j }) ≡ statement at (If t (written ys) (written ns) j) ∷ []
written-If at t ys ns j = written_roll (StmtKind-F.If t ys ns j) at _ (rolls-If t ys ns j)

pub written-While : (at : ℕ) (t : Test) (place : ℕ) (A : Assertion) (body : List Stmt)
    → written_statement (record { at = at; kind = While t place A body }) ≡ statement at (While t place A (written body)) ∷ []
written-While at t place A body = written_roll (StmtKind-F.While t place A body) at _ (rolls-While t place A body)

pub written-Return : (at : ℕ) (a : Operand) → written_statement (record { at = at; kind = Return a }) ≡ statement at (Return a) ∷ []
written-Return at a = written_roll (StmtKind-F.Return a) at _ (rolls-Return a)

pub written-Hint : (at : ℕ) (h : Hint) → written_statement (record { at = at; kind = HintStmt h }) ≡ made_hint at h ∷ []
written-Hint at h = written_roll (StmtKind-F.Hint h) at _ (rolls-Hint h)

pub written-Find : (at : ℕ) (n v : Name) (a : Operand) (p : Name) (s : Seq) (u t : Name) (keep : Assertion) (body : List Stmt)
    → written_statement (record { at = at; kind = Find n v a p s u t keep body })
    ≡ list_loop at n v p (list_invariant n p s u t (not_yet a u) keep) (statement at (If (made_test at (is_key v a)) (written body) [] None) ∷ [])
written-Find at n v a p s u t keep body = written_roll (StmtKind-F.Find n v a p s u t keep body) at _ (rolls-Find n v a p s u t keep body)

pub written-Walk : (at : ℕ) (n v p : Name) (s : Seq) (u t : Name) (keep : Assertion) (body : List Stmt)
    → written_statement (record { at = at; kind = Walk n v p s u t keep body })
    ≡ list_loop at n v p (list_invariant n p s u t [] keep) (written body)
written-Walk at n v p s u t keep body = written_roll (StmtKind-F.Walk n v p s u t keep body) at _ (rolls-Walk n v p s u t keep body)

-- ---- what a path makes of a statement

module _ (site : Site) where
  part_roll : (x : StmtKind-F StmtKind Stmt) (at : ℕ) (k : StmtKind) → roll-StmtKind x ≡ k
      → statement_part site (record { at = at; kind = k }) ≡ kind_part_step site (map-StmtKind _ _ _ _ (kind_part site) (statement_part site) x) at
  part_roll x at k e =
      fold_out-Stmt (ℕ → Part) Part (kind_part_step site) part_step (record { at = at; kind = k })
      ∙ ap (λ f. f at) (ap (kind_part site) (sym e) ∙ fold-roll-StmtKind (ℕ → Part) Part (kind_part_step site) part_step x)

  pub part-Assign : (at : ℕ) (x : Name) (a : Operand) → statement_part site (record { at = at; kind = Assign x a }) ≡ straight (then_action (action.Assign x a))
  part-Assign at x a = part_roll (StmtKind-F.Assign x a) at _ (rolls-Assign x a)

  pub part-Compute : (at : ℕ) (x : Name) (op : Op) (a b : Operand)
      → statement_part site (record { at = at; kind = Compute x op a b }) ≡ straight (then_action (action.Compute x op a b))
  part-Compute at x op a b = part_roll (StmtKind-F.Compute x op a b) at _ (rolls-Compute x op a b)

  pub part-Load : (at : ℕ) (x : Name) (p : Place) → statement_part site (record { at = at; kind = Load x p }) ≡ straight (then_action (action.Load x p))
  part-Load at x p = part_roll (StmtKind-F.Load x p) at _ (rolls-Load x p)

  pub part-LoadByte : (at : ℕ) (x : Name) (p : Place) → statement_part site (record { at = at; kind = LoadByte x p }) ≡ straight (then_action (action.LoadByte x p))
  part-LoadByte at x p = part_roll (StmtKind-F.LoadByte x p) at _ (rolls-LoadByte x p)

  pub part-Store : (at : ℕ) (p : Place) (a : Operand) → statement_part site (record { at = at; kind = Store p a }) ≡ straight (then_action (action.Store p a))
  part-Store at p a = part_roll (StmtKind-F.Store p a) at _ (rolls-Store p a)

  pub part-StoreByte : (at : ℕ) (p : Place) (a : Operand)
      → statement_part site (record { at = at; kind = StoreByte p a }) ≡ straight (then_action (action.StoreByte p a))
  part-StoreByte at p a = part_roll (StmtKind-F.StoreByte p a) at _ (rolls-StoreByte p a)

  pub part-Call : (at place : ℕ) (x : Name) (t : Operand) (v : Option Name) (as' : List Operand) (hs : List Hint) (A : Assertion)
      → statement_part site (record { at = at; kind = Call place x t v as' hs A }) ≡ call site at x t v as' hs A
  part-Call at place x t v as' hs A = part_roll (StmtKind-F.Call place x t v as' hs A) at _ (rolls-Call place x t v as' hs A)

  pub part-If : (at : ℕ) (t : Test) (ys ns : List Stmt) (j : Option Join)
      → statement_part site (record { at = at; kind = If t ys ns j }) ≡ choice site t (body_part site ys) (body_part site ns) j
  part-If at t ys ns j = part_roll (StmtKind-F.If t ys ns j) at _ (rolls-If t ys ns j)

  pub part-While : (at : ℕ) (t : Test) (place : ℕ) (A : Assertion) (body : List Stmt)
      → statement_part site (record { at = at; kind = While t place A body }) ≡ loop site t place A (body_part site body)
  part-While at t place A body = part_roll (StmtKind-F.While t place A body) at _ (rolls-While t place A body)

  pub part-Return : (at : ℕ) (a : Operand) → statement_part site (record { at = at; kind = Return a }) ≡ answer site at a
  part-Return at a = part_roll (StmtKind-F.Return a) at _ (rolls-Return a)

  pub part-Hint : (at : ℕ) (h : Hint) → statement_part site (record { at = at; kind = HintStmt h }) ≡ straight (then_hint h)
  part-Hint at h = part_roll (StmtKind-F.Hint h) at _ (rolls-Hint h)
