-- Bodies with each `find` and `walk` in them, at any depth, written out. `find n, v for a in p of s as u, t keep A { B }` is
-- exactly these statements:
--
--   hint unfold lst at p; n <- p; hint fold lseg(p, n, _) case 1;
--   while n != 0 invariant exists u: seq, t: seq, (binders of A).
--       [s == app(u, t)] * [a notin u] * lseg(p, n, u) * lseg(n, 0, t) * (terms of A) {
--     hint unfold lseg at n; v <- [n]; if v = a { B }
--     v <- [n + 4]; hint fold lseg(v, v, _) case 1; hint fold lseg(n, v, _) case 2;
--     hint append p; n <- v;
--   }
--   hint unfold lseg at n; hint fold lst(p, _) case 1;
--
-- and `walk n, v in p of s as u, t keep A { B }` is the same without `[a notin u]` and with the statements of B in place of the
-- `if`. The statements that are made, their tests and the loop have the place of the token `find` or `walk`. Names, terms and
-- assertions that are made stand nowhere in the text: their places are 0.
use Rattle.std.specs.Prelude.{ℕ, Some, None, List, [], ◌∷◌, ◌++◌, map, codes}
use Rattle.bed_lang.specs.declared.word.Name.{Name}
use Rattle.bed_lang.specs.declared.word.Var.TheVariants as var
use Rattle.bed_lang.specs.declared.word.Seq as seq
use Rattle.bed_lang.specs.declared.logic.Arg.{Arg}
use Rattle.bed_lang.specs.declared.logic.Arg.TheVariants as arg
use Rattle.bed_lang.specs.declared.logic.Assertion.{Assertion}
use Rattle.bed_lang.specs.declared.module.Operand.TheVariants.{Local}
use Rattle.bed_lang.specs.declared.module.Test.{Test}
use Rattle.bed_lang.specs.declared.module.Hint.{Hint}
use Rattle.bed_lang.specs.declared.module.Hint.TheVariants.{Unfold, Fold, Append}
use Rattle.bed_lang.specs.declared.statement.Stmt.{Stmt, Stmt-F, fold-Stmt}
use Rattle.bed_lang.specs.declared.statement.StmtKind.{StmtKind, StmtKind-F, fold-StmtKind, Assign, Compute, Load, LoadByte, Store, StoreByte, Call, If, While, Return, Hint as HintStmt}
use Rattle.bed_lang.specs.Prelude.{name}
use Rattle.bed_table.specs.ListLoops.{word_named, list_invariant, not_yet, not_null, is_key, field_at}

-- arguments: a word variable, and a hole that stands for a sequence
abbrev pub word_arg : Name → Arg
word_arg x = arg.Word 0 (word_named x)

abbrev pub hole : Arg
hole = arg.Seq 0 (seq.Var var.Hole)

-- hint unfold P at x
abbrev pub unfold_at : List ℕ → Name → Hint
unfold_at predicate x = Unfold (name predicate) (Some (word_named x))

-- hint fold lseg(x, y, _) case c
abbrev pub fold_segment : Name → Name → ℕ → Hint
fold_segment x y c = Fold (name (codes "lseg")) (word_arg x ∷ word_arg y ∷ hole ∷ []) c

-- hint fold lst(x, _) case 1
abbrev pub fold_list : Name → Hint
fold_list x = Fold (name (codes "lst")) (word_arg x ∷ hole ∷ []) 1

-- what stands at a place, or is made for a `find` or `walk` whose token stands there
module _ (place : ℕ) where
  abbrev pub statement : StmtKind → Stmt
  statement kind = record { at = place; kind = kind }

  abbrev pub made_hint : Hint → Stmt
  made_hint h = statement (HintStmt h)

  abbrev pub made_test : Test → Test
  made_test t = record t { at = place }

  -- hint unfold lseg at n; v <- [n];
  abbrev pub node_front : Name → Name → List Stmt
  node_front n v = made_hint (unfold_at (codes "lseg") n) ∷ statement (Load v (field_at n 0)) ∷ []

  -- v <- [n + 4]; hint fold lseg(v, v, _) case 1; hint fold lseg(n, v, _) case 2; hint append p; n <- v;
  abbrev pub node_back : Name → Name → Name → List Stmt
  node_back n v p =
      statement (Load v (field_at n 4)) ∷ made_hint (fold_segment v v 1) ∷ made_hint (fold_segment n v 2)
      ∷ made_hint (Append (word_named p)) ∷ statement (Assign n (Local v)) ∷ []

  -- the whole, by the invariant and by the statements that visit a node
  abbrev pub list_loop : Name → Name → Name → Assertion → List Stmt → List Stmt
  list_loop n v p invariant visit =
      made_hint (unfold_at (codes "lst") p) ∷ statement (Assign n (Local p)) ∷ made_hint (fold_segment p n 1)
      ∷ statement (While (made_test (not_null n)) place invariant (node_front n v ++ (visit ++ node_back n v p)))
      ∷ made_hint (unfold_at (codes "lseg") n) ∷ made_hint (fold_list p) ∷ []

-- the statements of lists, one list after the other
abbrev pub joined : List (List Stmt) → List Stmt
joined [] = []
joined (body ∷ bodies) = body ++ joined bodies

-- the statements that a statement of a kind at a place stands for, over those that the statements in it stand for
abbrev pub written_kind_step : StmtKind-F (ℕ → List Stmt) (List Stmt) → ℕ → List Stmt
written_kind_step (StmtKind-F.Assign x a) at = statement at (Assign x a) ∷ []
written_kind_step (StmtKind-F.Compute x op a b) at = statement at (Compute x op a b) ∷ []
written_kind_step (StmtKind-F.Load x p) at = statement at (Load x p) ∷ []
written_kind_step (StmtKind-F.LoadByte x p) at = statement at (LoadByte x p) ∷ []
written_kind_step (StmtKind-F.Store p a) at = statement at (Store p a) ∷ []
written_kind_step (StmtKind-F.StoreByte p a) at = statement at (StoreByte p a) ∷ []
written_kind_step (StmtKind-F.Call place into target via args hints after) at = statement at (Call place into target via args hints after) ∷ []
written_kind_step (StmtKind-F.If test ys ns join) at = statement at (If test (joined ys) (joined ns) join) ∷ []
written_kind_step (StmtKind-F.While test place invariant body) at = statement at (While test place invariant (joined body)) ∷ []
written_kind_step (StmtKind-F.Return a) at = statement at (Return a) ∷ []
written_kind_step (StmtKind-F.Hint h) at = made_hint at h ∷ []
written_kind_step (StmtKind-F.Find n v a p s u t keep body) at =
    list_loop at n v p (list_invariant n p s u t (not_yet a u) keep) (statement at (If (made_test at (is_key v a)) (joined body) [] None) ∷ [])
written_kind_step (StmtKind-F.Walk n v p s u t keep body) at =
    list_loop at n v p (list_invariant n p s u t [] keep) (joined body)

abbrev pub written_step : Stmt-F (ℕ → List Stmt) (List Stmt) → List Stmt
written_step s = s.kind s.at

abbrev pub written_kind : StmtKind → ℕ → List Stmt
written_kind = fold-StmtKind (ℕ → List Stmt) (List Stmt) written_kind_step written_step

abbrev pub written_statement : Stmt → List Stmt
written_statement = fold-Stmt (ℕ → List Stmt) (List Stmt) written_kind_step written_step

-- the statements of a body, with each `find` and `walk` in them written out
abbrev pub written : List Stmt → List Stmt
written body = joined (map written_statement body)
