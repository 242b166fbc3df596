-- Statements, variant by variant: their tokens, and the trees with every place set to 0.
use Rattle.std.proofs.Common.{◌≡◌, ℕ, List, [], ◌∷◌, ◌++◌, map, Option, sym, ap, ◌∙◌, append_assoc}
use Rattle.bed_lang.specs.declared.word.Name.{Name}
use Rattle.bed_lang.specs.declared.word.Seq.{Seq}
use Rattle.bed_lang.specs.declared.logic.Assertion.{Assertion}
use Rattle.bed_lang.specs.declared.module.Operand.{Operand}
use Rattle.bed_lang.specs.declared.module.Op.{Op}
use Rattle.bed_lang.specs.declared.module.Place.{Place}
use Rattle.bed_lang.specs.declared.module.Test.{Test}
use Rattle.bed_lang.specs.declared.module.Hint.{Hint}
use Rattle.bed_lang.specs.declared.module.Join.{Join}
use Rattle.bed_lang.specs.declared.statement.Stmt.{Stmt, fold_out-Stmt}
use Rattle.bed_lang.specs.declared.statement.StmtKind.{StmtKind, StmtKind-F, fold-roll-StmtKind}
use Rattle.bed_lang.specs.declared.statement.StmtKind as stmt
use Rattle.bed_lang.specs.declared.statement.StmtKind.TheVariants.{rolls-Assign, rolls-Compute, rolls-Load, rolls-LoadByte, rolls-Store, rolls-StoreByte, rolls-Call, rolls-If, rolls-While, rolls-Return, rolls-Hint, rolls-Find, rolls-Walk}
use Rattle.bed_lex.specs.declared.token.Kind.{Kind}
use Rattle.bed_lex.specs.declared.token.Kind.TheVariants as kind
use Rattle.bed_read.specs.Classes.{IF, WHILE, INVARIANT, RETURN, BYTE, FIND, WALK, FOR, HINT, SEMICOLON, COMMA, ASSIGN, LEFT_BRACKET, RIGHT_BRACKET}
use Rattle.bed_print.specs.Kinds.{fixed, kind_step, stmt_step, stmt_kinds, stmt_kind_kinds, body_kinds, else_kinds, operand_kinds, op_kind, place_kinds, test_kinds, hint_kinds, join_kinds, assertion_kinds, over_kinds, call_kinds}
use Rattle.bed_print.proofs.Places.{bare_option, bare_name, bare_seq, bare_assertion, bare_operand, bare_place, bare_test, bare_hint, bare_join, bare_kind_step, bare_stmt_step, bare_stmt, bare_stmt_kind}

-- ---- tokens

-- a statement has the tokens of its kind
pub stmt_kinds-of : (s : Stmt) (ks : List Kind) → stmt_kind_kinds s.kind ≡ ks → stmt_kinds s ≡ ks
stmt_kinds-of s ks e = fold_out-Stmt (List Kind) (List Kind) kind_step stmt_step s ∙ e

pub kinds-Assign : (x : Name) (a : Operand) → stmt_kind_kinds (stmt.Assign x a) ≡ kind.Name x ∷ fixed ASSIGN ∷ (operand_kinds a ++ fixed SEMICOLON ∷ [])
kinds-Assign x a =
    ap stmt_kind_kinds (sym (rolls-Assign x a)) ∙ fold-roll-StmtKind (List Kind) (List Kind) kind_step stmt_step (StmtKind-F.Assign x a)

pub kinds-Compute : (x : Name) (o : Op) (a b : Operand) → stmt_kind_kinds (stmt.Compute x o a b) ≡ kind.Name x ∷ fixed ASSIGN ∷ ((operand_kinds a ++ op_kind o ∷ operand_kinds b) ++ fixed SEMICOLON ∷ [])
kinds-Compute x o a b =
    ap stmt_kind_kinds (sym (rolls-Compute x o a b)) ∙ fold-roll-StmtKind (List Kind) (List Kind) kind_step stmt_step (StmtKind-F.Compute x o a b)

pub kinds-Load : (x : Name) (p : Place) → stmt_kind_kinds (stmt.Load x p) ≡ kind.Name x ∷ fixed ASSIGN ∷ fixed LEFT_BRACKET ∷ (place_kinds p ++ fixed RIGHT_BRACKET ∷ fixed SEMICOLON ∷ [])
kinds-Load x p =
    ap stmt_kind_kinds (sym (rolls-Load x p)) ∙ fold-roll-StmtKind (List Kind) (List Kind) kind_step stmt_step (StmtKind-F.Load x p)

pub kinds-LoadByte : (x : Name) (p : Place) → stmt_kind_kinds (stmt.LoadByte x p) ≡ kind.Name x ∷ fixed ASSIGN ∷ fixed BYTE ∷ fixed LEFT_BRACKET ∷ (place_kinds p ++ fixed RIGHT_BRACKET ∷ fixed SEMICOLON ∷ [])
kinds-LoadByte x p =
    ap stmt_kind_kinds (sym (rolls-LoadByte x p)) ∙ fold-roll-StmtKind (List Kind) (List Kind) kind_step stmt_step (StmtKind-F.LoadByte x p)

pub kinds-Store : (p : Place) (a : Operand) → stmt_kind_kinds (stmt.Store p a) ≡ fixed LEFT_BRACKET ∷ (place_kinds p ++ fixed RIGHT_BRACKET ∷ fixed ASSIGN ∷ (operand_kinds a ++ fixed SEMICOLON ∷ []))
kinds-Store p a =
    ap stmt_kind_kinds (sym (rolls-Store p a)) ∙ fold-roll-StmtKind (List Kind) (List Kind) kind_step stmt_step (StmtKind-F.Store p a)

pub kinds-StoreByte : (p : Place) (a : Operand) → stmt_kind_kinds (stmt.StoreByte p a) ≡ fixed BYTE ∷ fixed LEFT_BRACKET ∷ (place_kinds p ++ fixed RIGHT_BRACKET ∷ fixed ASSIGN ∷ (operand_kinds a ++ fixed SEMICOLON ∷ []))
kinds-StoreByte p a =
    ap stmt_kind_kinds (sym (rolls-StoreByte p a)) ∙ fold-roll-StmtKind (List Kind) (List Kind) kind_step stmt_step (StmtKind-F.StoreByte p a)

pub kinds-Call : (at : ℕ) (x : Name) (t : Operand) (v : Option Name) (xs : List Operand) (hs : List Hint) (after : Assertion) → stmt_kind_kinds (stmt.Call at x t v xs hs after) ≡ kind.Name x ∷ fixed ASSIGN ∷ (call_kinds t v xs hs after ++ fixed SEMICOLON ∷ [])
kinds-Call at x t v xs hs after =
    ap stmt_kind_kinds (sym (rolls-Call at x t v xs hs after)) ∙ fold-roll-StmtKind (List Kind) (List Kind) kind_step stmt_step (StmtKind-F.Call at x t v xs hs after)

pub kinds-If : (t : Test) (ys ns : List Stmt) (j : Option Join) → stmt_kind_kinds (stmt.If t ys ns j) ≡ fixed IF ∷ (test_kinds t ++ (body_kinds ys ++ (else_kinds ns ++ join_kinds j)))
kinds-If t ys ns j =
    ap stmt_kind_kinds (sym (rolls-If t ys ns j)) ∙ fold-roll-StmtKind (List Kind) (List Kind) kind_step stmt_step (StmtKind-F.If t ys ns j)

pub kinds-While : (t : Test) (at : ℕ) (inv : Assertion) (body : List Stmt) → stmt_kind_kinds (stmt.While t at inv body) ≡ fixed WHILE ∷ (test_kinds t ++ fixed INVARIANT ∷ (assertion_kinds inv ++ body_kinds body))
kinds-While t at inv body =
    ap stmt_kind_kinds (sym (rolls-While t at inv body)) ∙ fold-roll-StmtKind (List Kind) (List Kind) kind_step stmt_step (StmtKind-F.While t at inv body)

pub kinds-Return : (a : Operand) → stmt_kind_kinds (stmt.Return a) ≡ fixed RETURN ∷ (operand_kinds a ++ fixed SEMICOLON ∷ [])
kinds-Return a =
    ap stmt_kind_kinds (sym (rolls-Return a)) ∙ fold-roll-StmtKind (List Kind) (List Kind) kind_step stmt_step (StmtKind-F.Return a)

pub kinds-Hint : (h : Hint) → stmt_kind_kinds (stmt.Hint h) ≡ fixed HINT ∷ (hint_kinds h ++ fixed SEMICOLON ∷ [])
kinds-Hint h =
    ap stmt_kind_kinds (sym (rolls-Hint h)) ∙ fold-roll-StmtKind (List Kind) (List Kind) kind_step stmt_step (StmtKind-F.Hint h)

pub kinds-Find : (n v : Name) (k : Operand) (p : Name) (s : Seq) (u t : Name) (keep : Assertion) (body : List Stmt) → stmt_kind_kinds (stmt.Find n v k p s u t keep body) ≡ fixed FIND ∷ kind.Name n ∷ fixed COMMA ∷ kind.Name v ∷ fixed FOR ∷ (operand_kinds k ++ (over_kinds p s u t keep ++ body_kinds body))
kinds-Find n v k p s u t keep body =
    ap stmt_kind_kinds (sym (rolls-Find n v k p s u t keep body)) ∙ fold-roll-StmtKind (List Kind) (List Kind) kind_step stmt_step (StmtKind-F.Find n v k p s u t keep body)
    ∙ ap (λ z. fixed FIND ∷ kind.Name n ∷ fixed COMMA ∷ kind.Name v ∷ fixed FOR ∷ z) (append_assoc (operand_kinds k) (over_kinds p s u t keep) (body_kinds body))

pub kinds-Walk : (n v p : Name) (s : Seq) (u t : Name) (keep : Assertion) (body : List Stmt) → stmt_kind_kinds (stmt.Walk n v p s u t keep body) ≡ fixed WALK ∷ kind.Name n ∷ fixed COMMA ∷ kind.Name v ∷ (over_kinds p s u t keep ++ body_kinds body)
kinds-Walk n v p s u t keep body =
    ap stmt_kind_kinds (sym (rolls-Walk n v p s u t keep body)) ∙ fold-roll-StmtKind (List Kind) (List Kind) kind_step stmt_step (StmtKind-F.Walk n v p s u t keep body)

-- ---- places

pub bare_stmt-of : (s : Stmt) (k : StmtKind) → bare_stmt_kind s.kind ≡ k → bare_stmt s ≡ record { at = 0; kind = k }
bare_stmt-of s k e = fold_out-Stmt StmtKind Stmt bare_kind_step bare_stmt_step s ∙ ap at_zero e
  where
    at_zero : StmtKind → Stmt
    at_zero z = record { at = 0; kind = z }

pub bare-Assign : (x : Name) (a : Operand) → bare_stmt_kind (stmt.Assign x a) ≡ stmt.Assign (bare_name x) (bare_operand a)
bare-Assign x a = ap bare_stmt_kind (sym (rolls-Assign x a)) ∙ fold-roll-StmtKind StmtKind Stmt bare_kind_step bare_stmt_step (StmtKind-F.Assign x a)

pub bare-Compute : (x : Name) (o : Op) (a b : Operand) → bare_stmt_kind (stmt.Compute x o a b) ≡ stmt.Compute (bare_name x) o (bare_operand a) (bare_operand b)
bare-Compute x o a b = ap bare_stmt_kind (sym (rolls-Compute x o a b)) ∙ fold-roll-StmtKind StmtKind Stmt bare_kind_step bare_stmt_step (StmtKind-F.Compute x o a b)

pub bare-Load : (x : Name) (p : Place) → bare_stmt_kind (stmt.Load x p) ≡ stmt.Load (bare_name x) (bare_place p)
bare-Load x p = ap bare_stmt_kind (sym (rolls-Load x p)) ∙ fold-roll-StmtKind StmtKind Stmt bare_kind_step bare_stmt_step (StmtKind-F.Load x p)

pub bare-LoadByte : (x : Name) (p : Place) → bare_stmt_kind (stmt.LoadByte x p) ≡ stmt.LoadByte (bare_name x) (bare_place p)
bare-LoadByte x p = ap bare_stmt_kind (sym (rolls-LoadByte x p)) ∙ fold-roll-StmtKind StmtKind Stmt bare_kind_step bare_stmt_step (StmtKind-F.LoadByte x p)

pub bare-Store : (p : Place) (a : Operand) → bare_stmt_kind (stmt.Store p a) ≡ stmt.Store (bare_place p) (bare_operand a)
bare-Store p a = ap bare_stmt_kind (sym (rolls-Store p a)) ∙ fold-roll-StmtKind StmtKind Stmt bare_kind_step bare_stmt_step (StmtKind-F.Store p a)

pub bare-StoreByte : (p : Place) (a : Operand) → bare_stmt_kind (stmt.StoreByte p a) ≡ stmt.StoreByte (bare_place p) (bare_operand a)
bare-StoreByte p a = ap bare_stmt_kind (sym (rolls-StoreByte p a)) ∙ fold-roll-StmtKind StmtKind Stmt bare_kind_step bare_stmt_step (StmtKind-F.StoreByte p a)

pub bare-Call : (at : ℕ) (x : Name) (t : Operand) (v : Option Name) (xs : List Operand) (hs : List Hint) (after : Assertion) → bare_stmt_kind (stmt.Call at x t v xs hs after) ≡ stmt.Call 0 (bare_name x) (bare_operand t) (bare_option bare_name v) (map bare_operand xs) (map bare_hint hs) (bare_assertion after)
bare-Call at x t v xs hs after = ap bare_stmt_kind (sym (rolls-Call at x t v xs hs after)) ∙ fold-roll-StmtKind StmtKind Stmt bare_kind_step bare_stmt_step (StmtKind-F.Call at x t v xs hs after)

pub bare-If : (t : Test) (ys ns : List Stmt) (j : Option Join) → bare_stmt_kind (stmt.If t ys ns j) ≡ stmt.If (bare_test t) (map bare_stmt ys) (map bare_stmt ns) (bare_option bare_join j)
bare-If t ys ns j = ap bare_stmt_kind (sym (rolls-If t ys ns j)) ∙ fold-roll-StmtKind StmtKind Stmt bare_kind_step bare_stmt_step (StmtKind-F.If t ys ns j)

pub bare-While : (t : Test) (at : ℕ) (inv : Assertion) (body : List Stmt) → bare_stmt_kind (stmt.While t at inv body) ≡ stmt.While (bare_test t) 0 (bare_assertion inv) (map bare_stmt body)
bare-While t at inv body = ap bare_stmt_kind (sym (rolls-While t at inv body)) ∙ fold-roll-StmtKind StmtKind Stmt bare_kind_step bare_stmt_step (StmtKind-F.While t at inv body)

pub bare-Return : (a : Operand) → bare_stmt_kind (stmt.Return a) ≡ stmt.Return (bare_operand a)
bare-Return a = ap bare_stmt_kind (sym (rolls-Return a)) ∙ fold-roll-StmtKind StmtKind Stmt bare_kind_step bare_stmt_step (StmtKind-F.Return a)

pub bare-Hint : (h : Hint) → bare_stmt_kind (stmt.Hint h) ≡ stmt.Hint (bare_hint h)
bare-Hint h = ap bare_stmt_kind (sym (rolls-Hint h)) ∙ fold-roll-StmtKind StmtKind Stmt bare_kind_step bare_stmt_step (StmtKind-F.Hint h)

pub bare-Find : (n v : Name) (k : Operand) (p : Name) (s : Seq) (u t : Name) (keep : Assertion) (body : List Stmt) → bare_stmt_kind (stmt.Find n v k p s u t keep body) ≡ stmt.Find (bare_name n) (bare_name v) (bare_operand k) (bare_name p) (bare_seq s) (bare_name u) (bare_name t) (bare_assertion keep) (map bare_stmt body)
bare-Find n v k p s u t keep body = ap bare_stmt_kind (sym (rolls-Find n v k p s u t keep body)) ∙ fold-roll-StmtKind StmtKind Stmt bare_kind_step bare_stmt_step (StmtKind-F.Find n v k p s u t keep body)

pub bare-Walk : (n v p : Name) (s : Seq) (u t : Name) (keep : Assertion) (body : List Stmt) → bare_stmt_kind (stmt.Walk n v p s u t keep body) ≡ stmt.Walk (bare_name n) (bare_name v) (bare_name p) (bare_seq s) (bare_name u) (bare_name t) (bare_assertion keep) (map bare_stmt body)
bare-Walk n v p s u t keep body = ap bare_stmt_kind (sym (rolls-Walk n v p s u t keep body)) ∙ fold-roll-StmtKind StmtKind Stmt bare_kind_step bare_stmt_step (StmtKind-F.Walk n v p s u t keep body)
