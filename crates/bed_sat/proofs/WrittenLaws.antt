-- In what is written out no `find` and no `walk` is left.
use Rattle.std.proofs.Common.{◌≡◌, ℕ, Bool, true, false, ◌&&◌, Option, None, List, [], ◌∷◌, ◌++◌, map, refl, sym, ◌∙◌, ap, ap₂, subst}
use Rattle.bed_lang.specs.declared.word.Name.{Name}
use Rattle.bed_lang.specs.declared.logic.Assertion.{Assertion}
use Rattle.bed_lang.specs.declared.module.Op.{Op}
use Rattle.bed_lang.specs.declared.module.Operand.{Operand}
use Rattle.bed_lang.specs.declared.module.Place.{Place}
use Rattle.bed_lang.specs.declared.module.Test.{Test}
use Rattle.bed_lang.specs.declared.module.Hint.{Hint}
use Rattle.bed_lang.specs.declared.module.Join.{Join}
use Rattle.bed_lang.specs.declared.statement.Stmt.{Stmt, ind-Stmt, fold-roll-Stmt, fold_out-Stmt}
use Rattle.bed_lang.specs.declared.statement.StmtKind.{StmtKind, StmtKind-F, roll-StmtKind, map-StmtKind, fold-roll-StmtKind, Assign, Compute, Load, LoadByte, Store, StoreByte, Call, If, While, Return, Hint as HintStmt}
use Rattle.bed_lang.specs.declared.statement.StmtKind.TheVariants.{rolls-Assign, rolls-Compute, rolls-Load, rolls-LoadByte, rolls-Store, rolls-StoreByte, rolls-Call, rolls-If, rolls-While, rolls-Return, rolls-Hint}
use Rattle.bed_table.specs.ListLoops.{not_null, is_key}
use Rattle.bed_sat.specs.Written.{statement, made_test, node_front, node_back, list_loop, joined, written_kind_step, written_step, written_kind, written_statement, written}
use Rattle.bed_sat.specs.ConditionLaws.{plain_kind_step, plain_step, plain_kind, plain_statement, is_plain, ListLoopsAreWritten}

plain_roll : (x : StmtKind-F StmtKind Stmt) (at : ℕ) (k : StmtKind) → roll-StmtKind x ≡ k
    → plain_statement (statement at k) ≡ plain_kind_step (map-StmtKind _ _ _ _ plain_kind plain_statement x)
plain_roll x at k e =
    fold_out-Stmt Bool Bool plain_kind_step plain_step (statement at k)
    ∙ (ap plain_kind (sym e) ∙ fold-roll-StmtKind Bool Bool plain_kind_step plain_step x)

plain-Assign : (at : ℕ) (x : Name) (a : Operand) → plain_statement (statement at (Assign x a)) ≡ true
plain-Assign at x a = plain_roll (StmtKind-F.Assign x a) at _ (rolls-Assign x a)

plain-Compute : (at : ℕ) (x : Name) (op : Op) (a b : Operand) → plain_statement (statement at (Compute x op a b)) ≡ true
plain-Compute at x op a b = plain_roll (StmtKind-F.Compute x op a b) at _ (rolls-Compute x op a b)

plain-Load : (at : ℕ) (x : Name) (p : Place) → plain_statement (statement at (Load x p)) ≡ true
plain-Load at x p = plain_roll (StmtKind-F.Load x p) at _ (rolls-Load x p)

plain-LoadByte : (at : ℕ) (x : Name) (p : Place) → plain_statement (statement at (LoadByte x p)) ≡ true
plain-LoadByte at x p = plain_roll (StmtKind-F.LoadByte x p) at _ (rolls-LoadByte x p)

plain-Store : (at : ℕ) (p : Place) (a : Operand) → plain_statement (statement at (Store p a)) ≡ true
plain-Store at p a = plain_roll (StmtKind-F.Store p a) at _ (rolls-Store p a)

plain-StoreByte : (at : ℕ) (p : Place) (a : Operand) → plain_statement (statement at (StoreByte p a)) ≡ true
plain-StoreByte at p a = plain_roll (StmtKind-F.StoreByte p a) at _ (rolls-StoreByte p a)

plain-Call : (at place : ℕ) (x : Name) (t : Operand) (v : Option Name) (as' : List Operand) (hs : List Hint) (A : Assertion)
    → plain_statement (statement at (Call place x t v as' hs A)) ≡ true
plain-Call at place x t v as' hs A = plain_roll (StmtKind-F.Call place x t v as' hs A) at _ (rolls-Call place x t v as' hs A)

plain-If : (at : ℕ) (t : Test) (ys ns : List Stmt) (j : Option Join) → plain_statement (statement at (If t ys ns j)) ≡ (is_plain ys && is_plain ns)
plain-If at t ys ns j = plain_roll (StmtKind-F.If t ys ns j) at _ (rolls-If t ys ns j)

plain-While : (at : ℕ) (t : Test) (place : ℕ) (A : Assertion) (body : List Stmt) → plain_statement (statement at (While t place A body)) ≡ is_plain body
plain-While at t place A body = plain_roll (StmtKind-F.While t place A body) at _ (rolls-While t place A body)

plain-Return : (at : ℕ) (a : Operand) → plain_statement (statement at (Return a)) ≡ true
plain-Return at a = plain_roll (StmtKind-F.Return a) at _ (rolls-Return a)

plain-Hint : (at : ℕ) (h : Hint) → plain_statement (statement at (HintStmt h)) ≡ true
plain-Hint at h = plain_roll (StmtKind-F.Hint h) at _ (rolls-Hint h)

-- lists one after the other are plain where each is
and_assoc : (a b c : Bool) → (a && (b && c)) ≡ ((a && b) && c)
and_assoc true b c = refl
and_assoc false b c = refl

plain-append : (xs ys : List Stmt) → is_plain (xs ++ ys) ≡ (is_plain xs && is_plain ys)
plain-append [] ys = refl
plain-append (x ∷ xs) ys = ap (λ b. plain_statement x && b) (plain-append xs ys) ∙ and_assoc (plain_statement x) (is_plain xs) (is_plain ys)

-- what a `find` or `walk` stands for is plain where what is done at a node is
plain-list_loop : (at : ℕ) (n v p : Name) (A : Assertion) (visit : List Stmt) → is_plain visit ≡ true → is_plain (list_loop at n v p A visit) ≡ true
plain-list_loop at n v p A visit is =
    let back : is_plain (node_back at n v p) ≡ true = simp (plain-Hint, plain-Assign, plain-Load) refl in
    let front : is_plain (node_front at n v) ≡ true = simp (plain-Hint, plain-Load) refl in
    let turn : is_plain (node_front at n v ++ (visit ++ node_back at n v p)) ≡ true =
    plain-append (node_front at n v) (visit ++ node_back at n v p) ∙ ap₂ (λ a b. a && b) front (plain-append visit (node_back at n v p) ∙ ap₂ (λ a b. a && b) is back) in
    let loop : plain_statement (statement at (While (made_test at (not_null n)) at A (node_front at n v ++ (visit ++ node_back at n v p)))) ≡ true = plain-While at _ at A _ ∙ turn in
    rw loop (simp (plain-Hint, plain-Assign) refl)

-- the statements of a row, each with its fact
abbrev Plain : Stmt → Type 0
Plain s = is_plain (written_statement s) ≡ true

abbrev PlainKind : StmtKind → Type 0
PlainKind k = (at : ℕ) → is_plain (written_kind k at) ≡ true

plain-joined : (ss : List ((s : Stmt) × Plain s)) → is_plain (joined (map written_statement (map (λ s. s.0) ss))) ≡ true
plain-joined [] = refl
plain-joined (s ∷ ss) =
    plain-append (written_statement s.0) (joined (map written_statement (map (λ s. s.0) ss)))
    ∙ ap₂ (λ a b. a && b) s.1 (plain-joined ss)

layer : (y : StmtKind-F ((k : StmtKind) × PlainKind k) ((s : Stmt) × Plain s)) (at : ℕ)
    → is_plain (written_kind_step (map-StmtKind _ _ _ _ written_kind written_statement (map-StmtKind _ _ _ _ (λ e. e.0) (λ e. e.0) y)) at) ≡ true
layer (StmtKind-F.Assign x a) at = simp plain-Assign refl
layer (StmtKind-F.Compute x op a b) at = simp plain-Compute refl
layer (StmtKind-F.Load x p) at = simp plain-Load refl
layer (StmtKind-F.LoadByte x p) at = simp plain-LoadByte refl
layer (StmtKind-F.Store p a) at = simp plain-Store refl
layer (StmtKind-F.StoreByte p a) at = simp plain-StoreByte refl
layer (StmtKind-F.Call place into target via args hints after) at = simp plain-Call refl
layer (StmtKind-F.If test ys ns join) at = simp (plain-If, plain-joined ys, plain-joined ns) refl
layer (StmtKind-F.While test place invariant body) at = simp (plain-While, plain-joined body) refl
layer (StmtKind-F.Return a) at = simp plain-Return refl
layer (StmtKind-F.Hint h) at = simp plain-Hint refl
layer (StmtKind-F.Find n v a p s u t keep body) at =
    let visit : List Stmt = statement at (If (made_test at (is_key v a)) (joined (map written_statement (map (λ e. e.0) body))) [] None) ∷ [] in
    plain-list_loop at n v p _ visit (simp (plain-If, plain-joined body) refl)
layer (StmtKind-F.Walk n v p s u t keep body) at = plain-list_loop at n v p _ (joined (map written_statement (map (λ e. e.0) body))) (plain-joined body)

every_plain : (s : Stmt) → Plain s
every_plain =
    ind-Stmt PlainKind Plain
    (λ x y is at.
    ap (λ f. is_plain (f at)) (fold-roll-StmtKind (ℕ → List Stmt) (List Stmt) written_kind_step written_step x)
    ∙ subst (λ z. is_plain (written_kind_step (map-StmtKind _ _ _ _ written_kind written_statement z) at) ≡ true) is (layer y at))
    (λ x y is. ap is_plain (fold-roll-Stmt (ℕ → List Stmt) (List Stmt) written_kind_step written_step x) ∙ subst (λ z. is_plain (written_kind z.kind z.at) ≡ true) is (y.kind.1 y.at))

pub list_loops_are_written : ListLoopsAreWritten
list_loops_are_written [] = refl
list_loops_are_written (s ∷ ss) =
    plain-append (written_statement s) (written ss) ∙ ap₂ (λ a b. a && b) (every_plain s) (list_loops_are_written ss)
