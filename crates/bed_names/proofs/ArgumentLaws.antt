-- A fold over a statement with changed arguments is a fold over the statement as it was, whose step changes one layer first. So what
-- a fold reads of changed statements follows from what its step reads of one layer.
use Rattle.std.proofs.Common.{◌≡◌, List, [], ◌∷◌, map, sym, ap, ◌∙◌, subst, refl, Option}
use Rattle.bed_lang.specs.declared.word.Sort.{Sort}
use Rattle.bed_lang.specs.declared.logic.Arg.{Arg}
use Rattle.bed_lang.specs.declared.statement.Stmt.{Stmt, Stmt-F, fold-Stmt, ind-Stmt, fold-roll-Stmt, fold_out-Stmt}
use Rattle.bed_lang.specs.declared.statement.StmtKind.{StmtKind, StmtKind-F, fold-StmtKind, map-StmtKind, roll-StmtKind, fold-roll-StmtKind}
use Rattle.bed_lang.specs.declared.statement.StmtKind.TheVariants.{rolls-Assign, rolls-Compute, rolls-Load, rolls-LoadByte, rolls-Store, rolls-StoreByte, rolls-Call, rolls-If, rolls-While, rolls-Return, rolls-Hint, rolls-Find, rolls-Walk}
use Rattle.bed_names.specs.Terms.{Visible}
use Rattle.bed_names.specs.Arguments.{changed_assertion, changed_hint, changed_join, changed_keep, changed_step, changed_stmt_step, changed_kind, changed_stmt}

-- what items have in common stays where each is changed and keeps it
pub kept_by : {T X : Type 0} (read : T → X) (change : T → T) → ((t : T) → read (change t) ≡ read t) → (items : List T)
    → map read (map change items) ≡ map read items
kept_by read change each [] = refl
kept_by read change each (t ∷ more) =
    ap (λ x. x ∷ map read (map change more)) (each t) ∙ ap (λ xs. read t ∷ xs) (kept_by read change each more)

module _ (change : Visible → Option Sort → Arg → Arg) (v : Visible) where
  -- one layer of a statement with its assertions and hints changed, whatever stands for the statements inside
  abbrev pub changed_layer : {A B : Type 0} → StmtKind-F A B → StmtKind-F A B
  changed_layer (StmtKind-F.Assign x a) = StmtKind-F.Assign x a
  changed_layer (StmtKind-F.Compute x op a b) = StmtKind-F.Compute x op a b
  changed_layer (StmtKind-F.Load x p) = StmtKind-F.Load x p
  changed_layer (StmtKind-F.LoadByte x p) = StmtKind-F.LoadByte x p
  changed_layer (StmtKind-F.Store p a) = StmtKind-F.Store p a
  changed_layer (StmtKind-F.StoreByte p a) = StmtKind-F.StoreByte p a
  changed_layer (StmtKind-F.Call place into target via args hints after) =
      StmtKind-F.Call place into target via args (map (changed_hint change v) hints) (changed_assertion change v after)
  changed_layer (StmtKind-F.If test ys ns join) = StmtKind-F.If test ys ns (changed_join change v join)
  changed_layer (StmtKind-F.While test place invariant' body) = StmtKind-F.While test place (changed_assertion change v invariant') body
  changed_layer (StmtKind-F.Return a) = StmtKind-F.Return a
  changed_layer (StmtKind-F.Hint h) = StmtKind-F.Hint (changed_hint change v h)
  changed_layer (StmtKind-F.Find n x a p s u t keep body) = StmtKind-F.Find n x a p s u t (changed_keep change v u t keep) body
  changed_layer (StmtKind-F.Walk n x p s u t keep body) = StmtKind-F.Walk n x p s u t (changed_keep change v u t keep) body

  pub step_rolled : (x : StmtKind-F StmtKind Stmt) → changed_step change v x ≡ roll-StmtKind (changed_layer x)
  step_rolled (StmtKind-F.Assign x a) = sym (rolls-Assign x a)
  step_rolled (StmtKind-F.Compute x op a b) = sym (rolls-Compute x op a b)
  step_rolled (StmtKind-F.Load x p) = sym (rolls-Load x p)
  step_rolled (StmtKind-F.LoadByte x p) = sym (rolls-LoadByte x p)
  step_rolled (StmtKind-F.Store p a) = sym (rolls-Store p a)
  step_rolled (StmtKind-F.StoreByte p a) = sym (rolls-StoreByte p a)
  step_rolled (StmtKind-F.Call place x t via args hints after) =
      sym (rolls-Call place x t via args (map (changed_hint change v) hints) (changed_assertion change v after))
  step_rolled (StmtKind-F.If t ys ns j) = sym (rolls-If t ys ns (changed_join change v j))
  step_rolled (StmtKind-F.While t place a body) = sym (rolls-While t place (changed_assertion change v a) body)
  step_rolled (StmtKind-F.Return a) = sym (rolls-Return a)
  step_rolled (StmtKind-F.Hint h) = sym (rolls-Hint (changed_hint change v h))
  step_rolled (StmtKind-F.Find n x a p s u t keep body) = sym (rolls-Find n x a p s u t (changed_keep change v u t keep) body)
  step_rolled (StmtKind-F.Walk n x p s u t keep body) = sym (rolls-Walk n x p s u t (changed_keep change v u t keep) body)

  abbrev pub changed_below : StmtKind-F StmtKind Stmt → StmtKind-F StmtKind Stmt
  changed_below = map-StmtKind StmtKind Stmt StmtKind Stmt (changed_kind change v) (changed_stmt change v)

  pub changed_kind-roll : (x : StmtKind-F StmtKind Stmt)
      → changed_kind change v (roll-StmtKind x) ≡ roll-StmtKind (changed_layer (changed_below x))
  changed_kind-roll x =
      fold-roll-StmtKind StmtKind Stmt (changed_step change v) (changed_stmt_step change v) x ∙ step_rolled (changed_below x)

module _ (change : Visible → Option Sort → Arg → Arg) {A B : Type 0} (v : Visible) (step : StmtKind-F A B → A) (made : Stmt-F A B → B) where
  abbrev kind_then : StmtKind → A
  kind_then = fold-StmtKind A B step made

  abbrev stmt_then : Stmt → B
  stmt_then = fold-Stmt A B step made

  abbrev pub layered : StmtKind-F A B → A
  layered x = step (changed_layer change v x)

  abbrev kind_layered : StmtKind → A
  kind_layered = fold-StmtKind A B layered made

  abbrev stmt_layered : Stmt → B
  stmt_layered = fold-Stmt A B layered made

  abbrev SameKind : StmtKind → Type 0
  SameKind k = kind_then (changed_kind change v k) ≡ kind_layered k

  abbrev SameStmt : Stmt → Type 0
  SameStmt s = stmt_then (changed_stmt change v s) ≡ stmt_layered s

  abbrev plain_stmts : List ((s : Stmt) × SameStmt s) → List Stmt
  plain_stmts ss = map (λ s. s.0) ss

  abbrev plain_layer : StmtKind-F ((k : StmtKind) × SameKind k) ((s : Stmt) × SameStmt s) → StmtKind-F StmtKind Stmt
  plain_layer = map-StmtKind _ _ StmtKind Stmt (λ k. k.0) (λ s. s.0)

  body_same : (ss : List ((s : Stmt) × SameStmt s))
      → map stmt_then (map (changed_stmt change v) (plain_stmts ss)) ≡ map stmt_layered (plain_stmts ss)
  body_same [] = refl
  body_same (s ∷ ss) =
      ap (λ b. b ∷ map stmt_then (map (changed_stmt change v) (plain_stmts ss))) s.1 ∙ ap (λ bs. stmt_layered s.0 ∷ bs) (body_same ss)

  -- the step at a changed layer whose statements are folded
  inside_same : (y : StmtKind-F ((k : StmtKind) × SameKind k) ((s : Stmt) × SameStmt s))
      → step (map-StmtKind StmtKind Stmt A B kind_then stmt_then (changed_layer change v (changed_below change v (plain_layer y))))
      ≡ layered (map-StmtKind StmtKind Stmt A B kind_layered stmt_layered (plain_layer y))
  inside_same (StmtKind-F.Assign x a) = refl
  inside_same (StmtKind-F.Compute x op a b) = refl
  inside_same (StmtKind-F.Load x p) = refl
  inside_same (StmtKind-F.LoadByte x p) = refl
  inside_same (StmtKind-F.Store p a) = refl
  inside_same (StmtKind-F.StoreByte p a) = refl
  inside_same (StmtKind-F.Call place x t via args hints after) = refl
  inside_same (StmtKind-F.If t ys ns j) =
      ap (λ bs. step (StmtKind-F.If t bs (map stmt_then (map (changed_stmt change v) (plain_stmts ns))) (changed_join change v j))) (body_same ys)
      ∙ ap (λ bs. step (StmtKind-F.If t (map stmt_layered (plain_stmts ys)) bs (changed_join change v j))) (body_same ns)
  inside_same (StmtKind-F.While t place a body) = ap (λ bs. step (StmtKind-F.While t place (changed_assertion change v a) bs)) (body_same body)
  inside_same (StmtKind-F.Return a) = refl
  inside_same (StmtKind-F.Hint h) = refl
  inside_same (StmtKind-F.Find n x a p s u t keep body) =
      ap (λ bs. step (StmtKind-F.Find n x a p s u t (changed_keep change v u t keep) bs)) (body_same body)
  inside_same (StmtKind-F.Walk n x p s u t keep body) =
      ap (λ bs. step (StmtKind-F.Walk n x p s u t (changed_keep change v u t keep) bs)) (body_same body)

  pub fold_changed : (s : Stmt) → fold-Stmt A B step made (changed_stmt change v s) ≡ fold-Stmt A B layered made s
  fold_changed =
      ind-Stmt SameKind SameStmt
      (λ x y is.
      ap kind_then (changed_kind-roll change v x)
      ∙ fold-roll-StmtKind A B step made (changed_layer change v (changed_below change v x))
      ∙ subst (λ z. step (map-StmtKind StmtKind Stmt A B kind_then stmt_then (changed_layer change v (changed_below change v z))) ≡ layered (map-StmtKind StmtKind Stmt A B kind_layered stmt_layered z)) is (inside_same y)
      ∙ sym (fold-roll-StmtKind A B layered made x))
      (λ x y is.
      ap stmt_then (fold-roll-Stmt StmtKind Stmt (changed_step change v) (changed_stmt_step change v) x)
      ∙ fold_out-Stmt A B step made (record { at = x.at; kind = changed_kind change v x.kind })
      ∙ ap (λ a. made (record { at = x.at; kind = a })) (subst (λ z. kind_then (changed_kind change v z.kind) ≡ kind_layered z.kind) is y.kind.1)
      ∙ sym (fold-roll-Stmt A B layered made x))
