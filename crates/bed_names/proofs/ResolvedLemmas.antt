-- Statements without bare arguments, part by part.
use Rattle.std.proofs.Common.{◌≡◌, ◌∙◌, sym, ap, ℕ, ◌+◌, ◌<◌, List, [], ◌∷◌, ◌++◌, map, length, take, get_or, Option}
use Rattle.std.proofs.lemmas.List.{map_more}
use Rattle.bed_lang.specs.declared.word.Name.{Name}
use Rattle.bed_lang.specs.declared.word.Seq.{Seq}
use Rattle.bed_lang.specs.declared.logic.Assertion.{Assertion}
use Rattle.bed_lang.specs.declared.module.Op.{Op}
use Rattle.bed_lang.specs.declared.module.Operand.{Operand}
use Rattle.bed_lang.specs.declared.module.Place.{Place}
use Rattle.bed_lang.specs.declared.module.Test.{Test}
use Rattle.bed_lang.specs.declared.module.Join.{Join}
use Rattle.bed_lang.specs.declared.module.Hint.{Hint}
use Rattle.bed_lang.specs.declared.statement.Stmt.{Stmt, fold_out-Stmt}
use Rattle.bed_lang.specs.declared.statement.StmtKind.{StmtKind, StmtKind-F, fold-roll-StmtKind, Assign, Compute, Load, LoadByte, Store, StoreByte, Call, If, While, Return, Hint as HintStmt, Find, Walk}
use Rattle.bed_lang.specs.declared.statement.StmtKind.TheVariants.{rolls-Assign, rolls-Compute, rolls-Load, rolls-LoadByte, rolls-Store, rolls-StoreByte, rolls-Call, rolls-If, rolls-While, rolls-Return, rolls-Hint, rolls-Find, rolls-Walk}
use Rattle.bed_names.specs.Resolved.{resolved_step, resolved_stmt_step, resolved_kind, resolved_stmt, resolved_hint, resolved_assertion, resolved_keep, resolved_join}
use Rattle.bed_names.specs.Terms.{Visible}

module _ (v : Visible) where
  pub kept_Assign : (k : StmtKind) (x : Name) (a : Operand) → k ≡ Assign x a → k ≡ resolved_kind v k
  kept_Assign k x a e = e ∙ sym (ap (resolved_kind v) (e ∙ sym (rolls-Assign x a)) ∙ fold-roll-StmtKind StmtKind Stmt (resolved_step v) (resolved_stmt_step v) (StmtKind-F.Assign x a))

  pub kept_Compute : (k : StmtKind) (x : Name) (o : Op) (a b : Operand) → k ≡ Compute x o a b → k ≡ resolved_kind v k
  kept_Compute k x o a b e = e ∙ sym (ap (resolved_kind v) (e ∙ sym (rolls-Compute x o a b)) ∙ fold-roll-StmtKind StmtKind Stmt (resolved_step v) (resolved_stmt_step v) (StmtKind-F.Compute x o a b))

  pub kept_Load : (k : StmtKind) (x : Name) (p : Place) → k ≡ Load x p → k ≡ resolved_kind v k
  kept_Load k x p e = e ∙ sym (ap (resolved_kind v) (e ∙ sym (rolls-Load x p)) ∙ fold-roll-StmtKind StmtKind Stmt (resolved_step v) (resolved_stmt_step v) (StmtKind-F.Load x p))

  pub kept_LoadByte : (k : StmtKind) (x : Name) (p : Place) → k ≡ LoadByte x p → k ≡ resolved_kind v k
  kept_LoadByte k x p e = e ∙ sym (ap (resolved_kind v) (e ∙ sym (rolls-LoadByte x p)) ∙ fold-roll-StmtKind StmtKind Stmt (resolved_step v) (resolved_stmt_step v) (StmtKind-F.LoadByte x p))

  pub kept_Store : (k : StmtKind) (p : Place) (a : Operand) → k ≡ Store p a → k ≡ resolved_kind v k
  kept_Store k p a e = e ∙ sym (ap (resolved_kind v) (e ∙ sym (rolls-Store p a)) ∙ fold-roll-StmtKind StmtKind Stmt (resolved_step v) (resolved_stmt_step v) (StmtKind-F.Store p a))

  pub kept_StoreByte : (k : StmtKind) (p : Place) (a : Operand) → k ≡ StoreByte p a → k ≡ resolved_kind v k
  kept_StoreByte k p a e = e ∙ sym (ap (resolved_kind v) (e ∙ sym (rolls-StoreByte p a)) ∙ fold-roll-StmtKind StmtKind Stmt (resolved_step v) (resolved_stmt_step v) (StmtKind-F.StoreByte p a))

  pub kept_Return : (k : StmtKind) (a : Operand) → k ≡ Return a → k ≡ resolved_kind v k
  kept_Return k a e = e ∙ sym (ap (resolved_kind v) (e ∙ sym (rolls-Return a)) ∙ fold-roll-StmtKind StmtKind Stmt (resolved_step v) (resolved_stmt_step v) (StmtKind-F.Return a))

  pub made_Hint : (k : StmtKind) (h : Hint) → k ≡ HintStmt h → HintStmt (resolved_hint v h) ≡ resolved_kind v k
  made_Hint k h e = sym (ap (resolved_kind v) (e ∙ sym (rolls-Hint h)) ∙ fold-roll-StmtKind StmtKind Stmt (resolved_step v) (resolved_stmt_step v) (StmtKind-F.Hint h))

  pub made_Call : (k : StmtKind) (place : ℕ) (x : Name) (t : Operand) (via : Option Name) (args : List Operand) (hints : List Hint) (after : Assertion)
      → k ≡ Call place x t via args hints after
      → Call place x t via args (map (resolved_hint v) hints) (resolved_assertion v after) ≡ resolved_kind v k
  made_Call k place x t via args hints after e =
      sym (ap (resolved_kind v) (e ∙ sym (rolls-Call place x t via args hints after))
      ∙ fold-roll-StmtKind StmtKind Stmt (resolved_step v) (resolved_stmt_step v) (StmtKind-F.Call place x t via args hints after))

  pub made_If : (k : StmtKind) (t : Test) (ys ns ys' ns' ys'' ns'' : List Stmt) (j : Option Join) → k ≡ If t ys ns j
      → ys' ≡ ys → ys'' ≡ map (resolved_stmt v) ys' → ns' ≡ ns → ns'' ≡ map (resolved_stmt v) ns'
      → If t ys'' ns'' (resolved_join v j) ≡ resolved_kind v k
  made_If k t ys ns ys' ns' ys'' ns'' j e ey hy en hn =
      ap (λ b. If t b ns'' (resolved_join v j)) (hy ∙ ap (map (resolved_stmt v)) ey)
      ∙ ap (λ b. If t (map (resolved_stmt v) ys) b (resolved_join v j)) (hn ∙ ap (map (resolved_stmt v)) en)
      ∙ sym (ap (resolved_kind v) (e ∙ sym (rolls-If t ys ns j))
      ∙ fold-roll-StmtKind StmtKind Stmt (resolved_step v) (resolved_stmt_step v) (StmtKind-F.If t ys ns j))

  pub made_While : (k : StmtKind) (t : Test) (place : ℕ) (a : Assertion) (b b' b'' : List Stmt) → k ≡ While t place a b
      → b' ≡ b → b'' ≡ map (resolved_stmt v) b' → While t place (resolved_assertion v a) b'' ≡ resolved_kind v k
  made_While k t place a b b' b'' e eb hb =
      ap (While t place (resolved_assertion v a)) (hb ∙ ap (map (resolved_stmt v)) eb)
      ∙ sym (ap (resolved_kind v) (e ∙ sym (rolls-While t place a b))
      ∙ fold-roll-StmtKind StmtKind Stmt (resolved_step v) (resolved_stmt_step v) (StmtKind-F.While t place a b))

  pub made_Find : (k : StmtKind) (n x : Name) (o : Operand) (p : Name) (s : Seq) (u t : Name) (a : Assertion) (b b' b'' : List Stmt)
      → k ≡ Find n x o p s u t a b → b' ≡ b → b'' ≡ map (resolved_stmt v) b'
      → Find n x o p s u t (resolved_keep v u t a) b'' ≡ resolved_kind v k
  made_Find k n x o p s u t a b b' b'' e eb hb =
      ap (Find n x o p s u t (resolved_keep v u t a)) (hb ∙ ap (map (resolved_stmt v)) eb)
      ∙ sym (ap (resolved_kind v) (e ∙ sym (rolls-Find n x o p s u t a b))
      ∙ fold-roll-StmtKind StmtKind Stmt (resolved_step v) (resolved_stmt_step v) (StmtKind-F.Find n x o p s u t a b))

  pub made_Walk : (k : StmtKind) (n x p : Name) (s : Seq) (u t : Name) (a : Assertion) (b b' b'' : List Stmt)
      → k ≡ Walk n x p s u t a b → b' ≡ b → b'' ≡ map (resolved_stmt v) b'
      → Walk n x p s u t (resolved_keep v u t a) b'' ≡ resolved_kind v k
  made_Walk k n x p s u t a b b' b'' e eb hb =
      ap (Walk n x p s u t (resolved_keep v u t a)) (hb ∙ ap (map (resolved_stmt v)) eb)
      ∙ sym (ap (resolved_kind v) (e ∙ sym (rolls-Walk n x p s u t a b))
      ∙ fold-roll-StmtKind StmtKind Stmt (resolved_step v) (resolved_stmt_step v) (StmtKind-F.Walk n x p s u t a b))

-- one more item of a list that is made item by item
pub map_step : {X Y : Type 0} (f : X → Y) (items : List X) (out next : List Y) (i : ℕ) (item : X) (made : Y) → i < length items
    → item ≡ get_or items i item → made ≡ f item → out ≡ map f (take i items) → next ≡ out ++ made ∷ []
    → next ≡ map f (take (i + 1) items)
map_step f items out next i item made lt is e h n =
    n ∙ ap (λ o. o ++ made ∷ []) h ∙ ap (λ y. map f (take i items) ++ y ∷ []) (e ∙ ap f is) ∙ sym (map_more f items i item lt)

pub body_step : (v : Visible) (body out next : List Stmt) (i : ℕ) (s : Stmt) (kind : StmtKind) → i < length body → s ≡ get_or body i s
    → kind ≡ resolved_kind v s.kind → out ≡ map (resolved_stmt v) (take i body)
    → next ≡ out ++ record { at = s.at; kind = kind } ∷ [] → next ≡ map (resolved_stmt v) (take (i + 1) body)
body_step v body out next i s kind lt is e h n =
    map_step (resolved_stmt v) body out next i s (record { at = s.at; kind = kind }) lt is
    (ap (λ k. record { at = s.at; kind = k }) e ∙ sym (fold_out-Stmt StmtKind Stmt (resolved_step v) (resolved_stmt_step v) s)) h n
