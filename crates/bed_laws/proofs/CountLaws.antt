-- A path gets at most one action more for each statement.
use Rattle.std.proofs.Common.{◌≡◌, ℕ, zero, suc, ◌+◌, ◌<◌, ◌≤◌, Option, Some, None, option_map, option_and_then, List, [], ◌∷◌, ◌++◌, map, length, refl, sym, ◌∙◌, ap, ap₂, subst, arith, length-append}
use Rattle.std.specs.Option.{option_or}
use Rattle.bed_lang.specs.declared.logic.Assertion.{Assertion}
use Rattle.bed_lang.specs.declared.module.Action.{Action}
use Rattle.bed_lang.specs.declared.module.Action.TheVariants as action
use Rattle.bed_lang.specs.declared.module.Action.TheVariants.{Assume}
use Rattle.bed_lang.specs.declared.module.Join.{Join}
use Rattle.bed_lang.specs.declared.module.Test.{Test}
use Rattle.bed_lang.specs.declared.statement.Stmt.{Stmt, roll-Stmt, ind-Stmt, fold-roll-Stmt, fold_out-Stmt}
use Rattle.bed_lang.specs.declared.statement.StmtKind.{StmtKind, StmtKind-F, roll-StmtKind, map-StmtKind, fold-roll-StmtKind, Assign, Compute, Load, LoadByte, Store, StoreByte, Call, If, While, Return, Hint as HintStmt}
use Rattle.bed_lang.specs.declared.statement.StmtKind.TheVariants.{rolls-If, rolls-While}
use Rattle.bed_sat.specs.Conditions.{Site, Path, Part, in_order, then_action, path_from, negated, part_step, then_hint, choice, where_true, where_false, kind_part_step, kind_part, statement_part, body_part}
use Rattle.bed_laws.specs.Counts.{total, kind_count_step, count_step, kind_count, statement_count, body_count}

-- the path that goes on has at most so many actions more
abbrev pub Grows : ℕ → Part → Type 0
Grows n part = (p q : Path) → part.goes_on p ≡ Some q → length q.actions ≤ length p.actions + n

some_same : {p q : Path} → ◌≡◌ {A = Option Path} (Some p) (Some q) → p ≡ q
some_same e = cc

none_some : {A : Type 0} {q : Path} → ◌≡◌ {A = Option Path} None (Some q) → A
none_some e = absurd cc

action_grows : (a : Action) (p : Path) → length (then_action a p).actions ≡ length p.actions + 1
action_grows a p = length-append p.actions (a ∷ [])

one_action : (a : Action) (p q : Path) → ◌≡◌ {A = Option Path} (Some (then_action a p)) (Some q) → length q.actions ≤ length p.actions + 1
one_action a p q e = let n : length (then_action a p).actions ≡ length q.actions = ap (λ r. length r.actions) (some_same e) in omega (arith, action_grows a p)

same_actions : (p r q : Path) → length r.actions ≤ length p.actions → ◌≡◌ {A = Option Path} (Some r) (Some q) → length q.actions ≤ length p.actions + 1
same_actions p r q le e = let n : length r.actions ≡ length q.actions = ap (λ s. length s.actions) (some_same e) in omega arith

module _ (site : Site) where
  abbrev KindGrows : StmtKind → Type 0
  KindGrows k = (at : ℕ) → Grows (kind_count k) (kind_part site k at)

  abbrev StatementGrows : Stmt → Type 0
  StatementGrows s = Grows (statement_count s) (statement_part site s)

  abbrev part_of : List ((s : Stmt) × StatementGrows s) → Part
  part_of ss = in_order (map (statement_part site) (map (λ s. s.0) ss))

  abbrev count_of : List ((s : Stmt) × StatementGrows s) → ℕ
  count_of ss = total (map statement_count (map (λ s. s.0) ss))

  list_grows : (ss : List ((s : Stmt) × StatementGrows s)) (o : Option Path) (m : ℕ) → ((p : Path) → o ≡ Some p → length p.actions ≤ m) → (q : Path) → option_and_then (part_of ss).goes_on o ≡ Some q → length q.actions ≤ m + count_of ss
  list_grows ss None m le q e = none_some e
  list_grows [] (Some p) m le q e = let a = le p refl in let n : length p.actions ≡ length q.actions = ap (λ s. length s.actions) (some_same e) in omega arith
  list_grows (s ∷ ss) (Some p) m le q e =
      let a = le p refl in
      let c : count_of (s ∷ ss) ≡ statement_count s.0 + count_of ss = refl in
      let r = list_grows ss ((statement_part site s.0).goes_on p) (m + statement_count s.0) (λ u is. let b = s.1 p u is in omega arith) q e in
      omega arith

  list_part_grows : (ss : List ((s : Stmt) × StatementGrows s)) → Grows (count_of ss) (part_of ss)
  list_part_grows ss p q e = list_grows ss (Some p) (length p.actions) (λ u is. let n : length p.actions ≡ length u.actions = ap (λ s. length s.actions) (some_same is) in omega arith) q e

  joined_grows : (A : Assertion) (o : Option Path) (p q : Path) (n : ℕ) → option_map (λ u. path_from A) o ≡ Some q → length q.actions ≤ length p.actions + n
  joined_grows A None p q n e = none_some e
  joined_grows A (Some u) p q n e = let z : 0 ≡ length q.actions = ap (λ (s : Path). length s.actions) (some_same e) in omega arith

  or_grows : (a b : Option Path) (m n : ℕ) → ((q : Path) → a ≡ Some q → length q.actions ≤ m) → ((q : Path) → b ≡ Some q → length q.actions ≤ n) → (q : Path) → option_or a b ≡ Some q → length q.actions ≤ m + n
  or_grows None b m n f g q e = let r = g q e in omega arith
  or_grows (Some p) b m n f g q e = let r = f q e in omega arith

  choice_grows : (t : Test) (m n : ℕ) (yp np : Part) (j : Option Join) → Grows m yp → Grows n np → Grows (1 + (m + n)) (choice site t yp np j)
  choice_grows t m n yp np (Some j) hy hn p q e = joined_grows j.assertion (option_or (yp.goes_on (where_true t p)) (np.goes_on (where_false t p))) p q (1 + (m + n)) e
  choice_grows t m n yp np None hy hn p q e = by_cases (yp.goes_on (where_true t p)) refl e
    where
      by_cases : (o : Option Path) → yp.goes_on (where_true t p) ≡ o → option_or o (np.goes_on (where_false t p)) ≡ Some q → length q.actions ≤ length p.actions + (1 + (m + n))
      by_cases None is e = let r = hn (where_false t p) q e in omega (arith, action_grows (Assume (negated t)) p)
      by_cases (Some u) is e = let r = hy (where_true t p) q (is ∙ e) in omega (arith, action_grows (Assume t) p)

  layer : (y : StmtKind-F ((k : StmtKind) × KindGrows k) ((s : Stmt) × StatementGrows s)) (at : ℕ)
      → Grows (kind_count_step (map-StmtKind _ _ _ _ kind_count statement_count (map-StmtKind _ _ _ _ (λ e. e.0) (λ e. e.0) y)))
      (kind_part_step site (map-StmtKind _ _ _ _ (kind_part site) (statement_part site) (map-StmtKind _ _ _ _ (λ e. e.0) (λ e. e.0) y)) at)
  layer (StmtKind-F.Assign x a) at p q e = one_action (action.Assign x a) p q e
  layer (StmtKind-F.Compute x op a b) at p q e = one_action (action.Compute x op a b) p q e
  layer (StmtKind-F.Load x l) at p q e = one_action (action.Load x l) p q e
  layer (StmtKind-F.LoadByte x l) at p q e = one_action (action.LoadByte x l) p q e
  layer (StmtKind-F.Store l a) at p q e = one_action (action.Store l a) p q e
  layer (StmtKind-F.StoreByte l a) at p q e = one_action (action.StoreByte l a) p q e
  layer (StmtKind-F.Call place into target via args hints after) at p q e = same_actions p (path_from after) q (omega arith) e
  layer (StmtKind-F.If test ys ns join) at p q e = choice_grows test (count_of ys) (count_of ns) (part_of ys) (part_of ns) join (list_part_grows ys) (list_part_grows ns) p q e
  layer (StmtKind-F.While test place invariant body) at p q e =
      let n : length (where_false test (path_from invariant)).actions ≡ length q.actions = ap (λ (s : Path). length s.actions) (some_same e) in
      omega (arith, action_grows (Assume (negated test)) (path_from invariant))
  layer (StmtKind-F.Return a) at p q e = none_some e
  layer (StmtKind-F.Hint h) at p q e = same_actions p (then_hint h p) q (omega arith) e
  layer (StmtKind-F.Find n v a p s u t keep body) at r q e = let m : 1 ≡ length q.actions = ap (λ (s : Path). length s.actions) (some_same e) in omega arith
  layer (StmtKind-F.Walk n v p s u t keep body) at r q e = let m : 1 ≡ length q.actions = ap (λ (s : Path). length s.actions) (some_same e) in omega arith

  every_grows : (s : Stmt) → StatementGrows s
  every_grows =
      ind-Stmt KindGrows StatementGrows
      (λ x y is at.
      subst (λ n. Grows n (kind_part site (roll-StmtKind x) at)) (sym (fold-roll-StmtKind ℕ ℕ kind_count_step count_step x))
      (subst (λ (f : ℕ → Part). Grows (kind_count_step (map-StmtKind _ _ _ _ kind_count statement_count x)) (f at)) (sym (fold-roll-StmtKind (ℕ → Part) Part (kind_part_step site) part_step x))
      (subst (λ z. Grows (kind_count_step (map-StmtKind _ _ _ _ kind_count statement_count z)) (kind_part_step site (map-StmtKind _ _ _ _ (kind_part site) (statement_part site) z) at)) is (layer y at))))
      (λ x y is.
      subst (λ n. Grows n (statement_part site (roll-Stmt x))) (sym (fold-roll-Stmt ℕ ℕ kind_count_step count_step x))
      (subst (λ part. Grows (kind_count x.kind) part) (sym (fold-roll-Stmt (ℕ → Part) Part (kind_part_step site) part_step x))
      (subst (λ z. Grows (kind_count z.kind) (kind_part site z.kind z.at)) is (y.kind.1 y.at))))

  with_facts : (body : List Stmt) → List ((s : Stmt) × StatementGrows s)
  with_facts [] = []
  with_facts (s ∷ ss) = (s, every_grows s) ∷ with_facts ss

  facts_of : (body : List Stmt) → map (λ s. s.0) (with_facts body) ≡ body
  unfolding with_facts
  facts_of [] = refl
  facts_of (s ∷ ss) = ap (λ (l : List Stmt). s ∷ l) (facts_of ss)

  pub path_grows : (body : List Stmt) (p q : Path) → (body_part site body).goes_on p ≡ Some q → length q.actions ≤ length p.actions + body_count body
  path_grows body = subst (λ (b : List Stmt). Grows (body_count b) (body_part site b)) (facts_of body) (list_part_grows (with_facts body))

-- ---- counts

pub count_append : (xs ys : List Stmt) → body_count (xs ++ ys) ≡ body_count xs + body_count ys
count_append [] ys = let e : body_count ys ≡ 0 + body_count ys = omega arith in e
count_append (x ∷ xs) ys =
    let e = count_append xs ys in
    let a : body_count (x ∷ (xs ++ ys)) ≡ statement_count x + body_count (xs ++ ys) = refl in
    let b : body_count (x ∷ xs) ≡ statement_count x + body_count xs = refl in
    a ∙ (let z : statement_count x + body_count (xs ++ ys) ≡ statement_count x + body_count xs + body_count ys = omega arith in z)

count_kind : (x : StmtKind-F StmtKind Stmt) (at : ℕ) (k : StmtKind) → roll-StmtKind x ≡ k → statement_count (record { at = at; kind = k }) ≡ kind_count_step (map-StmtKind _ _ _ _ kind_count statement_count x)
count_kind x at k e = fold_out-Stmt ℕ ℕ kind_count_step count_step (record { at = at; kind = k }) ∙ ap kind_count (sym e) ∙ fold-roll-StmtKind ℕ ℕ kind_count_step count_step x

pub count-If : (at : ℕ) (t : Test) (ys ns : List Stmt) (j : Option Join) → body_count (record { at = at; kind = If t ys ns j } ∷ []) ≡ 1 + (body_count ys + body_count ns)
count-If at t ys ns j = let e = count_kind (StmtKind-F.If t ys ns j) at _ (rolls-If t ys ns j) in ap (λ n. n + 0) e ∙ (let z : 1 + (body_count ys + body_count ns) + 0 ≡ 1 + (body_count ys + body_count ns) = omega arith in z)

pub count-While : (at : ℕ) (t : Test) (place : ℕ) (I : Assertion) (body : List Stmt) → body_count (record { at = at; kind = While t place I body } ∷ []) ≡ 1 + body_count body
count-While at t place I body = let e = count_kind (StmtKind-F.While t place I body) at _ (rolls-While t place I body) in ap (λ n. n + 0) e ∙ (let z : 1 + body_count body + 0 ≡ 1 + body_count body = omega arith in z)
