-- The conditions of a body name the function in which it stands.
use Rattle.std.proofs.Common.{◌≡◌, ℕ, zero, suc, Option, Some, None, List, [], ◌∷◌, ◌++◌, map, codes, Contains, refl, sym, subst, arith}
use Rattle.bed_lang.specs.declared.word.Name.{Name}
use Rattle.bed_lang.specs.declared.logic.Assertion.{Assertion}
use Rattle.bed_lang.specs.declared.module.Action.TheVariants as action
use Rattle.bed_lang.specs.declared.module.Hint.TheVariants.{Append}
use Rattle.bed_lang.specs.declared.module.Operand.TheVariants.{Local}
use Rattle.bed_lang.specs.declared.module.Test.{Test}
use Rattle.bed_lang.specs.declared.module.Join.{Join}
use Rattle.bed_lang.specs.declared.condition.Cond.{Cond}
use Rattle.bed_lang.specs.declared.statement.Stmt.{Stmt, ind-Stmt, fold-roll-Stmt}
use Rattle.bed_lang.specs.declared.statement.StmtKind.{StmtKind, StmtKind-F, map-StmtKind, fold-roll-StmtKind}
use Rattle.bed_table.specs.ListLoops.{word_named, list_invariant, not_yet, not_null, is_key, field_at}
use Rattle.bed_sat.specs.Written.{unfold_at, fold_segment, fold_list, made_test}
use Rattle.bed_sat.specs.Conditions.{Path, path_from, Site, Part, acted, hinted, owed_from, in_order, part_step, met, loop, choice, list_loop, where_true, where_false, kind_part_step, kind_part, statement_part, body_part}

module _ (site : Site) where
  abbrev AreNamed : List Cond → Type 0
  AreNamed [] = Unit {0}
  AreNamed (c ∷ cs) = (c.function ≡ site.function) × AreNamed cs

  pub named_at : (cs : List Cond) → AreNamed cs → (c : Cond) → Contains cs c → c.function ≡ site.function
  named_at [] all c (k, lt, e) = absurd (omega arith)
  named_at (x ∷ cs) all c (zero, lt, e) = subst (λ (y : Cond). y.function ≡ site.function) e all.0
  named_at (x ∷ cs) all c (suc k, lt, e) = named_at cs all.1 c (k, omega arith, e)

  both : (xs ys : List Cond) → AreNamed xs → AreNamed ys → AreNamed (xs ++ ys)
  both [] ys a b = b
  both (x ∷ xs) ys a b = (a.0, both xs ys a.1 b)

  abbrev Names : Part → Type 0
  Names part = (p : Path) → AreNamed (part.owes p)

  rest_names : (b : Part) → Names b → (o : Option Path) → AreNamed (owed_from o b)
  rest_names b nb None = tt
  rest_names b nb (Some p) = nb p

  then_names : (a : Part) (ps : List Part) → Names a → Names (in_order ps) → Names (in_order (a ∷ ps))
  then_names a ps na nb p = both (a.owes p) (owed_from (a.goes_on p) (in_order ps)) (na p) (rest_names (in_order ps) nb (a.goes_on p))

  abbrev EachNames : List Part → Type 0
  EachNames [] = Unit {0}
  EachNames (a ∷ ps) = Names a × EachNames ps

  order_names : (ps : List Part) → EachNames ps → Names (in_order ps)
  order_names [] n = λ p. tt
  order_names (a ∷ ps) n = then_names a ps n.0 (order_names ps n.1)

  met_named : (place : ℕ) (A : Assertion) (o : Option Path) → AreNamed (met site place A o)
  met_named place A None = tt
  met_named place A (Some p) = (refl, tt)

  loop_names : (t : Test) (place : ℕ) (A : Assertion) (body : Part) → Names body → Names (loop site t place A body)
  loop_names t place A body nb p =
      let q : Path = where_true t (path_from A) in
      (refl, both (body.owes q) (met site place A (body.goes_on q)) (nb q) (met_named place A (body.goes_on q)))

  choice_names : (t : Test) (ys ns : Part) (j : Option Join) → Names ys → Names ns → Names (choice site t ys ns j)
  choice_names t ys ns None ny nn p = both (ys.owes (where_true t p)) (ns.owes (where_false t p)) (ny (where_true t p)) (nn (where_false t p))
  choice_names t ys ns (Some j) ny nn p =
      both (ys.owes (where_true t p) ++ met site j.place j.assertion (ys.goes_on (where_true t p))) (ns.owes (where_false t p) ++ met site j.place j.assertion (ns.goes_on (where_false t p)))
      (both (ys.owes (where_true t p)) (met site j.place j.assertion (ys.goes_on (where_true t p))) (ny (where_true t p)) (met_named j.place j.assertion (ys.goes_on (where_true t p))))
      (both (ns.owes (where_false t p)) (met site j.place j.assertion (ns.goes_on (where_false t p))) (nn (where_false t p)) (met_named j.place j.assertion (ns.goes_on (where_false t p))))

  list_loop_names : (at : ℕ) (n v p : Name) (A : Assertion) (visit : Part) → Names visit → Names (list_loop site at n v p A visit)
  list_loop_names at n v p A visit nv =
      let turn : List Part =
      hinted (unfold_at (codes "lseg") n) ∷ acted (action.Load v (field_at n 0)) ∷ visit ∷ acted (action.Load v (field_at n 4)) ∷ hinted (fold_segment v v 1)
      ∷ hinted (fold_segment n v 2) ∷ hinted (Append (word_named p)) ∷ acted (action.Assign n (Local v)) ∷ [] in
      let turn_names : Names (in_order turn) =
      order_names turn (λ q. tt, (λ q. tt, (nv, (λ q. tt, (λ q. tt, (λ q. tt, (λ q. tt, (λ q. tt, tt)))))))) in
      order_names (
      hinted (unfold_at (codes "lst") p) ∷ acted (action.Assign n (Local p)) ∷ hinted (fold_segment p n 1)
      ∷ loop site (made_test at (not_null n)) at A (in_order turn) ∷ hinted (unfold_at (codes "lseg") n) ∷ hinted (fold_list p) ∷ []
      )
      (λ q. tt, (λ q. tt, (λ q. tt, (loop_names (made_test at (not_null n)) at A (in_order turn) turn_names, (λ q. tt, (λ q. tt, tt))))))

  abbrev KindNames : StmtKind → Type 0
  KindNames k = (at : ℕ) → Names (kind_part site k at)

  abbrev StatementNames : Stmt → Type 0
  StatementNames s = Names (statement_part site s)

  list_names : (ss : List ((s : Stmt) × StatementNames s)) → Names (in_order (map (statement_part site) (map (λ s. s.0) ss)))
  list_names [] = λ p. tt
  list_names (s ∷ ss) = then_names (statement_part site s.0) (map (statement_part site) (map (λ s. s.0) ss)) s.1 (list_names ss)

  layer : (y : StmtKind-F ((k : StmtKind) × KindNames k) ((s : Stmt) × StatementNames s)) (at : ℕ)
      → Names (kind_part_step site (map-StmtKind _ _ _ _ (kind_part site) (statement_part site) (map-StmtKind _ _ _ _ (λ e. e.0) (λ e. e.0) y)) at)
  layer (StmtKind-F.Assign x a) at = λ p. tt
  layer (StmtKind-F.Compute x op a b) at = λ p. tt
  layer (StmtKind-F.Load x q) at = λ p. tt
  layer (StmtKind-F.LoadByte x q) at = λ p. tt
  layer (StmtKind-F.Store q a) at = λ p. tt
  layer (StmtKind-F.StoreByte q a) at = λ p. tt
  layer (StmtKind-F.Call place into target via args hints after) at = λ p. (refl, tt)
  layer (StmtKind-F.If test ys ns join) at =
      choice_names test (in_order (map (statement_part site) (map (λ s. s.0) ys))) (in_order (map (statement_part site) (map (λ s. s.0) ns))) join (list_names ys) (list_names ns)
  layer (StmtKind-F.While test place invariant body) at = loop_names test place invariant (in_order (map (statement_part site) (map (λ s. s.0) body))) (list_names body)
  layer (StmtKind-F.Return a) at = λ p. (refl, tt)
  layer (StmtKind-F.Hint h) at = λ p. tt
  layer (StmtKind-F.Find n v a p s u t keep body) at =
      let inner : Part = in_order (map (statement_part site) (map (λ s. s.0) body)) in
      list_loop_names at n v p (list_invariant n p s u t (not_yet a u) keep) (choice site (made_test at (is_key v a)) inner (in_order []) None)
      (choice_names (made_test at (is_key v a)) inner (in_order []) None (list_names body) (λ p. tt))
  layer (StmtKind-F.Walk n v p s u t keep body) at =
      list_loop_names at n v p (list_invariant n p s u t [] keep) (in_order (map (statement_part site) (map (λ s. s.0) body))) (list_names body)

  every_names : (s : Stmt) → StatementNames s
  every_names =
      ind-Stmt KindNames StatementNames
      (λ x y is.
      subst (λ (f : ℕ → Part). (at : ℕ) → Names (f at)) (sym (fold-roll-StmtKind (ℕ → Part) Part (kind_part_step site) part_step x))
      (subst (λ z. (at : ℕ) → Names (kind_part_step site (map-StmtKind _ _ _ _ (kind_part site) (statement_part site) z) at)) is (layer y)))
      (λ x y is.
      subst (λ (part : Part). Names part) (sym (fold-roll-Stmt (ℕ → Part) Part (kind_part_step site) part_step x))
      (subst (λ z. Names (kind_part site z.kind z.at)) is (y.kind.1 y.at)))

  pub body_names : (body : List Stmt) → Names (body_part site body)
  body_names [] = λ p. tt
  body_names (s ∷ ss) = then_names (statement_part site s) (map (statement_part site) ss) (every_names s) (body_names ss)
