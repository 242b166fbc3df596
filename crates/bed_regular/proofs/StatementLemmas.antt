-- Statements without a fault meet the demands of their blocks, once their arguments are resolved and `find` and `walk` are written out.
use Rattle.std.proofs.Common.{◌≡◌, ℕ, ◌+◌, Bool, true, false, not, ◌||◌, ◌⊎◌, inl, inr, Option, Some, None, List, [], ◌∷◌, ◌++◌, map, bytes_eq, refl, sym, ◌∙◌, ap, ap₂, subst, append-nil}
use Rattle.std.specs.Prelude.{◌&&◌}
use Rattle.bed_lang.specs.declared.word.Name.{Name}
use Rattle.bed_lang.specs.declared.word.Sort.{Sort}
use Rattle.bed_lang.specs.declared.logic.Arg.{Arg}
use Rattle.bed_lang.specs.declared.logic.Assertion.{Assertion}
use Rattle.bed_lang.specs.declared.module.Op.{Op}
use Rattle.bed_lang.specs.declared.module.Operand.{Operand}
use Rattle.bed_lang.specs.declared.module.Operand.TheVariants as operand
use Rattle.bed_lang.specs.declared.module.Place.{Place}
use Rattle.bed_lang.specs.declared.module.Test.{Test}
use Rattle.bed_lang.specs.declared.module.Join.{Join}
use Rattle.bed_lang.specs.declared.module.Hint.{Hint}
use Rattle.bed_lang.specs.declared.statement.Stmt.{Stmt, Stmt-F, roll-Stmt, ind-Stmt, fold-roll-Stmt, fold_out-Stmt}
use Rattle.bed_lang.specs.declared.statement.StmtKind.{StmtKind, StmtKind-F, roll-StmtKind, map-StmtKind, fold-roll-StmtKind, Assign, Compute, Load, LoadByte, Store, StoreByte, Call, If, While, Return, Hint as HintStmt}
use Rattle.bed_lang.specs.declared.statement.StmtKind.TheVariants.{rolls-Assign, rolls-Compute, rolls-Load, rolls-LoadByte, rolls-Store, rolls-StoreByte, rolls-Call, rolls-If, rolls-While, rolls-Return, rolls-Hint}
use Rattle.bed_lang.specs.declared.condition.Decls.{Decls}
use Rattle.bed_table.specs.ListLoops.{list_invariant, not_yet, not_null, is_key, field_at}
use Rattle.bed_sat.specs.Written.{statement, made_hint, made_test, unfold_at, fold_segment, fold_list, node_front, node_back, list_loop, joined, written_kind_step, written_step, written_kind, written_statement, written}
use Rattle.bed_laws.specs.Activations.{FunctionSite, IsAmong}
use Rattle.bed_laws.specs.StatementBlocks.{IsKnown}
use Rattle.bed_laws.specs.StatementBlocks as blocks
use Rattle.bed_names.specs.declared.error.NameError.{NameError}
use Rattle.bed_names.specs.declared.error.NameError.TheVariants.{Dead, MissingJoin, Unknown, Twice}
use Rattle.bed_names.specs.Faults.{fault_if, all_faults}
use Rattle.bed_names.specs.Names.{is_among}
use Rattle.bed_names.specs.Terms.{Visible}
use Rattle.bed_names.specs.Statements as names
use Rattle.bed_names.specs.Statements.{Surroundings, Judged, judged, judged_kind, falls_after, faults_after, falls_through, body_falls, body_faults, operand_faults, operands_faults, local_faults, via_faults, callee, callee_faults, join_faults}
use Rattle.bed_names.specs.Arguments.{changed_hint, changed_assertion, changed_join, changed_step, changed_stmt_step, changed_kind, changed_stmt}
use Rattle.bed_names.proofs.ArgumentLaws.{changed_layer, changed_below, changed_kind-roll}
use Rattle.bed_macro_call.specs.Room.{HasRoom}
use Rattle.bed_bodies.specs.Demands.{Demand, AreMet}
use Rattle.bed_bodies.specs.Bodies.{Built, row, nothing, answered, called, chosen, looped, reads, stops, kind_step, statement_step, kind_built, statement_built, body_built}
use Rattle.bed_bodies.proofs.BodyLaws.{met_both}
use Rattle.bed_sat.proofs.FrameLaws.{bytes_eq_is}

-- ---- lists without an item

pub no_front : {A : Type 0} (xs ys : List A) → xs ++ ys ≡ [] → xs ≡ []
no_front [] ys e = refl
no_front (x ∷ xs) ys e = absurd (cc)

pub no_back : {A : Type 0} (xs ys : List A) → xs ++ ys ≡ [] → ys ≡ []
no_back [] ys e = e
no_back (x ∷ xs) ys e = absurd (cc)

pub none_if : (b : Bool) (f : NameError) → fault_if b f ≡ [] → b ≡ false
none_if true f e = absurd (cc)
none_if false f e = refl

pub not_false : (b : Bool) → not b ≡ false → b ≡ true
not_false true e = refl
not_false false e = absurd (cc)

pub among_is : (xs : List Name) (x : Name) → is_among xs x ≡ true → IsAmong xs x.bytes
among_is [] x e = absurd (cc)
among_is (y ∷ ys) x e = by_first (bytes_eq x.bytes y.bytes) refl (λ later. among_is ys x later) e
  where
    by_first : (b : Bool) → bytes_eq x.bytes y.bytes ≡ b → (is_among ys x ≡ true → IsAmong ys x.bytes) → (b || is_among ys x) ≡ true → IsAmong (y ∷ ys) x.bytes
    by_first true is later e = inl (sym (bytes_eq_is x.bytes y.bytes is))
    by_first false is later e = inr (later e)

-- ---- what kinds of statements build

-- a statement is what its kind is
built-kind : (s : Stmt) → statement_built s ≡ kind_built s.kind
built-kind s = fold_out-Stmt Built Built kind_step statement_step s

built_is : (x : StmtKind-F StmtKind Stmt) (k : StmtKind) → roll-StmtKind x ≡ k → kind_built k ≡ kind_step (map-StmtKind _ _ _ _ kind_built statement_built x)
built_is x k e = ap kind_built (sym e) ∙ fold-roll-StmtKind Built Built kind_step statement_step x

-- ---- bodies whose demands are met

module _ (d : Decls) (c : FunctionSite) where
  -- the demands of statements are met, and control comes to their end or doesn't
  pub record AreRegular (body : List Stmt) (falls : Bool) : Type 0 where
    pub met : AreMet d c (body_built body).demands
    pub ends : (body_built body).falls ≡ falls

  met_join : (xs ys : List Demand) → AreMet d c xs → AreMet d c ys → AreMet d c (xs ++ ys)
  met_join [] ys mx my = my
  met_join (x ∷ xs) ys mx my = (mx.0, met_join xs ys mx.1 my)

  regular_nothing : AreRegular [] true
  regular_nothing = record { met = tt; ends = refl }

  regular_one : (at : ℕ) (k : StmtKind) (b : Built) (f : Bool) → kind_built k ≡ b → AreMet d c b.demands → b.falls ≡ f → AreRegular (statement at k ∷ []) f
  regular_one at k b f e m falls =
      let is : statement_built (statement at k) ≡ b = built-kind (statement at k) ∙ e in
      record { met = subst (λ (x : Built). AreMet d c x.demands) (sym is) m; ends = ap (λ (x : Built). x.falls) is ∙ falls }

  regular_then : (xs ys : List Stmt) (f : Bool) → AreRegular xs true → AreRegular ys f → AreRegular (xs ++ ys) f
  regular_then [] ys f rx ry = ry
  regular_then (x ∷ []) [] f rx ry = record { met = rx.met; ends = rx.ends ∙ ry.ends }
  regular_then (x ∷ []) (y ∷ ys) f rx ry = record {
    met = (rx.ends, met_join (statement_built x).demands (body_built (y ∷ ys)).demands rx.met ry.met);
    ends = ry.ends;
  }
  regular_then (x ∷ z ∷ zs) ys f rx ry =
      let parts = met_both d c (statement_built x).demands (body_built (z ∷ zs)).demands rx.met.1 in
      let r = regular_then (z ∷ zs) ys f (record { met = parts.1; ends = rx.ends }) ry in
      record { met = (rx.met.0, met_join (statement_built x).demands (body_built ((z ∷ zs) ++ ys)).demands parts.0 r.met); ends = r.ends }

  regular_cons : (s : Stmt) (ss : List Stmt) (f : Bool) → AreRegular (s ∷ []) true → AreRegular ss f → AreRegular (s ∷ ss) f
  regular_cons s ss f rs r = regular_then (s ∷ []) ss f rs r

  regular_hint : (at : ℕ) (h : Hint) → AreRegular (made_hint at h ∷ []) true
  regular_hint at h = regular_one at (HintStmt h) nothing true (built_is (StmtKind-F.Hint h) _ (rolls-Hint h)) tt refl

  regular_assign : (at : ℕ) (x : Name) (a : Operand) → IsAmong c.site.locals x.bytes → IsKnown c.site.locals a → AreRegular (statement at (Assign x a) ∷ []) true
  regular_assign at x a ix ia = regular_one at (Assign x a) _ true (built_is (StmtKind-F.Assign x a) _ (rolls-Assign x a)) (ix, (ia, tt)) refl

  regular_load : (at : ℕ) (x : Name) (p : Place) → IsAmong c.site.locals x.bytes → IsKnown c.site.locals p.base → AreRegular (statement at (Load x p) ∷ []) true
  regular_load at x p ix ip = regular_one at (Load x p) _ true (built_is (StmtKind-F.Load x p) _ (rolls-Load x p)) (ix, (ip, tt)) refl

  regular_while : (at : ℕ) (t : Test) (place : ℕ) (I : Assertion) (body : List Stmt) (f : Bool) → IsKnown c.site.locals t.left → IsKnown c.site.locals t.right → AreRegular body f
      → AreRegular (statement at (While t place I body) ∷ []) true
  regular_while at t place I body f il ir rb =
      regular_one at (While t place I body) (looped t I (body_built body)) true (built_is (StmtKind-F.While t place I body) _ (rolls-While t place I body)) (il, (ir, rb.met)) refl

  regular_if : (at : ℕ) (t : Test) (ys ns : List Stmt) (join : Option Join) (f g : Bool) → IsKnown c.site.locals t.left → IsKnown c.site.locals t.right
      → AreMet d c (stops join f g) → AreRegular ys f → AreRegular ns g → AreRegular (statement at (If t ys ns join) ∷ []) (f || g)
  regular_if at t ys ns join f g il ir once ry rn =
      let y = body_built ys in
      let n = body_built ns in
      let stop : AreMet d c (stops join y.falls n.falls) =
      subst (λ b. AreMet d c (stops join b n.falls)) (sym ry.ends) (subst (λ b. AreMet d c (stops join f b)) (sym rn.ends) once) in
      regular_one at (If t ys ns join) (chosen t y n join) (f || g) (built_is (StmtKind-F.If t ys ns join) _ (rolls-If t ys ns join))
      (il, (ir, met_join (stops join y.falls n.falls) (y.demands ++ n.demands) stop (met_join y.demands n.demands ry.met rn.met)))
      (ap₂ (λ a b. a || b) ry.ends rn.ends)

  -- the statements of a `find` or `walk`, by what is done at a node
  regular_list_loop : (at : ℕ) (n v p : Name) (I : Assertion) (visit : List Stmt) → IsAmong c.site.locals n.bytes → IsAmong c.site.locals v.bytes → IsAmong c.site.locals p.bytes
      → AreRegular visit true → AreRegular (list_loop at n v p I visit) true
  regular_list_loop at n v p I visit hn hv hp rv =
      let front : AreRegular (node_front at n v) true =
      regular_cons _ _ true (regular_hint at _) (regular_load at v (field_at n 0) hv hn) in
      let back : AreRegular (node_back at n v p) true =
      regular_cons _ _ true (regular_load at v (field_at n 4) hv hn) (regular_cons _ _ true (regular_hint at _) (regular_cons _ _ true (regular_hint at _)
      (regular_cons _ _ true (regular_hint at _) (regular_assign at n (operand.Local v) hn hv)))) in
      let turn = regular_then (node_front at n v) (visit ++ node_back at n v p) true front (regular_then visit (node_back at n v p) true rv back) in
      regular_cons _ _ true (regular_hint at _) (regular_cons _ _ true (regular_assign at n (operand.Local p) hn hp) (regular_cons _ _ true (regular_hint at _)
      (regular_cons _ _ true (regular_while at (made_test at (not_null n)) at I (node_front at n v ++ (visit ++ node_back at n v p)) true hn tt turn)
      (regular_cons _ _ true (regular_hint at _) (regular_hint at _)))))

  -- ---- statements without a fault

  module _ (change : Visible → Option Sort → Arg → Arg) (v : Visible) (i : Surroundings) (locals : i.locals ≡ c.site.locals)
      (room : (target : Operand) (via : Option Name) (args : List Operand) (at : ℕ) → callee_faults i.area (callee i.visible.decls target via) args at ≡ []
      → operand_faults i target ≡ [] → via_faults i via ≡ [] → HasRoom d c target via) where
    local_in : (x : Name) → local_faults i x ≡ [] → IsAmong c.site.locals x.bytes
    local_in x e = subst (λ l. IsAmong l x.bytes) locals (among_is i.locals x (not_false (is_among i.locals x) (none_if _ _ e)))

    known_if : (a : Operand) → operand_faults i a ≡ [] → IsKnown c.site.locals a
    known_if (operand.Number n) e = tt
    known_if (operand.Local x) e = local_in x e
    known_if (operand.Label f) e = tt

    reads_met : (args : List Operand) → operands_faults i args ≡ [] → AreMet d c (reads args)
    reads_met [] e = tt
    reads_met (a ∷ more) e = (known_if a (no_front (operand_faults i a) (operands_faults i more) e), reads_met more (no_back (operand_faults i a) (operands_faults i more) e))

    abbrev Fine : Stmt → Type 0
    Fine s = (judged i s).faults ≡ [] → AreRegular (written_statement (changed_stmt change v s)) (judged i s).falls

    abbrev KindFine : StmtKind → Type 0
    KindFine k = (at : ℕ) → (judged_kind i k at).faults ≡ [] → AreRegular (written_kind (changed_kind change v k) at) (judged_kind i k at).falls

    abbrev of_list : List ((s : Stmt) × Fine s) → List Stmt
    of_list ss = map (λ s. s.0) ss

    abbrev made : List Stmt → List Stmt
    made ss = joined (map written_statement (map (changed_stmt change v) ss))

    list_fine : (ss : List ((s : Stmt) × Fine s)) (b : Bool) → faults_after b (map (judged i) (of_list ss)) ≡ [] → AreRegular (made (of_list ss)) (falls_through (map (judged i) (of_list ss)))
    list_fine [] b e = regular_nothing
    list_fine (s ∷ []) b e =
        let own = no_front (judged i s.0).faults [] (no_back (fault_if (not b) (Dead (judged i s.0).at)) ((judged i s.0).faults ++ []) e) in
        subst (λ l. AreRegular l (judged i s.0).falls) (sym (append-nil (written_statement (changed_stmt change v s.0)))) (s.1 own)
    list_fine (s ∷ t ∷ ts) b e =
        let j = judged i s.0 in
        let later = faults_after j.falls (map (judged i) (of_list (t ∷ ts))) in
        let both = no_back (fault_if (not b) (Dead j.at)) (j.faults ++ later) e in
        let rest : later ≡ [] = no_back j.faults later both in
        let falls : j.falls ≡ true = not_false j.falls (none_if (not j.falls) (Dead (judged i t.0).at) (no_front (fault_if (not j.falls) (Dead (judged i t.0).at)) _ rest)) in
        regular_then (written_statement (changed_stmt change v s.0)) (made (of_list (t ∷ ts))) _
        (subst (AreRegular (written_statement (changed_stmt change v s.0))) falls (s.1 (no_front j.faults later both))) (list_fine (t ∷ ts) j.falls rest)

    not_both : (f g : Bool) → (f && g) ≡ false → (f ≡ false) ⊎ (g ≡ false)
    not_both true g e = inr e
    not_both false g e = inl refl

    stops_once : (join : Option Join) (at : ℕ) (f g : Bool) → join_faults i.visible at f g join ≡ [] → AreMet d c (stops (changed_join change v join) f g)
    stops_once None at f g e = (not_both f g (none_if (f && g) (MissingJoin at) e), tt)
    stops_once (Some j) at f g e = tt

    abbrev plain : StmtKind-F ((k : StmtKind) × KindFine k) ((s : Stmt) × Fine s) → StmtKind-F StmtKind Stmt
    plain y = map-StmtKind _ _ _ _ (λ k. k.0) (λ s. s.0) y

    abbrev judged_layer : StmtKind-F StmtKind Stmt → ℕ → Judged
    judged_layer x at = names.kind_step i (map-StmtKind _ _ _ _ (judged_kind i) (judged i) x) at

    abbrev written_layer : StmtKind-F StmtKind Stmt → ℕ → List Stmt
    written_layer x at = written_kind_step (map-StmtKind _ _ _ _ written_kind written_statement (changed_layer change v (changed_below change v x))) at

    layer : (y : StmtKind-F ((k : StmtKind) × KindFine k) ((s : Stmt) × Fine s)) (at : ℕ) → (judged_layer (plain y) at).faults ≡ [] → AreRegular (written_layer (plain y) at) (judged_layer (plain y) at).falls
    layer (StmtKind-F.Assign x a) at e = regular_assign at x a (local_in x (no_front (local_faults i x) (operand_faults i a) e)) (known_if a (no_back (local_faults i x) (operand_faults i a) e))
    layer (StmtKind-F.Compute x op a b) at e =
        let front = no_front (names.assign_faults i x a) (operand_faults i b) e in
        regular_one at (Compute x op a b) _ true (built_is (StmtKind-F.Compute x op a b) _ (rolls-Compute x op a b))
        (local_in x (no_front (local_faults i x) (operand_faults i a) front), (known_if a (no_back (local_faults i x) (operand_faults i a) front), (known_if b (no_back (names.assign_faults i x a) (operand_faults i b) e), tt))) refl
    layer (StmtKind-F.Load x p) at e = regular_load at x p (local_in x (no_front (local_faults i x) (operand_faults i p.base) e)) (known_if p.base (no_back (local_faults i x) (operand_faults i p.base) e))
    layer (StmtKind-F.LoadByte x p) at e =
        regular_one at (LoadByte x p) _ true (built_is (StmtKind-F.LoadByte x p) _ (rolls-LoadByte x p))
        (local_in x (no_front (local_faults i x) (operand_faults i p.base) e), (known_if p.base (no_back (local_faults i x) (operand_faults i p.base) e), tt)) refl
    layer (StmtKind-F.Store p a) at e =
        regular_one at (Store p a) _ true (built_is (StmtKind-F.Store p a) _ (rolls-Store p a))
        (known_if p.base (no_front (operand_faults i p.base) (operand_faults i a) e), (known_if a (no_back (operand_faults i p.base) (operand_faults i a) e), tt)) refl
    layer (StmtKind-F.StoreByte p a) at e =
        regular_one at (StoreByte p a) _ true (built_is (StmtKind-F.StoreByte p a) _ (rolls-StoreByte p a))
        (known_if p.base (no_front (operand_faults i p.base) (operand_faults i a) e), (known_if a (no_back (operand_faults i p.base) (operand_faults i a) e), tt)) refl
    layer (StmtKind-F.Call place x target via args hints after) at e =
        let head = no_front (names.call_head_faults i place x target via args) _ e in
        let r1 = no_back (local_faults i x) _ head in
        let r2 = no_back (callee_faults i.area (callee i.visible.decls target via) args place) _ r1 in
        let r3 = no_back (operand_faults i target) _ r2 in
        let to = no_front (operand_faults i target) _ r2 in
        regular_one at (Call place x target via args (map (changed_hint change v) hints) (changed_assertion change v after)) (called x target via args) true
        (built_is (StmtKind-F.Call place x target via args (map (changed_hint change v) hints) (changed_assertion change v after)) _ (rolls-Call place x target via args (map (changed_hint change v) hints) (changed_assertion change v after))) (
          local_in x (no_front (local_faults i x) _ head),
          (
            known_if target to,
            (
              room target via args place (no_front (callee_faults i.area (callee i.visible.decls target via) args place) _ r1) to (no_front (via_faults i via) _ r3),
              reads_met args (no_back (via_faults i via) (operands_faults i args) r3),
            ),
          ),
        ) refl
    layer (StmtKind-F.If test ys ns join) at e =
        let jy = map (judged i) (of_list ys) in
        let jn = map (judged i) (of_list ns) in
        let tested = no_front (names.test_faults i test) _ e in
        let r1 = no_back (names.test_faults i test) _ e in
        let r2 = no_back (names.list_faults jy) _ r1 in
        regular_if at test (made (of_list ys)) (made (of_list ns)) (changed_join change v join) (falls_through jy) (falls_through jn)
        (known_if test.left (no_front (operand_faults i test.left) (operand_faults i test.right) tested)) (known_if test.right (no_back (operand_faults i test.left) (operand_faults i test.right) tested))
        (stops_once join at (falls_through jy) (falls_through jn) (no_back (names.list_faults jn) _ r2))
        (list_fine ys true (no_front (names.list_faults jy) _ r1)) (list_fine ns true (no_front (names.list_faults jn) _ r2))
    layer (StmtKind-F.While test place invariant body) at e =
        let jb = map (judged i) (of_list body) in
        let tested = no_front (names.test_faults i test) _ e in
        let r1 = no_back (names.test_faults i test) _ e in
        regular_while at test place _ (made (of_list body)) (falls_through jb)
        (known_if test.left (no_front (operand_faults i test.left) (operand_faults i test.right) tested)) (known_if test.right (no_back (operand_faults i test.left) (operand_faults i test.right) tested))
        (list_fine body true (no_back _ (names.list_faults jb) r1))
    layer (StmtKind-F.Return a) at e = regular_one at (Return a) (answered a) false (built_is (StmtKind-F.Return a) _ (rolls-Return a)) (known_if a e, tt) refl
    layer (StmtKind-F.Hint h) at e = regular_hint at _
    layer (StmtKind-F.Find n x a p s u t keep body) at e =
        let jb = map (judged i) (of_list body) in
        let head = no_front (names.find_faults i n x a p s u t keep) _ e in
        let r0 = no_back (names.find_faults i n x a p s u t keep) _ e in
        let once : falls_through jb ≡ false = none_if (falls_through jb) (MissingJoin at) (no_back (names.list_faults jb) _ r0) in
        let r1 = no_back (local_faults i n) _ head in
        let value = no_back (fault_if (bytes_eq x.bytes n.bytes) (Twice x.at)) _ (no_front (names.other_local_faults i (bytes_eq x.bytes n.bytes) x) _ r1) in
        let r2 = no_back (names.other_local_faults i (bytes_eq x.bytes n.bytes) x) _ r1 in
        let key = no_back _ (operand_faults i a) (no_front (names.key_faults i _ a) _ r2) in
        let r3 = no_back (names.key_faults i _ a) _ r2 in
        let list = no_back _ (local_faults i p) (no_front (names.other_local_faults i _ p) _ r3) in
        let test = made_test at (is_key x a) in
        let hv = local_in x value in
        regular_list_loop at n x p _ (statement at (If test (made (of_list body)) [] None) ∷ []) (local_in n (no_front (local_faults i n) _ head)) hv (local_in p list)
        (subst (AreRegular (statement at (If test (made (of_list body)) [] None) ∷ [])) (ap (λ f. f || true) once)
        (regular_if at test (made (of_list body)) [] None (falls_through jb) true hv (known_if a key) (inl once, tt) (list_fine body true (no_front (names.list_faults jb) _ r0)) regular_nothing))
    layer (StmtKind-F.Walk n x p s u t keep body) at e =
        let jb = map (judged i) (of_list body) in
        let head = no_front (names.walk_faults i n x p s u t keep) _ e in
        let r0 = no_back (names.walk_faults i n x p s u t keep) _ e in
        let falls : falls_through jb ≡ true = not_false (falls_through jb) (none_if (not (falls_through jb)) (Dead at) (no_back (names.list_faults jb) _ r0)) in
        let r1 = no_back (local_faults i n) _ head in
        let value = no_back _ (local_faults i x) (no_front (names.other_local_faults i _ x) _ r1) in
        let r3 = no_back (names.other_local_faults i _ x) _ r1 in
        let list = no_back _ (local_faults i p) (no_front (names.other_local_faults i _ p) _ r3) in
        regular_list_loop at n x p _ (made (of_list body)) (local_in n (no_front (local_faults i n) _ head)) (local_in x value) (local_in p list)
        (subst (AreRegular (made (of_list body))) falls (list_fine body true (no_front (names.list_faults jb) _ r0)))

    every_fine : (s : Stmt) → Fine s
    every_fine =
        ind-Stmt KindFine Fine
        (λ x y is at e.
        let jr : judged_kind i (roll-StmtKind x) at ≡ judged_layer x at = ap (λ f. f at) (fold-roll-StmtKind (ℕ → Judged) Judged (names.kind_step i) (names.stmt_step i) x) in
        let wr : written_kind (changed_kind change v (roll-StmtKind x)) at ≡ written_layer x at =
        ap (λ k. written_kind k at) (changed_kind-roll change v x) ∙ ap (λ f. f at) (fold-roll-StmtKind (ℕ → List Stmt) (List Stmt) written_kind_step written_step (changed_layer change v (changed_below change v x))) in
        subst (λ (j : Judged). AreRegular (written_kind (changed_kind change v (roll-StmtKind x)) at) j.falls) (sym jr)
        (subst (λ w. AreRegular w (judged_layer x at).falls) (sym wr)
        (subst (λ z. (judged_layer z at).faults ≡ [] → AreRegular (written_layer z at) (judged_layer z at).falls) is (layer y at) (ap (λ (j : Judged). j.faults) (sym jr) ∙ e))))
        (λ x y is e.
        let jr : judged i (roll-Stmt x) ≡ record (judged_kind i x.kind x.at) { at = x.at } = fold-roll-Stmt (ℕ → Judged) Judged (names.kind_step i) (names.stmt_step i) x in
        let wr : written_statement (changed_stmt change v (roll-Stmt x)) ≡ written_kind (changed_kind change v x.kind) x.at =
        ap written_statement (fold-roll-Stmt StmtKind Stmt (changed_step change v) (changed_stmt_step change v) x)
        ∙ fold_out-Stmt (ℕ → List Stmt) (List Stmt) written_kind_step written_step (record { at = x.at; kind = changed_kind change v x.kind }) in
        subst (λ (j : Judged). AreRegular (written_statement (changed_stmt change v (roll-Stmt x))) j.falls) (sym jr)
        (subst (λ w. AreRegular w (judged_kind i x.kind x.at).falls) (sym wr)
        (subst (λ z. (judged_kind i z.kind z.at).faults ≡ [] → AreRegular (written_kind (changed_kind change v z.kind) z.at) (judged_kind i z.kind z.at).falls) is (y.kind.1 y.at) (ap (λ (j : Judged). j.faults) (sym jr) ∙ e))))

    with_facts : (body : List Stmt) → List ((s : Stmt) × Fine s)
    with_facts [] = []
    with_facts (s ∷ ss) = (s, every_fine s) ∷ with_facts ss

    facts_of : (body : List Stmt) → of_list (with_facts body) ≡ body
    unfolding with_facts
    facts_of [] = refl
    facts_of (s ∷ ss) = ap (λ (l : List Stmt). s ∷ l) (facts_of ss)

    -- a body without a fault
    pub body_fine : (body : List Stmt) → body_faults i body ≡ [] → AreRegular (written (map (changed_stmt change v) body)) (body_falls i body)
    body_fine body =
        subst (λ (b : List Stmt). body_faults i b ≡ [] → AreRegular (written (map (changed_stmt change v) b)) (body_falls i b)) (facts_of body) (list_fine (with_facts body) true)
