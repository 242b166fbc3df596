-- The blocks of each body keep both laws, where its demands are met.
use Rattle.std.proofs.Common.{◌≡◌, ℕ, ◌+◌, ◌⊎◌, inl, inr, Bool, true, false, ◌||◌, Option, Some, None, List, [], ◌∷◌, ◌++◌, map, refl, sym, ◌∙◌, ap, ap₂, subst}
use Rattle.bed_lang.specs.declared.logic.Assertion.{Assertion}
use Rattle.bed_lang.specs.declared.module.Operand.{Operand}
use Rattle.bed_lang.specs.declared.module.Join.{Join}
use Rattle.bed_lang.specs.declared.module.Test.{Test}
use Rattle.bed_lang.specs.declared.condition.Decls.{Decls}
use Rattle.bed_lang.specs.declared.statement.Stmt.{Stmt, roll-Stmt, ind-Stmt, fold-roll-Stmt}
use Rattle.bed_lang.specs.declared.statement.StmtKind.{StmtKind, StmtKind-F, roll-StmtKind, map-StmtKind, fold-roll-StmtKind, If, While, Find, Walk}
use Rattle.bed_lang.specs.declared.statement.StmtKind.TheVariants.{rolls-Assign, rolls-Compute, rolls-Load, rolls-LoadByte, rolls-Store, rolls-StoreByte, rolls-Call, rolls-If, rolls-While, rolls-Return, rolls-Hint, rolls-Find, rolls-Walk}
use Rattle.bed_table.specs.Code.{body_piece}
use Rattle.bed_table.proofs.CodeLemmas.{piece-kind, piece-Find, piece-Walk}
use Rattle.bed_laws.specs.Activations.{FunctionSite}
use Rattle.bed_laws.specs.Statements.{IsJoined}
use Rattle.bed_laws.specs.StatementBlocks.{assign_block, compute_block, load_block, load_byte_block, store_block, store_byte_block, return_block, empty_block, jump_count}
use Rattle.bed_laws.proofs.CallLaws.{AreKnown}
use Rattle.bed_laws.proofs.StatementLaws.{empty_law}
use Rattle.bed_laws.proofs.LayLaws.{empty_lays}
use Rattle.bed_laws.proofs.StatementsLaws.{piece-choice, piece-loop}
use Rattle.bed_laws.proofs.ControlStatements.{body_end, choice_lay, loop_lay}
use Rattle.bed_laws.proofs.MacroLaws.{just_after, outside_back, outside_no, outside_body, then_spans, then_numbered, then_keeps, then_lays, choice_spans, choice_numbered, choice_keeps, loop_spans, loop_numbered, loop_keeps}
use Rattle.bed_macro_data.specs.Kinds.{statement}
use Rattle.bed_macro_data.specs.StatementLaws.{spans_one, assign_falls, assign_keeps, assign_lay, compute_falls, compute_keeps, compute_lay, load_falls, load_keeps, load_lay, store_falls, store_keeps, store_lay, hint_falls, hint_keeps, hint_lay, return_falls, return_keeps, return_lay}
use Rattle.bed_macro_call.specs.CallStatements.{call_falls, call_spans, call_keeps, call_lay}
use Rattle.bed_bodies.specs.Demands.{Demand, AreMet}
use Rattle.bed_bodies.specs.Bodies.{Built, nothing, followed, in_row, reads, stops, chosen, looped, kind_step, statement_step, kind_built, statement_built, body_built}
use Rattle.bed_bodies.specs.Laws.{AreOf}

-- ---- demands

pub met_both : (d : Decls) (c : FunctionSite) (xs ys : List Demand) → AreMet d c (xs ++ ys) → AreMet d c xs × AreMet d c ys
met_both d c [] ys m = (tt, m)
met_both d c (x ∷ xs) ys m = let r = met_both d c xs ys m.1 in ((m.0, r.0), r.1)

known_reads : (d : Decls) (c : FunctionSite) (args : List Operand) → AreMet d c (reads args) → AreKnown c.site.locals args
known_reads d c [] m = tt
known_reads d c (a ∷ as') m = (m.0, known_reads d c as' m.1)

is_joined : (d : Decls) (c : FunctionSite) (join : Option Join) (ys ns : List Stmt) (f g : Bool) → (body_piece ys).falls ≡ f → (body_piece ns).falls ≡ g → AreMet d c (stops join f g) → IsJoined join ys ns
is_joined d c (Some j) ys ns f g ef eg m e = absurd (cc)
is_joined d c None ys ns f g ef eg m e = one m.0
  where
    one : (f ≡ false) ⊎ (g ≡ false) → ((body_piece ys).falls ≡ false) ⊎ ((body_piece ns).falls ≡ false)
    one (inl p) = inl (ef ∙ p)
    one (inr p) = inr (eg ∙ p)

-- ---- no statement, and parts in a row

pub nothing_laws : AreOf [] nothing
nothing_laws = record {
  falls = refl;
  spans = λ locals first next. spans_one (empty_block first next);
  numbered = λ locals first next. refl;
  keeps = λ w c met distinct places first next out from. empty_law w c places first next out from;
  lays = λ d c met first next out. empty_lays c.site.locals first next;
}

pub followed_laws : (s t : Stmt) (ss : List Stmt) (a b : Built) → AreOf (s ∷ []) a → AreOf (t ∷ ss) b → AreOf (s ∷ (t ∷ ss)) (followed a b)
followed_laws s t ss a b la lb = record {
  falls = lb.falls;
  spans = λ locals first next. then_spans (a.code locals first (first + a.count)) (b.code locals (first + a.count) next) (a.heads first) (b.heads (first + a.count)) first a.count b.count
      (la.spans locals first (first + a.count)) (lb.spans locals (first + a.count) next);
  numbered = λ locals first next. then_numbered (a.code locals first (first + a.count)) (b.code locals (first + a.count) next) a.count b.count (la.numbered locals first (first + a.count)) (lb.numbered locals (first + a.count) next);
  keeps = λ w c met distinct places first next out.
      let m = met_both w.decls c a.demands b.demands met.1 in
      let locals = c.site.locals in
      then_keeps w c places (a.code locals first (first + a.count)) (b.code locals (first + a.count) next) (a.heads first) (b.heads (first + a.count)) first a.count b.count next
      (la.spans locals first (first + a.count)) (lb.spans locals (first + a.count) next) out (s ∷ []) (t ∷ ss)
      (la.keeps w c m.0 distinct places first (first + a.count) (just_after first a.count))
      (lb.keeps w c m.1 distinct places (first + a.count) next (outside_back first a.count b.count next out));
  lays = λ d c met first next out.
      let m = met_both d c a.demands b.demands met.1 in
      let locals = c.site.locals in
      then_lays locals (a.code locals first (first + a.count)) (b.code locals (first + a.count) next) (a.heads first) (b.heads (first + a.count)) first a.count b.count next
      (la.spans locals first (first + a.count)) (lb.spans locals (first + a.count) next) (s ∷ []) (t ∷ ss) (la.falls ∙ met.0)
      (la.lays d c m.0 first (first + a.count) (just_after first a.count))
      (lb.lays d c m.1 (first + a.count) next (outside_back first a.count b.count next out));
}

-- ---- tests

pub chosen_laws : (at : ℕ) (t : Test) (ys ns : List Stmt) (join : Option Join) (y n : Built) → AreOf ys y → AreOf ns n → AreOf (statement at (If t ys ns join) ∷ []) (chosen t y n join)
chosen_laws at t ys ns join y n ly ln = record {
  falls = ap (λ p. p.falls) (piece-choice at t ys ns join) ∙ ap₂ (λ f g. f || g) ly.falls ln.falls;
  spans = λ locals first next.
      let other = first + 1 + y.count + jump_count y.falls in
      choice_spans locals t y.falls (y.code locals (first + 1) (first + 1 + y.count)) (n.code locals other next) (y.heads (first + 1)) (n.heads other) first y.count n.count next
      (ly.spans locals (first + 1) (first + 1 + y.count)) (ln.spans locals other next);
  numbered = λ locals first next.
      let other = first + 1 + y.count + jump_count y.falls in
      choice_numbered locals t y.falls (y.code locals (first + 1) (first + 1 + y.count)) (n.code locals other next) (y.heads (first + 1)) (n.heads other) first y.count n.count next
      (ly.numbered locals (first + 1) (first + 1 + y.count)) (ln.numbered locals other next);
  keeps = λ w c met distinct places first next out.
      let locals = c.site.locals in
      let other = first + 1 + y.count + jump_count y.falls in
      let j = met_both w.decls c (stops join y.falls n.falls) (y.demands ++ n.demands) met.1.1 in
      let m = met_both w.decls c y.demands n.demands j.1 in
      choice_keeps w c places t met.0 met.1.0 at ys ns join y.falls ly.falls (is_joined w.decls c join ys ns y.falls n.falls ly.falls ln.falls j.0)
      (y.code locals (first + 1) (first + 1 + y.count)) (n.code locals other next) (y.heads (first + 1)) (n.heads other) first y.count n.count next
      (ly.spans locals (first + 1) (first + 1 + y.count)) (ln.spans locals other next) out
      (ly.keeps w c m.0 distinct places (first + 1) (first + 1 + y.count) (just_after (first + 1) y.count))
      (ln.keeps w c m.1 distinct places other next (outside_no y.falls first y.count n.count next out));
  lays = λ d c met first next out.
      let locals = c.site.locals in
      let other = first + 1 + y.count + jump_count y.falls in
      let j = met_both d c (stops join y.falls n.falls) (y.demands ++ n.demands) met.1.1 in
      let m = met_both d c y.demands n.demands j.1 in
      choice_lay locals t at ys ns join
      (y.code locals (first + 1) (first + 1 + y.count)) (n.code locals other next) (y.heads (first + 1)) (n.heads other) first y.count n.count next
      (ly.spans locals (first + 1) (first + 1 + y.count)) y.falls ly.falls (ln.spans locals other next)
      (ly.lays d c m.0 (first + 1) (first + 1 + y.count) (just_after (first + 1) y.count))
      (ln.lays d c m.1 other next (outside_no y.falls first y.count n.count next out));
}

pub looped_laws : (at : ℕ) (t : Test) (place : ℕ) (I : Assertion) (body : List Stmt) (b : Built) → AreOf body b → AreOf (statement at (While t place I body) ∷ []) (looped t I b)
looped_laws at t place I body b lb = record {
  falls = ap (λ p. p.falls) (piece-loop at t place I body);
  spans = λ locals first next.
      let end = body_end b.falls (first + 1 + b.count) next in
      loop_spans locals t I b.falls (b.code locals (first + 1) end) (b.heads (first + 1)) first b.count next (lb.spans locals (first + 1) end);
  numbered = λ locals first next.
      let end = body_end b.falls (first + 1 + b.count) next in
      loop_numbered locals t I b.falls (b.code locals (first + 1) end) (b.heads (first + 1)) first b.count next (lb.numbered locals (first + 1) end);
  keeps = λ w c met distinct places first next out.
      let locals = c.site.locals in
      let end = body_end b.falls (first + 1 + b.count) next in
      loop_keeps w c places t met.0 met.1.0 at place I body b.falls lb.falls (b.code locals (first + 1) end) (b.heads (first + 1)) first b.count next (lb.spans locals (first + 1) end) out
      (lb.keeps w c met.1.1 distinct places (first + 1) end (outside_body b.falls first b.count next out));
  lays = λ d c met first next out.
      let locals = c.site.locals in
      let end = body_end b.falls (first + 1 + b.count) next in
      loop_lay locals t at place I body (b.code locals (first + 1) end) (b.heads (first + 1)) first b.count next (lb.spans locals (first + 1) end) b.falls lb.falls
      (lb.lays d c met.1.1 (first + 1) end (outside_body b.falls first b.count next out));
}

-- ---- every statement

abbrev KindLaws : StmtKind → Type 0
KindLaws k = (at : ℕ) → AreOf (statement at k ∷ []) (kind_built k)

abbrev StatementLaws : Stmt → Type 0
StatementLaws s = AreOf (s ∷ []) (statement_built s)

abbrev of_list : List ((s : Stmt) × StatementLaws s) → List Stmt
of_list ss = map (λ s. s.0) ss

row_laws : (s : (s : Stmt) × StatementLaws s) (ss : List ((s : Stmt) × StatementLaws s)) → AreOf (s.0 ∷ of_list ss) (in_row (statement_built s.0) (map statement_built (of_list ss)))
row_laws s [] = s.1
row_laws s (t ∷ ss) = followed_laws s.0 t.0 (of_list ss) (statement_built s.0) (in_row (statement_built t.0) (map statement_built (of_list ss))) s.1 (row_laws t ss)

list_laws : (ss : List ((s : Stmt) × StatementLaws s)) → AreOf (of_list ss) (body_built (of_list ss))
list_laws [] = nothing_laws
list_laws (s ∷ ss) = row_laws s ss

-- one kind: the statement that it rolls up to
abbrev Layer : StmtKind-F ((k : StmtKind) × KindLaws k) ((s : Stmt) × StatementLaws s) → ℕ → Type 0
Layer y at =
    AreOf (statement at (roll-StmtKind (map-StmtKind _ _ _ _ (λ e. e.0) (λ e. e.0) y)) ∷ [])
    (kind_step (map-StmtKind _ _ _ _ kind_built statement_built (map-StmtKind _ _ _ _ (λ e. e.0) (λ e. e.0) y)))

at_kind : (at : ℕ) (k l : StmtKind) (b : Built) → k ≡ l → AreOf (statement at l ∷ []) b → AreOf (statement at k ∷ []) b
at_kind at k l b e law = subst (λ m. AreOf (statement at m ∷ []) b) (sym e) law

layer : (y : StmtKind-F ((k : StmtKind) × KindLaws k) ((s : Stmt) × StatementLaws s)) (at : ℕ) → Layer y at
layer (StmtKind-F.Assign x a) at =
    at_kind at _ _ _ (rolls-Assign x a) record {
      falls = assign_falls at x a;
      spans = λ locals first next. spans_one (assign_block locals x a first next);
      numbered = λ locals first next. refl;
      keeps = λ w c met distinct places first next out. assign_keeps at x a w c (met.0, met.1.0) distinct places first next out;
      lays = λ d c met first next out. assign_lay at x a c.site.locals first next;
    }
layer (StmtKind-F.Compute x op a b) at =
    at_kind at _ _ _ (rolls-Compute x op a b) record {
      falls = compute_falls at x op a b;
      spans = λ locals first next. spans_one (compute_block locals x op a b first next);
      numbered = λ locals first next. refl;
      keeps = λ w c met distinct places first next out. compute_keeps at x op a b w c (met.0, met.1.0, met.1.1.0) distinct places first next out;
      lays = λ d c met first next out. compute_lay at x op a b c.site.locals first next;
    }
layer (StmtKind-F.Load x p) at =
    at_kind at _ _ _ (rolls-Load x p) record {
      falls = load_falls at false x p;
      spans = λ locals first next. spans_one (load_block locals x p first next);
      numbered = λ locals first next. refl;
      keeps = λ w c met distinct places first next out. load_keeps at false x p w c (met.0, met.1.0) distinct places first next out;
      lays = λ d c met first next out. load_lay at false x p c.site.locals first next;
    }
layer (StmtKind-F.LoadByte x p) at =
    at_kind at _ _ _ (rolls-LoadByte x p) record {
      falls = load_falls at true x p;
      spans = λ locals first next. spans_one (load_byte_block locals x p first next);
      numbered = λ locals first next. refl;
      keeps = λ w c met distinct places first next out. load_keeps at true x p w c (met.0, met.1.0) distinct places first next out;
      lays = λ d c met first next out. load_lay at true x p c.site.locals first next;
    }
layer (StmtKind-F.Store p a) at =
    at_kind at _ _ _ (rolls-Store p a) record {
      falls = store_falls at false p a;
      spans = λ locals first next. spans_one (store_block locals p a first next);
      numbered = λ locals first next. refl;
      keeps = λ w c met distinct places first next out. store_keeps at false p a w c (met.0, met.1.0) places first next out;
      lays = λ d c met first next out. store_lay at false p a c.site.locals first next;
    }
layer (StmtKind-F.StoreByte p a) at =
    at_kind at _ _ _ (rolls-StoreByte p a) record {
      falls = store_falls at true p a;
      spans = λ locals first next. spans_one (store_byte_block locals p a first next);
      numbered = λ locals first next. refl;
      keeps = λ w c met distinct places first next out. store_keeps at true p a w c (met.0, met.1.0) places first next out;
      lays = λ d c met first next out. store_lay at true p a c.site.locals first next;
    }
layer (StmtKind-F.Call place x target via args hints after) at =
    at_kind at _ _ _ (rolls-Call place x target via args hints after) record {
      falls = call_falls at place x target via args hints after;
      spans = λ locals first next. call_spans at place x target via args hints after locals first next;
      numbered = λ locals first next. refl;
      keeps = λ w c met distinct places first next out.
          call_keeps at place x target via args hints after w c (met.0, met.1.0, known_reads w.decls c args met.1.1.1, met.1.1.0) distinct places first next out;
      lays = λ d c met first next out. call_lay at place x target via args hints after c.site.locals first next;
    }
layer (StmtKind-F.If test ys ns join) at =
    at_kind at _ _ _ (rolls-If test (of_list ys) (of_list ns) join) (chosen_laws at test (of_list ys) (of_list ns) join (body_built (of_list ys)) (body_built (of_list ns)) (list_laws ys) (list_laws ns))
layer (StmtKind-F.While test place invariant body) at =
    at_kind at _ _ _ (rolls-While test place invariant (of_list body)) (looped_laws at test place invariant (of_list body) (body_built (of_list body)) (list_laws body))
layer (StmtKind-F.Return a) at =
    at_kind at _ _ _ (rolls-Return a) record {
      falls = return_falls at a;
      spans = λ locals first next. spans_one (return_block locals a first);
      numbered = λ locals first next. refl;
      keeps = λ w c met distinct places first next out. return_keeps at a w c met.0 places first next;
      lays = λ d c met first next out. return_lay at a c.site.locals first next;
    }
layer (StmtKind-F.Hint h) at =
    at_kind at _ _ _ (rolls-Hint h) record {
      falls = hint_falls at h;
      spans = λ locals first next. spans_one (empty_block first next);
      numbered = λ locals first next. refl;
      keeps = λ w c met distinct places first next out. hint_keeps at h w c places first next out;
      lays = λ d c met first next out. hint_lay at h c.site.locals first next;
    }
layer (StmtKind-F.Find n v a p s u t keep body) at =
    at_kind at _ _ _ (rolls-Find n v a p s u t keep (of_list body)) record {
      falls = ap (λ q. q.falls) (piece-kind (statement at (Find n v a p s u t keep (of_list body))) ∙ piece-Find n v a p s u t keep (of_list body));
      spans = λ locals first next. spans_one (empty_block first next);
      numbered = λ locals first next. refl;
      keeps = λ w c met distinct places first next out. absurd met.0;
      lays = λ d c met first next out. absurd met.0;
    }
layer (StmtKind-F.Walk n v p s u t keep body) at =
    at_kind at _ _ _ (rolls-Walk n v p s u t keep (of_list body)) record {
      falls = ap (λ q. q.falls) (piece-kind (statement at (Walk n v p s u t keep (of_list body))) ∙ piece-Walk n v p s u t keep (of_list body));
      spans = λ locals first next. spans_one (empty_block first next);
      numbered = λ locals first next. refl;
      keeps = λ w c met distinct places first next out. absurd met.0;
      lays = λ d c met first next out. absurd met.0;
    }

every_law : (s : Stmt) → StatementLaws s
every_law =
    ind-Stmt KindLaws StatementLaws
    (λ x y is at.
    subst (λ b. AreOf (statement at (roll-StmtKind x) ∷ []) b) (sym (fold-roll-StmtKind Built Built kind_step statement_step x))
    (subst (λ z. AreOf (statement at (roll-StmtKind z) ∷ []) (kind_step (map-StmtKind _ _ _ _ kind_built statement_built z))) is (layer y at)))
    (λ x y is.
    subst (λ b. AreOf (roll-Stmt x ∷ []) b) (sym (fold-roll-Stmt Built Built kind_step statement_step x))
    (subst (λ z. AreOf (roll-Stmt z ∷ []) (kind_built z.kind)) is (y.kind.1 y.at)))

with_laws : (body : List Stmt) → List ((s : Stmt) × StatementLaws s)
with_laws [] = []
with_laws (s ∷ ss) = (s, every_law s) ∷ with_laws ss

laws_of : (body : List Stmt) → of_list (with_laws body) ≡ body
unfolding with_laws
laws_of [] = refl
laws_of (s ∷ ss) = ap (λ (l : List Stmt). s ∷ l) (laws_of ss)

-- the blocks of a body keep its laws
pub body_laws : (body : List Stmt) → AreOf body (body_built body)
body_laws body = subst (λ (b : List Stmt). AreOf b (body_built b)) (laws_of body) (list_laws (with_laws body))
