-- A path goes on after statements that fall through, where no statement follows one that can't.
use Rattle.std.proofs.Common.{◌≡◌, ℕ, Bool, true, false, ◌&&◌, ◌||◌, Option, Some, None, IsSome, option_map, option_and_then, List, [], ◌∷◌, map, inl, inr, refl, sym, ◌∙◌, ap, ap₂, subst}
use Rattle.std.specs.Option.{option_or}
use Rattle.std.proofs.lemmas.Bool.{and_parts, or_cases}
use Rattle.bed_lang.specs.declared.word.Name.{Name}
use Rattle.bed_lang.specs.declared.logic.Assertion.{Assertion}
use Rattle.bed_lang.specs.declared.module.Operand.{Operand}
use Rattle.bed_lang.specs.declared.module.Hint.{Hint}
use Rattle.bed_lang.specs.declared.module.Join.{Join}
use Rattle.bed_lang.specs.declared.module.Test.{Test}
use Rattle.bed_lang.specs.declared.statement.Stmt.{Stmt, roll-Stmt, ind-Stmt, fold-roll-Stmt, fold_out-Stmt}
use Rattle.bed_lang.specs.declared.statement.StmtKind.{StmtKind, StmtKind-F, roll-StmtKind, map-StmtKind, fold-roll-StmtKind, Assign, Call, If, Return, Hint as HintStmt}
use Rattle.bed_lang.specs.declared.statement.StmtKind.TheVariants.{rolls-Assign, rolls-Call, rolls-If, rolls-Return, rolls-Hint}
use Rattle.bed_table.specs.Pieces.{Piece, falls_after}
use Rattle.bed_table.specs.Code.{kind_row, statement_row, kind_piece, piece, body_piece}
use Rattle.bed_sat.specs.Written.{statement}
use Rattle.bed_sat.specs.Conditions.{Site, Path, Part, in_order, part_step, choice, where_true, where_false, kind_part_step, kind_part, statement_part, body_part}
use Rattle.bed_sat.specs.ConditionLaws.{Flow, flow_after, flow_in_order, kind_flow_step, flow_step, kind_flow, statement_flow, is_live, PathsGoOn}
use Rattle.bed_sat.specs.BodyExamples.{LiveBodiesExample}

none_is_some : IsSome {T = Path} None → ⊥
none_is_some some = let no : ◌≡◌ {A = Bool} false true = some in cc

first_some : (a b : Option Path) → IsSome a → IsSome (option_or a b)
first_some None b some = absurd (none_is_some some)
first_some (Some p) b some = refl

second_some : (a b : Option Path) → IsSome b → IsSome (option_or a b)
second_some None b some = some
second_some (Some p) b some = refl

mapped_some : (f : Path → Path) (o : Option Path) → IsSome o → IsSome (option_map f o)
mapped_some f None some = absurd (none_is_some some)
mapped_some f (Some p) some = refl

-- a part goes on where its flow falls through
abbrev GoesOn : Flow → Part → Type 0
GoesOn flow part = flow.live ≡ true → flow.falls ≡ true → (p : Path) → IsSome (part.goes_on p)

module _ (site : Site) where
  abbrev Goes : Flow → Piece → Part → Type 0
  Goes flow code part = (flow.falls ≡ code.falls) × GoesOn flow part

  abbrev KindGoes : StmtKind → Type 0
  KindGoes k = (at : ℕ) → Goes (kind_flow k) (kind_piece k) (kind_part site k at)

  abbrev StatementGoes : Stmt → Type 0
  StatementGoes s = Goes (statement_flow s) (piece s) (statement_part site s)

  either_goes : (t : Test) (ys ns : Flow) (yp np : Part) → GoesOn ys yp → GoesOn ns np → (ys.live && ns.live) ≡ true → (ys.falls || ns.falls) ≡ true
      → (p : Path) → IsSome (option_or (yp.goes_on (where_true t p)) (np.goes_on (where_false t p)))
  either_goes t ys ns yp np hy hn live falls p =
      let l = and_parts ys.live ns.live live in
      elim (or_cases ys.falls ns.falls falls) [
        | inl e ↦ first_some _ _ (hy l.0 e (where_true t p))
        | inr e ↦ second_some _ _ (hn l.1 e (where_false t p))
      ]

  choice_goes : (t : Test) (ys ns : Flow) (yp np : Part) (j : Option Join) → GoesOn ys yp → GoesOn ns np → (ys.live && ns.live) ≡ true → (ys.falls || ns.falls) ≡ true
      → (p : Path) → IsSome ((choice site t yp np j).goes_on p)
  choice_goes t ys ns yp np None hy hn live falls p = either_goes t ys ns yp np hy hn live falls p
  choice_goes t ys ns yp np (Some j) hy hn live falls p = mapped_some _ _ (either_goes t ys ns yp np hy hn live falls p)

  abbrev bare : List ((s : Stmt) × StatementGoes s) → List Stmt
  bare ss = map (λ s. s.0) ss

  -- `falls` and q are what comes to the list
  list_goes : (ss : List ((s : Stmt) × StatementGoes s)) (falls : Bool) (q : Option Path) → (falls ≡ true → IsSome q)
      → (flow_after falls (map statement_flow (bare ss))).live ≡ true → (flow_after falls (map statement_flow (bare ss))).falls ≡ true
      → IsSome (option_and_then (in_order (map (statement_part site) (bare ss))).goes_on q)
  list_goes [] falls None h live e = h e
  list_goes [] falls (Some p) h live e = refl
  list_goes (s ∷ ss) falls None h live e = absurd (none_is_some (h (and_parts falls _ live).0))
  list_goes (s ∷ ss) falls (Some p) h live e =
      let l = and_parts (statement_flow s.0).live _ (and_parts falls _ live).1 in
      list_goes ss (statement_flow s.0).falls ((statement_part site s.0).goes_on p) (λ i. s.1.1 l.0 i p) l.1 e

  list_falls : (ss : List ((s : Stmt) × StatementGoes s)) (a b : Bool) → a ≡ b
      → (flow_after a (map statement_flow (bare ss))).falls ≡ falls_after b (map piece (bare ss))
  list_falls [] a b same = same
  list_falls (s ∷ ss) a b same = list_falls ss (statement_flow s.0).falls (piece s.0).falls s.1.0

  abbrev flow_of : List ((s : Stmt) × StatementGoes s) → Flow
  flow_of ss = flow_in_order (map statement_flow (bare ss))

  abbrev part_of : List ((s : Stmt) × StatementGoes s) → Part
  part_of ss = in_order (map (statement_part site) (bare ss))

  list_part_goes : (ss : List ((s : Stmt) × StatementGoes s)) → GoesOn (flow_of ss) (part_of ss)
  list_part_goes ss live falls p = list_goes ss true (Some p) (λ i. refl) live falls

  layer : (y : StmtKind-F ((k : StmtKind) × KindGoes k) ((s : Stmt) × StatementGoes s)) (at : ℕ)
      → Goes (kind_flow_step (map-StmtKind _ _ _ _ kind_flow statement_flow (map-StmtKind _ _ _ _ (λ e. e.0) (λ e. e.0) y)))
      (kind_row (map-StmtKind _ _ _ _ kind_piece piece (map-StmtKind _ _ _ _ (λ e. e.0) (λ e. e.0) y)))
      (kind_part_step site (map-StmtKind _ _ _ _ (kind_part site) (statement_part site) (map-StmtKind _ _ _ _ (λ e. e.0) (λ e. e.0) y)) at)
  layer (StmtKind-F.If test ys ns join) at = (
    ap₂ (λ a b. a || b) (list_falls ys true true refl) (list_falls ns true true refl),
    choice_goes test (flow_of ys) (flow_of ns) (part_of ys) (part_of ns) join (list_part_goes ys) (list_part_goes ns),
  )
  layer (StmtKind-F.Return a) at = (refl, λ live falls p. absurd (cc))
  layer _ at = (refl, λ live falls p. refl)

  every_goes : (s : Stmt) → StatementGoes s
  every_goes =
      ind-Stmt KindGoes StatementGoes
      (λ x y is at.
      subst (λ flow. Goes flow (kind_piece (roll-StmtKind x)) (kind_part site (roll-StmtKind x) at)) (sym (fold-roll-StmtKind Flow Flow kind_flow_step flow_step x))
      (subst (λ code. Goes (kind_flow_step (map-StmtKind _ _ _ _ kind_flow statement_flow x)) code (kind_part site (roll-StmtKind x) at)) (sym (fold-roll-StmtKind Piece Piece kind_row statement_row x))
      (subst (λ (f : ℕ → Part). Goes (kind_flow_step (map-StmtKind _ _ _ _ kind_flow statement_flow x)) (kind_row (map-StmtKind _ _ _ _ kind_piece piece x)) (f at)) (sym (fold-roll-StmtKind (ℕ → Part) Part (kind_part_step site) part_step x))
      (subst (λ z. Goes (kind_flow_step (map-StmtKind _ _ _ _ kind_flow statement_flow z)) (kind_row (map-StmtKind _ _ _ _ kind_piece piece z)) (kind_part_step site (map-StmtKind _ _ _ _ (kind_part site) (statement_part site) z) at)) is (layer y at)))))
      (λ x y is.
      subst (λ flow. Goes flow (piece (roll-Stmt x)) (statement_part site (roll-Stmt x))) (sym (fold-roll-Stmt Flow Flow kind_flow_step flow_step x))
      (subst (λ code. Goes (kind_flow x.kind) code (statement_part site (roll-Stmt x))) (sym (fold-roll-Stmt Piece Piece kind_row statement_row x))
      (subst (λ part. Goes (kind_flow x.kind) (kind_piece x.kind) part) (sym (fold-roll-Stmt (ℕ → Part) Part (kind_part_step site) part_step x))
      (subst (λ z. Goes (kind_flow z.kind) (kind_piece z.kind) (kind_part site z.kind z.at)) is (y.kind.1 y.at)))))

  with_facts : (body : List Stmt) → List ((s : Stmt) × StatementGoes s)
  with_facts [] = []
  with_facts (s ∷ ss) = (s, every_goes s) ∷ with_facts ss

  facts_of : (body : List Stmt) → bare (with_facts body) ≡ body
  unfolding with_facts
  facts_of [] = refl
  facts_of (s ∷ ss) = ap (λ (l : List Stmt). s ∷ l) (facts_of ss)

  body_goes : (body : List Stmt) → is_live body ≡ true → (body_piece body).falls ≡ true → (p : Path) → IsSome ((body_part site body).goes_on p)
  body_goes body =
      subst (λ (b : List Stmt). is_live b ≡ true → (body_piece b).falls ≡ true → (p : Path) → IsSome ((body_part site b).goes_on p)) (facts_of body)
      (λ live falls p. list_part_goes (with_facts body) live (list_falls (with_facts body) true true refl ∙ falls) p)

pub paths_go_on : PathsGoOn
paths_go_on site body live falls p = body_goes site body live falls p

-- ---- bodies that are live, or aren't

flow_roll : (x : StmtKind-F StmtKind Stmt) (at : ℕ) (k : StmtKind) → roll-StmtKind x ≡ k
    → statement_flow (statement at k) ≡ kind_flow_step (map-StmtKind _ _ _ _ kind_flow statement_flow x)
flow_roll x at k e =
    fold_out-Stmt Flow Flow kind_flow_step flow_step (statement at k)
    ∙ (ap kind_flow (sym e) ∙ fold-roll-StmtKind Flow Flow kind_flow_step flow_step x)

-- most statements
abbrev on : Flow
on = record { falls = true; live = true }

flow-Assign : (at : ℕ) (x : Name) (a : Operand) → statement_flow (statement at (Assign x a)) ≡ on
flow-Assign at x a = flow_roll (StmtKind-F.Assign x a) at _ (rolls-Assign x a)

flow-Hint : (at : ℕ) (h : Hint) → statement_flow (statement at (HintStmt h)) ≡ on
flow-Hint at h = flow_roll (StmtKind-F.Hint h) at _ (rolls-Hint h)

flow-Call : (at place : ℕ) (x : Name) (t : Operand) (v : Option Name) (as' : List Operand) (hs : List Hint) (A : Assertion)
    → statement_flow (statement at (Call place x t v as' hs A)) ≡ on
flow-Call at place x t v as' hs A = flow_roll (StmtKind-F.Call place x t v as' hs A) at _ (rolls-Call place x t v as' hs A)

flow-Return : (at : ℕ) (a : Operand) → statement_flow (statement at (Return a)) ≡ record { falls = false; live = true }
flow-Return at a = flow_roll (StmtKind-F.Return a) at _ (rolls-Return a)

flow-If : (at : ℕ) (t : Test) (ys ns : List Stmt) (j : Option Join)
    → statement_flow (statement at (If t ys ns j))
    ≡ record {
      falls = (flow_in_order (map statement_flow ys)).falls || (flow_in_order (map statement_flow ns)).falls;
      live = is_live ys && is_live ns;
    }
flow-If at t ys ns j = flow_roll (StmtKind-F.If t ys ns j) at _ (rolls-If t ys ns j)

pub live_bodies_example : LiveBodiesExample
live_bodies_example = (simp (flow-If, flow-Assign, flow-Hint, flow-Call, flow-Return) refl, simp (flow-Assign, flow-Return) refl)
