-- Where paths end, negations of tests, the condition of one `return`, and the words of operands.
use Rattle.std.proofs.Common.{◌≡◌, ◌≢◌, ◌↔◌, ◌<◌, ◌≤◌, arith, nat_eq, ℕ, Bool, true, false, ◌||◌, Option, Some, None, option_and_then, List, [], ◌∷◌, ◌++◌, map, refl, sym, ◌∙◌, ap, subst}
use Rattle.std.proofs.lemmas.Bool.Decides.{nat_tests}
use Rattle.std.proofs.lemmas.Bool.{or_parts}
use Rattle.bed_lang.specs.declared.module.Operand.{Operand}
use Rattle.bed_lang.specs.declared.module.Operand.TheVariants.{Number, Local, Label}
use Rattle.bed_lang.specs.declared.module.Rel.{Rel}
use Rattle.bed_lang.specs.declared.module.Rel.TheVariants.{Equal, Unequal, Less, AtMost}
use Rattle.bed_lang.specs.declared.module.Join.{Join}
use Rattle.bed_lang.specs.declared.module.Test.{Test}
use Rattle.bed_lang.specs.declared.word.Var.TheVariants as var
use Rattle.bed_lang.specs.declared.statement.Stmt.{Stmt, roll-Stmt, ind-Stmt, fold-roll-Stmt}
use Rattle.bed_lang.specs.declared.statement.StmtKind.{StmtKind, StmtKind-F, roll-StmtKind, map-StmtKind, fold-roll-StmtKind, Return}
use Rattle.bed_lang.specs.Values.{Values}
use Rattle.bed_lang.proofs.ValueLaws.{value-Number, value-Var, value-Label}
use Rattle.bed_lang.specs.Lookups.{first_signature}
use Rattle.bed_table.specs.Pieces.{Piece, sequence, falls_after}
use Rattle.bed_table.specs.Code.{kind_row, statement_row, kind_piece, piece, body_piece}
use Rattle.bed_sat.specs.Written.{written}
use Rattle.bed_sat.specs.Conditions.{turned, Site, Path, Part, in_order, path_at_entry, site_of, part_step, choice, where_true, where_false, kind_part_step, kind_part, statement_part, body_part}
use Rattle.bed_sat.specs.Valid.{AreRelated, operand_value, IsTrueTest}
use Rattle.bed_sat.specs.ConditionLaws.{NegationsDecide, PathsEnd, ReturnsOweOne, OperandsAreTerms}
use Rattle.bed_sat.proofs.ConditionLaws.{written-Return, part-Return}

pub operands_are_terms : OperandsAreTerms
operands_are_terms labels ν (Number n) = sym (value-Number labels ν n)
operands_are_terms labels ν (Local x) = sym (value-Var labels ν (var.Named x))
operands_are_terms labels ν (Label f) = sym (value-Label labels ν f)

not_less : (a b : ℕ) → (b ≤ a) ↔ (a < b → ⊥)
not_less a b = (λ p q. omega arith, λ p. omega arith)

not_at_most : (a b : ℕ) → (b < a) ↔ (a ≤ b → ⊥)
not_at_most a b = (λ p q. omega arith, λ p. omega arith)

not_unequal : (a b : ℕ) → (a ≡ b) ↔ (a ≢ b → ⊥)
not_unequal a b = (λ p q. q p, λ p. by_test (nat_eq a b) refl p)
  where
    by_test : (t : Bool) → nat_eq a b ≡ t → (a ≢ b → ⊥) → a ≡ b
    by_test true e p = grind (arith, nat_tests)
    by_test false e p = absurd (p (λ same. grind (arith, nat_tests)))

related : (r : Rel) (at : ℕ) (a b : Operand) (labels : List ℕ → ℕ) (ν : Values)
    → IsTrueTest labels ν (turned r at a b) ↔ (AreRelated r (operand_value labels ν a) (operand_value labels ν b) → ⊥)
related Equal at a b labels ν = (λ p. p, λ p. p)
related Unequal at a b labels ν = not_unequal (operand_value labels ν a) (operand_value labels ν b)
related Less at a b labels ν = not_less (operand_value labels ν a) (operand_value labels ν b)
related AtMost at a b labels ν = not_at_most (operand_value labels ν a) (operand_value labels ν b)

pub negations_decide : NegationsDecide
negations_decide labels ν t = related t.rel t.at t.left t.right labels ν

pub returns_owe_one : ReturnsOweOne
returns_owe_one m f r =
    let site : Site = site_of m f in
    let path : Path = path_at_entry (first_signature m.signatures f.signature.bytes) in
    let out : written f.body ≡ record { at = r.place; kind = Return r.operand } ∷ [] =
    ap written r.body_is ∙ ap (λ (b : List Stmt). b ++ []) (written-Return r.place r.operand) in
    ap (λ (b : List Stmt). (body_part site b).owes path) out ∙ ap (λ (p : Part). (in_order (p ∷ [])).owes path) (part-Return site r.place r.operand)

-- ---- no path goes on after what can't fall through

-- where one of two lists can't be reached neither has a path
module _ (site : Site) where
  abbrev Ends : Piece → Part → Type 0
  Ends code part = code.falls ≡ false → (p : Path) → part.goes_on p ≡ None

  abbrev KindEnds : StmtKind → Type 0
  KindEnds k = (at : ℕ) → Ends (kind_piece k) (kind_part site k at)

  abbrev StatementEnds : Stmt → Type 0
  StatementEnds s = Ends (piece s) (statement_part site s)

  choice_ends : (t : Test) (ys ns : Piece) (yp np : Part) (j : Option Join) → Ends ys yp → Ends ns np → (ys.falls || ns.falls) ≡ false
      → (p : Path) → (choice site t yp np j).goes_on p ≡ None
  choice_ends t ys ns yp np None hy hn e p = let o = or_parts ys.falls ns.falls e in rw (hy o.0 (where_true t p), hn o.1 (where_false t p)) refl
  choice_ends t ys ns yp np (Some j) hy hn e p = let o = or_parts ys.falls ns.falls e in rw (hy o.0 (where_true t p), hn o.1 (where_false t p)) refl

  -- the last of a list decides; `falls` and q are what comes to the list
  list_ends : (ss : List ((s : Stmt) × StatementEnds s)) (falls : Bool) (q : Option Path) → (falls ≡ false → q ≡ None)
      → falls_after falls (map piece (map (λ s. s.0) ss)) ≡ false
      → option_and_then (in_order (map (statement_part site) (map (λ s. s.0) ss))).goes_on q ≡ None
  list_ends [] falls q h e = rw (h e) refl
  list_ends (s ∷ ss) falls None h e = refl
  list_ends (s ∷ ss) falls (Some p) h e = list_ends ss (piece s.0).falls ((statement_part site s.0).goes_on p) (λ i. s.1 i p) e

  -- the code of such a list, and what a path makes of it
  abbrev code_of : List ((s : Stmt) × StatementEnds s) → Piece
  code_of ss = sequence (map piece (map (λ s. s.0) ss))

  abbrev part_of : List ((s : Stmt) × StatementEnds s) → Part
  part_of ss = in_order (map (statement_part site) (map (λ s. s.0) ss))

  list_part_ends : (ss : List ((s : Stmt) × StatementEnds s)) → Ends (code_of ss) (part_of ss)
  list_part_ends ss e p = list_ends ss true (Some p) (λ i. absurd (cc)) e

  layer : (y : StmtKind-F ((k : StmtKind) × KindEnds k) ((s : Stmt) × StatementEnds s)) (at : ℕ)
      → Ends (kind_row (map-StmtKind _ _ _ _ kind_piece piece (map-StmtKind _ _ _ _ (λ e. e.0) (λ e. e.0) y)))
      (kind_part_step site (map-StmtKind _ _ _ _ (kind_part site) (statement_part site) (map-StmtKind _ _ _ _ (λ e. e.0) (λ e. e.0) y)) at)
  layer (StmtKind-F.If test ys ns join) at e p =
      choice_ends test (code_of ys) (code_of ns) (part_of ys) (part_of ns) join (list_part_ends ys) (list_part_ends ns) e p
  layer (StmtKind-F.Return a) at e p = refl
  layer _ at e p = absurd (cc)

  every_ends : (s : Stmt) → StatementEnds s
  every_ends =
      ind-Stmt KindEnds StatementEnds
      (λ x y is at.
      subst (λ code. Ends code (kind_part site (roll-StmtKind x) at)) (sym (fold-roll-StmtKind Piece Piece kind_row statement_row x))
      (subst (λ (f : ℕ → Part). Ends (kind_row (map-StmtKind _ _ _ _ kind_piece piece x)) (f at)) (sym (fold-roll-StmtKind (ℕ → Part) Part (kind_part_step site) part_step x))
      (subst (λ z. Ends (kind_row (map-StmtKind _ _ _ _ kind_piece piece z)) (kind_part_step site (map-StmtKind _ _ _ _ (kind_part site) (statement_part site) z) at)) is (layer y at))))
      (λ x y is.
      subst (λ code. Ends code (statement_part site (roll-Stmt x))) (sym (fold-roll-Stmt Piece Piece kind_row statement_row x))
      (subst (λ part. Ends (kind_piece x.kind) part) (sym (fold-roll-Stmt (ℕ → Part) Part (kind_part_step site) part_step x))
      (subst (λ z. Ends (kind_piece z.kind) (kind_part site z.kind z.at)) is (y.kind.1 y.at))))

  with_facts : (body : List Stmt) → List ((s : Stmt) × StatementEnds s)
  with_facts [] = []
  with_facts (s ∷ ss) = (s, every_ends s) ∷ with_facts ss

  facts_of : (body : List Stmt) → map (λ s. s.0) (with_facts body) ≡ body
  unfolding with_facts
  facts_of [] = refl
  facts_of (s ∷ ss) = ap (λ (l : List Stmt). s ∷ l) (facts_of ss)

pub paths_end : PathsEnd
paths_end site body =
    subst (λ (b : List Stmt). Ends site (body_piece b) (body_part site b)) (facts_of site body) (list_part_ends site (with_facts site body))
