-- A path makes the same of a body and of what is written out.
use Rattle.std.proofs.Common.{◌≡◌, ℕ, Option, Some, None, option_and_then, List, [], ◌∷◌, ◌++◌, map, refl, sym, ◌∙◌, ap, ap₂, subst, append_assoc, append-nil}
use Rattle.std.proofs.lemmas.List.{map-append}
use Rattle.bed_lang.specs.declared.word.Name.{Name}
use Rattle.bed_lang.specs.declared.logic.Assertion.{Assertion}
use Rattle.bed_lang.specs.declared.module.Operand.TheVariants.{Local}
use Rattle.bed_lang.specs.declared.module.Action.TheVariants as action
use Rattle.bed_lang.specs.declared.module.Hint.TheVariants.{Append}
use Rattle.bed_lang.specs.declared.condition.Cond.{Cond}
use Rattle.bed_lang.specs.declared.statement.Stmt.{Stmt, ind-Stmt, fold-roll-Stmt}
use Rattle.bed_lang.specs.declared.statement.StmtKind.{StmtKind, StmtKind-F, map-StmtKind, fold-roll-StmtKind, If}
use Rattle.bed_table.specs.ListLoops.{word_named, not_null, is_key, field_at}
use Rattle.bed_sat.specs.Written.{statement, made_test, fold_segment, node_front, node_back, list_loop as written_loop, joined, written_kind_step, written_step, written_kind, written_statement, written}
use Rattle.bed_sat.specs.Conditions.{Path, Site, Part, acted, hinted, owed_from, in_order, part_step, loop, choice, list_loop, kind_part_step, kind_part, statement_part}
use Rattle.bed_sat.specs.ConditionLaws.{PathsAreSame}
use Rattle.bed_sat.proofs.ConditionLaws.{part-Assign, part-Compute, part-Load, part-LoadByte, part-Store, part-StoreByte, part-Call, part-If, part-While, part-Return, part-Hint}

-- ---- parts one after the other

abbrev first_then : Part → Part → Part
first_then a b = record {
  goes_on = λ p. option_and_then b.goes_on (a.goes_on p);
  owes = λ p. a.owes p ++ owed_from (a.goes_on p) b;
}

goes_assoc : (b c : Part) (o : Option Path)
    → option_and_then (first_then b c).goes_on o ≡ option_and_then c.goes_on (option_and_then b.goes_on o)
goes_assoc b c None = refl
goes_assoc b c (Some p) = refl

owes_assoc : (b c : Part) (l : List Cond) (o : Option Path)
    → l ++ owed_from o (first_then b c) ≡ (l ++ owed_from o b) ++ owed_from (option_and_then b.goes_on o) c
owes_assoc b c l None = sym (append-nil (l ++ []))
owes_assoc b c l (Some p) = sym (append_assoc l (b.owes p) (owed_from (b.goes_on p) c))

then_assoc : (a b c : Part) → first_then a (first_then b c) ≡ first_then (first_then a b) c
then_assoc a b c i = record {
  goes_on = λ p. goes_assoc b c (a.goes_on p) i;
  owes = λ p. owes_assoc b c (a.owes p) (a.goes_on p) i;
}

in_order-append : (ps qs : List Part) → in_order (ps ++ qs) ≡ first_then (in_order ps) (in_order qs)
in_order-append [] qs = refl
in_order-append (p ∷ ps) qs = ap (λ q. first_then p q) (in_order-append ps qs) ∙ then_assoc p (in_order ps) (in_order qs)

goes_alone : (o : Option Path) → option_and_then (in_order []).goes_on o ≡ o
goes_alone None = refl
goes_alone (Some p) = refl

owes_alone : (l : List Cond) (o : Option Path) → l ++ owed_from o (in_order []) ≡ l
owes_alone l None = append-nil l
owes_alone l (Some p) = append-nil l

alone : (p : Part) → in_order (p ∷ []) ≡ p
alone p i = record { goes_on = λ q. goes_alone (p.goes_on q) i; owes = λ q. owes_alone (p.owes q) (p.goes_on q) i }

-- ---- what is written out

module _ (site : Site) where
  abbrev parts : List Stmt → List Part
  parts ss = map (statement_part site) ss

  -- a statement, and what it does, with what a path makes of what it stands for
  abbrev Fits : Stmt → Type 0
  Fits s = in_order (parts (written_statement s)) ≡ statement_part site s

  abbrev KindFits : StmtKind → Type 0
  KindFits k = (at : ℕ) → in_order (parts (written_kind k at)) ≡ kind_part site k at

  list_fits : (ss : List ((s : Stmt) × Fits s)) → in_order (parts (joined (map written_statement (map (λ s. s.0) ss)))) ≡ in_order (parts (map (λ s. s.0) ss))
  list_fits [] = refl
  list_fits (s ∷ ss) =
      let rest = joined (map written_statement (map (λ s. s.0) ss)) in
      ap in_order (map-append (statement_part site) (written_statement s.0) rest)
      ∙ (in_order-append (parts (written_statement s.0)) (parts rest) ∙ ap₂ (λ a b. first_then a b) s.1 (list_fits ss))

  back_fits : (at : ℕ) (n v p : Name)
      → parts (node_back at n v p)
      ≡ acted (action.Load v (field_at n 4)) ∷ hinted (fold_segment v v 1) ∷ hinted (fold_segment n v 2)
      ∷ hinted (Append (word_named p)) ∷ acted (action.Assign n (Local v)) ∷ []
  back_fits at n v p =
      ap₂ (λ x l. x ∷ l) (part-Load site at _ _) (ap₂ (λ x l. x ∷ l) (part-Hint site at _) (ap₂ (λ x l. x ∷ l) (part-Hint site at _)
      (ap₂ (λ x l. x ∷ l) (part-Hint site at _) (ap (λ x. x ∷ []) (part-Assign site at _ _)))))

  loop_fits : (at : ℕ) (n v p : Name) (A : Assertion) (visit : List Stmt) (part : Part) → in_order (parts visit) ≡ part
      → in_order (parts (written_loop at n v p A visit)) ≡ list_loop site at n v p A part
  loop_fits at n v p A visit part is =
      let turn = ap₂ (λ a b. first_then a b) (part-Hint site at _) (ap₂ (λ a b. first_then a b) (part-Load site at v (field_at n 0))
      (ap in_order (map-append (statement_part site) visit (node_back at n v p))
      ∙ (in_order-append (parts visit) (parts (node_back at n v p)) ∙ ap₂ (λ a b. first_then a b) is (ap in_order (back_fits at n v p))))) in
      ap in_order (ap₂ (λ x l. x ∷ l) (part-Hint site at _) (ap₂ (λ x l. x ∷ l) (part-Assign site at n (Local p)) (ap₂ (λ x l. x ∷ l) (part-Hint site at _)
      (ap₂ (λ x l. x ∷ l) (part-While site at (made_test at (not_null n)) at A (node_front at n v ++ (visit ++ node_back at n v p))
      ∙ ap (λ b. loop site (made_test at (not_null n)) at A b) turn)
      (ap₂ (λ x l. x ∷ l) (part-Hint site at _) (ap (λ x. x ∷ []) (part-Hint site at _)))))))

  layer : (y : StmtKind-F ((k : StmtKind) × KindFits k) ((s : Stmt) × Fits s)) (at : ℕ)
      → in_order (parts (written_kind_step (map-StmtKind _ _ _ _ written_kind written_statement (map-StmtKind _ _ _ _ (λ e. e.0) (λ e. e.0) y)) at))
      ≡ kind_part_step site (map-StmtKind _ _ _ _ (kind_part site) (statement_part site) (map-StmtKind _ _ _ _ (λ e. e.0) (λ e. e.0) y)) at
  layer (StmtKind-F.Assign x a) at = alone _ ∙ part-Assign site at x a
  layer (StmtKind-F.Compute x op a b) at = alone _ ∙ part-Compute site at x op a b
  layer (StmtKind-F.Load x p) at = alone _ ∙ part-Load site at x p
  layer (StmtKind-F.LoadByte x p) at = alone _ ∙ part-LoadByte site at x p
  layer (StmtKind-F.Store p a) at = alone _ ∙ part-Store site at p a
  layer (StmtKind-F.StoreByte p a) at = alone _ ∙ part-StoreByte site at p a
  layer (StmtKind-F.Call place into target via args hints after) at = alone _ ∙ part-Call site at place into target via args hints after
  layer (StmtKind-F.If test ys ns join) at =
      alone _ ∙ (part-If site at test _ _ join ∙ ap₂ (λ a b. choice site test a b join) (list_fits ys) (list_fits ns))
  layer (StmtKind-F.While test place invariant body) at =
      alone _ ∙ (part-While site at test place invariant _ ∙ ap (λ b. loop site test place invariant b) (list_fits body))
  layer (StmtKind-F.Return a) at = alone _ ∙ part-Return site at a
  layer (StmtKind-F.Hint h) at = alone _ ∙ part-Hint site at h
  layer (StmtKind-F.Find n v a p s u t keep body) at =
      let inner = joined (map written_statement (map (λ e. e.0) body)) in
      loop_fits at n v p _ (statement at (If (made_test at (is_key v a)) inner [] None) ∷ []) _
      (alone _ ∙ (part-If site at (made_test at (is_key v a)) inner [] None
      ∙ ap (λ b. choice site (made_test at (is_key v a)) b (in_order []) None) (list_fits body)))
  layer (StmtKind-F.Walk n v p s u t keep body) at =
      loop_fits at n v p _ (joined (map written_statement (map (λ e. e.0) body))) _ (list_fits body)

  every_fits : (s : Stmt) → Fits s
  every_fits =
      ind-Stmt KindFits Fits
      (λ x y is at.
      ap (λ f. in_order (parts (f at))) (fold-roll-StmtKind (ℕ → List Stmt) (List Stmt) written_kind_step written_step x)
      ∙ (subst (λ z. in_order (parts (written_kind_step (map-StmtKind _ _ _ _ written_kind written_statement z) at))
      ≡ kind_part_step site (map-StmtKind _ _ _ _ (kind_part site) (statement_part site) z) at) is (layer y at)
      ∙ ap (λ f. f at) (sym (fold-roll-StmtKind (ℕ → Part) Part (kind_part_step site) part_step x))))
      (λ x y is.
      ap (λ l. in_order (parts l)) (fold-roll-Stmt (ℕ → List Stmt) (List Stmt) written_kind_step written_step x)
      ∙ (subst (λ z. in_order (parts (written_kind z.kind z.at)) ≡ kind_part site z.kind z.at) is (y.kind.1 y.at)
      ∙ sym (fold-roll-Stmt (ℕ → Part) Part (kind_part_step site) part_step x)))

pub paths_are_same : PathsAreSame
paths_are_same site [] = refl
paths_are_same site (s ∷ ss) =
    ap in_order (map-append (statement_part site) (written_statement s) (written ss))
    ∙ (in_order-append (map (statement_part site) (written_statement s)) (map (statement_part site) (written ss))
    ∙ ap₂ (λ a b. first_then a b) (every_fits site s) (paths_are_same site ss))
