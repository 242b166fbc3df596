-- Both laws for `if` and `while`.
use Rattle.std.proofs.Common.{◌≡◌, ◌↔◌, ℕ, zero, suc, ◌+◌, ◌<◌, ◌≤◌, Bool, true, false, if◌then◌else◌, Option, Some, None, List, [], ◌∷◌, ◌++◌, Contains, inl, inr, ◌⊎◌, refl, sym, ◌∙◌, ap, subst, arith}
use Rattle.std.proofs.lemmas.List.{append-nil}
use Rattle.bed_lang.specs.declared.word.Name.{Name}
use Rattle.bed_lang.specs.declared.logic.Assertion.{Assertion}
use Rattle.bed_lang.specs.declared.module.Test.{Test}
use Rattle.bed_lang.specs.declared.module.Join.{Join}
use Rattle.bed_lang.specs.declared.statement.Stmt.{Stmt}
use Rattle.bed_lang.specs.declared.statement.StmtKind.{If, While}
use Rattle.bed_table.specs.Pieces.{Piece}
use Rattle.bed_table.specs.CodeTable as table
use Rattle.bed_table.specs.Code.{body_piece}
use Rattle.bed_sat.specs.Assertions.{World}
use Rattle.bed_lang.specs.declared.condition.Goal.TheVariants.{Meets}
use Rattle.bed_sat.specs.Conditions.{Path, body_part, path_from, where_true, where_false, condition, met, choice, loop}
use Rattle.bed_sat.proofs.ConditionLaws.{part-If, part-While}
use Rattle.bed_sat.proofs.PathLaws.{paths_end}
use Rattle.bed_il.specs.declared.blocks.Block.{Block}
use Rattle.bed_laws.specs.Activations.{FunctionSite}
use Rattle.bed_laws.specs.Keeps.{LoopHead, Law}
use Rattle.bed_laws.specs.Spans.{Spans}
use Rattle.bed_laws.specs.Lays.{Lays}
use Rattle.bed_laws.specs.Statements.{KeepStatements, LayStatements}
use Rattle.bed_laws.specs.StatementBlocks.{IsKnown, going, going_if, jump_count, test_block}
use Rattle.bed_laws.proofs.LoopLaws.{loop_law, loop_span, once_law, once_span}
use Rattle.bed_laws.proofs.ChoiceLaws.{joined_path, one_path, IsOnePath, choice_join, choice_one, choice_span, stop_join, stop_one, stop_span}
use Rattle.bed_laws.proofs.ControlLays.{loop_piece, choice_piece, loop_lays, once_lays, choice_lays, stop_lays}
use Rattle.bed_laws.proofs.StatementsLaws.{keep_one, lay_one, piece-choice, piece-loop}

-- where the body of a loop goes on
abbrev pub body_end : Bool → ℕ → ℕ → ℕ
body_end falls back next = if falls then back else next

module _ (w : World) (c : FunctionSite) (places : ℕ → ℕ) (t : Test) (left_known : IsKnown c.site.locals t.left) (right_known : IsKnown c.site.locals t.right) where
  -- ---- while

  module _ (at place : ℕ) (I : Assertion) (body : List Stmt) (B : List Block) (hb : List LoopHead) (first n next : ℕ) (sb : Spans B hb (first + 1) (first + 1 + n)) where
    abbrev back : ℕ
    back = first + 1 + n

    abbrev heads : List LoopHead
    heads = record { label = first; invariant = I } ∷ hb

    abbrev blocks : Bool → List Block
    blocks f = test_block c.site.locals t first (first + 1) next ∷ (B ++ going_if f back first)

    abbrev stmt : Stmt
    stmt = record { at = at; kind = While t place I body }

    nil_heads : (hb ++ []) ≡ hb
    nil_heads = append-nil hb

    less : first + 1 ≤ back
    less = omega arith

    pub loop_spans : (f : Bool) → (next < first) ⊎ (back + jump_count f ≤ next) → Spans (blocks f) heads first (back + jump_count f)
    loop_spans true out =
        subst (λ h. Spans (blocks true) (record { label = first; invariant = I } ∷ h) first (back + 1)) nil_heads
        (loop_span w c places t left_known right_known place I B hb first back next less sb out)
    loop_spans false out =
        let z : back ≡ back + 0 = omega arith in
        subst (λ B2. Spans (test_block c.site.locals t first (first + 1) next ∷ B2) heads first (back + 0)) (sym (append-nil B))
        (subst (λ e. Spans (test_block c.site.locals t first (first + 1) next ∷ B) heads first e) z
        (once_span w c places t left_known right_known place I B hb first back next less sb (out_at out)))
      where
        out_at : (next < first) ⊎ (back + 0 ≤ next) → (next < first) ⊎ (back ≤ next)
        out_at (inl p) = inl p
        out_at (inr p) = inr (omega arith)

    pub loop_keep : (f : Bool) → (body_piece body).falls ≡ f → (next < first) ⊎ (back + jump_count f ≤ next)
        → KeepStatements w c places B hb (first + 1) (body_end f back next) body → KeepStatements w c places (blocks f) heads first next (stmt ∷ [])
    loop_keep true falls out law =
        keep_one w c places (blocks true) heads first next stmt (loop c.site t place I (body_part c.site body)) (part-While c.site at t place I body)
        (λ from. subst (λ h. Law w c places (blocks true) (record { label = first; invariant = I } ∷ h) first next ((loop c.site t place I (body_part c.site body)).owes from) from ((loop c.site t place I (body_part c.site body)).goes_on from)) nil_heads
        (loop_law w c places t left_known right_known place I B hb first back next less sb out
        ((body_part c.site body).owes (where_true t (path_from I))) from ((body_part c.site body).goes_on (where_true t (path_from I))) (law (where_true t (path_from I)))))
    loop_keep false falls out law =
        let path = where_true t (path_from I) in
        let ends : (body_part c.site body).goes_on path ≡ None = paths_end c.site body falls path in
        subst (λ B2. KeepStatements w c places (test_block c.site.locals t first (first + 1) next ∷ B2) heads first next (stmt ∷ [])) (sym (append-nil B))
        (keep_one w c places (test_block c.site.locals t first (first + 1) next ∷ B) heads first next stmt (loop c.site t place I (body_part c.site body)) (part-While c.site at t place I body)
        (λ from.
        subst (λ m. Law w c places (test_block c.site.locals t first (first + 1) next ∷ B) heads first next (condition c.site place (Meets I) from ∷ ((body_part c.site body).owes path ++ m)) from (Some (where_false t (path_from I)))) (ap (met c.site place I) (sym ends))
        (once_law w c places t left_known right_known place I B hb first back next less sb (out_at out) next
        ((body_part c.site body).owes path) from (subst (λ o. Law w c places B hb (first + 1) next ((body_part c.site body).owes path) path o) ends (law path)))))
      where
        out_at : (next < first) ⊎ (back + 0 ≤ next) → (next < first) ⊎ (back ≤ next)
        out_at (inl p) = inl p
        out_at (inr p) = inr (omega arith)

  -- ---- if

  module _ (at : ℕ) (ys ns : List Stmt) (join : Option Join) (Y N : List Block) (hy hn : List LoopHead) (first n k next : ℕ) (sy : Spans Y hy (first + 1) (first + 1 + n)) where
    abbrev middle : ℕ
    middle = first + 1 + n

    abbrev forks : Bool → List Block
    forks f = test_block c.site.locals t first (first + 1) (middle + jump_count f) ∷ (Y ++ (going_if f middle next ++ N))

    abbrev if_stmt : Stmt
    if_stmt = record { at = at; kind = If t ys ns join }

    abbrev if_end : Bool → ℕ
    if_end f = middle + jump_count f + k

    sy_zero : Spans Y hy (first + 1) (middle + 0)
    sy_zero = let z : middle ≡ middle + 0 = omega arith in subst (λ e. Spans Y hy (first + 1) e) z sy

    pub choice_spans : (f : Bool) → Spans N hn (middle + jump_count f) (if_end f) → (next < first) ⊎ (if_end f ≤ next) → Spans (forks f) (hy ++ hn) first (if_end f)
    choice_spans true sn out = choice_span w c places t left_known right_known (path_from (record { at = 0; binders = []; terms = [] })) Y N hy hn first middle (if_end true) next (omega arith) (omega arith) sy sn out
    choice_spans false sn out = stop_span w c places t left_known right_known (path_from (record { at = 0; binders = []; terms = [] })) Y N hy hn first (middle + 0) (if_end false) next (omega arith) (omega arith) sy_zero sn out

    -- without a join, one of the bodies doesn't come to its end
    abbrev pub IsJoined : Type 0
    IsJoined = join ≡ None → ((body_piece ys).falls ≡ false) ⊎ ((body_piece ns).falls ≡ false)

    one_of : (p q : Path) → ((body_piece ys).falls ≡ false) ⊎ ((body_piece ns).falls ≡ false) → ((body_part c.site ys).goes_on p ≡ None) ⊎ ((body_part c.site ns).goes_on q ≡ None)
    one_of p q (inl e) = inl (paths_end c.site ys e p)
    one_of p q (inr e) = inr (paths_end c.site ns e q)

    pub choice_keep : (f : Bool) → (body_piece ys).falls ≡ f → IsJoined → Spans N hn (middle + jump_count f) (if_end f) → (next < first) ⊎ (if_end f ≤ next)
        → KeepStatements w c places Y hy (first + 1) middle ys → KeepStatements w c places N hn (middle + jump_count f) next ns → KeepStatements w c places (forks f) (hy ++ hn) first next (if_stmt ∷ [])
    choice_keep f falls joined sn out ly ln = keep_one w c places (forks f) (hy ++ hn) first next if_stmt (choice c.site t (body_part c.site ys) (body_part c.site ns) join) (part-If c.site at t ys ns join) (λ from. by_join f falls join joined sn out ly ln from)
      where
        by_join : (f : Bool) → (body_piece ys).falls ≡ f → (join : Option Join) → (join ≡ None → ((body_piece ys).falls ≡ false) ⊎ ((body_piece ns).falls ≡ false)) → Spans N hn (middle + jump_count f) (if_end f) → (next < first) ⊎ (if_end f ≤ next)
            → KeepStatements w c places Y hy (first + 1) middle ys → KeepStatements w c places N hn (middle + jump_count f) next ns → (from : Path)
            → Law w c places (forks f) (hy ++ hn) first next ((choice c.site t (body_part c.site ys) (body_part c.site ns) join).owes from) from ((choice c.site t (body_part c.site ys) (body_part c.site ns) join).goes_on from)
        by_join true falls (Some j) joined sn out ly ln from =
            let py = where_true t from in
            let pn = where_false t from in
            choice_join w c places t left_known right_known from Y N hy hn first middle (if_end true) next (omega arith) (omega arith) sy sn out j.place j.assertion
            ((body_part c.site ys).owes py) ((body_part c.site ns).owes pn) ((body_part c.site ys).goes_on py) ((body_part c.site ns).goes_on pn) (ly py) (ln pn)
        by_join true falls None joined sn out ly ln from =
            let py = where_true t from in
            let pn = where_false t from in
            choice_one w c places t left_known right_known from Y N hy hn first middle (if_end true) next (omega arith) (omega arith) sy sn out
            ((body_part c.site ys).owes py) ((body_part c.site ns).owes pn) ((body_part c.site ys).goes_on py) ((body_part c.site ns).goes_on pn) (one_of py pn (joined refl)) (ly py) (ln pn)
        by_join false falls (Some j) joined sn out ly ln from =
            let py = where_true t from in
            let pn = where_false t from in
            let ends : (body_part c.site ys).goes_on py ≡ None = paths_end c.site ys falls py in
            subst (λ o. Law w c places (forks false) (hy ++ hn) first next (((body_part c.site ys).owes py ++ met c.site j.place j.assertion o) ++ ((body_part c.site ns).owes pn ++ met c.site j.place j.assertion ((body_part c.site ns).goes_on pn))) from
            (joined_path j.assertion o ((body_part c.site ns).goes_on pn))) (sym ends)
            (stop_join w c places t left_known right_known from Y N hy hn first (middle + 0) (if_end false) next (omega arith) (omega arith) sy_zero sn out j.place middle j.assertion
            ((body_part c.site ys).owes py) ((body_part c.site ns).owes pn) ((body_part c.site ns).goes_on pn)
            (subst (λ o. Law w c places Y hy (first + 1) middle ((body_part c.site ys).owes py) py o) ends (ly py)) (ln pn))
        by_join false falls None joined sn out ly ln from =
            let py = where_true t from in
            let pn = where_false t from in
            let ends : (body_part c.site ys).goes_on py ≡ None = paths_end c.site ys falls py in
            subst (λ o. Law w c places (forks false) (hy ++ hn) first next ((body_part c.site ys).owes py ++ (body_part c.site ns).owes pn) from (one_path o ((body_part c.site ns).goes_on pn))) (sym ends)
            (stop_one w c places t left_known right_known from Y N hy hn first (middle + 0) (if_end false) next (omega arith) (omega arith) sy_zero sn out middle
            ((body_part c.site ys).owes py) ((body_part c.site ns).owes pn) ((body_part c.site ns).goes_on pn)
            (subst (λ o. Law w c places Y hy (first + 1) middle ((body_part c.site ys).owes py) py o) ends (ly py)) (ln pn))

-- ---- the second law

module _ (locals : List Name) (t : Test) where
  pub loop_lay : (at place : ℕ) (I : Assertion) (body : List Stmt) (B : List Block) (hb : List LoopHead) (first n next : ℕ) → Spans B hb (first + 1) (first + 1 + n) → (f : Bool) → (body_piece body).falls ≡ f
      → LayStatements locals B hb (first + 1) (body_end f (first + 1 + n) next) body
      → LayStatements locals (test_block locals t first (first + 1) next ∷ (B ++ going_if f (first + 1 + n) first)) (record { label = first; invariant = I } ∷ hb) first next (record { at = at; kind = While t place I body } ∷ [])
  loop_lay at place I body B hb first n next sb true falls lay =
      lay_one locals _ _ first next (record { at = at; kind = While t place I body }) (table.loop t I (body_piece body)) (piece-loop at t place I body)
      (subst (λ f. Lays locals (test_block locals t first (first + 1) next ∷ (B ++ (going (first + 1 + n) first ∷ []))) (record { label = first; invariant = I } ∷ hb) first next (loop_piece locals t I (body_piece body) f)) (sym falls)
      (subst (λ h. Lays locals (test_block locals t first (first + 1) next ∷ (B ++ (going (first + 1 + n) first ∷ []))) (record { label = first; invariant = I } ∷ h) first next (loop_piece locals t I (body_piece body) true)) (append-nil hb)
      (loop_lays locals t I (body_piece body) first next B hb (first + 1 + n) (omega arith) sb lay)))
  loop_lay at place I body B hb first n next sb false falls lay =
      lay_one locals _ _ first next (record { at = at; kind = While t place I body }) (table.loop t I (body_piece body)) (piece-loop at t place I body)
      (subst (λ f. Lays locals (test_block locals t first (first + 1) next ∷ (B ++ [])) (record { label = first; invariant = I } ∷ hb) first next (loop_piece locals t I (body_piece body) f)) (sym falls)
      (subst (λ B2. Lays locals (test_block locals t first (first + 1) next ∷ B2) (record { label = first; invariant = I } ∷ hb) first next (loop_piece locals t I (body_piece body) false)) (sym (append-nil B))
      (once_lays locals t I (body_piece body) first next B hb (first + 1 + n) sb lay falls)))

  pub choice_lay : (at : ℕ) (ys ns : List Stmt) (join : Option Join) (Y N : List Block) (hy hn : List LoopHead) (first n k next : ℕ) → Spans Y hy (first + 1) (first + 1 + n) → (f : Bool) → (body_piece ys).falls ≡ f
      → Spans N hn (first + 1 + n + jump_count f) (first + 1 + n + jump_count f + k)
      → LayStatements locals Y hy (first + 1) (first + 1 + n) ys → LayStatements locals N hn (first + 1 + n + jump_count f) next ns
      → LayStatements locals (test_block locals t first (first + 1) (first + 1 + n + jump_count f) ∷ (Y ++ (going_if f (first + 1 + n) next ++ N))) (hy ++ hn) first next (record { at = at; kind = If t ys ns join } ∷ [])
  choice_lay at ys ns join Y N hy hn first n k next sy true falls sn ly ln =
      lay_one locals _ _ first next (record { at = at; kind = If t ys ns join }) (table.choice t (body_piece ys) (body_piece ns)) (piece-choice at t ys ns join)
      (subst (λ f. Lays locals (test_block locals t first (first + 1) (first + 1 + n + 1) ∷ (Y ++ (going (first + 1 + n) next ∷ N))) (hy ++ hn) first next (choice_piece locals t (body_piece ys) (body_piece ns) f)) (sym falls)
      (choice_lays locals t (body_piece ys) (body_piece ns) Y N hy hn first (first + 1 + n) (first + 1 + n + 1 + k) next (omega arith) (omega arith) sy sn ly ln))
  choice_lay at ys ns join Y N hy hn first n k next sy false falls sn ly ln =
      let z : first + 1 + n ≡ first + 1 + n + 0 = omega arith in
      lay_one locals _ _ first next (record { at = at; kind = If t ys ns join }) (table.choice t (body_piece ys) (body_piece ns)) (piece-choice at t ys ns join)
      (subst (λ f. Lays locals (test_block locals t first (first + 1) (first + 1 + n + 0) ∷ (Y ++ N)) (hy ++ hn) first next (choice_piece locals t (body_piece ys) (body_piece ns) f)) (sym falls)
      (stop_lays locals t (body_piece ys) (body_piece ns) Y N hy hn first (first + 1 + n + 0) (first + 1 + n + 0 + k) next (omega arith) (omega arith)
      (subst (λ e. Spans Y hy (first + 1) e) z sy) sn (subst (λ e. Lays locals Y hy (first + 1) e (body_piece ys)) z ly) ln falls))
