-- Both laws of a swap, from those of its assignments, by the laws of statements in a row.
use Rattle.std.proofs.Common.{◌≡◌, ℕ, ◌+◌, ◌<◌, ◌≤◌, ◌⊎◌, true, Some, List, [], ◌∷◌, ◌++◌, sym, ◌∙◌, ap, ap₂}
use Rattle.std.specs.Prelude.{is_some, option_and_then}
use Rattle.bed_lang.specs.declared.word.Name.{Name}
use Rattle.bed_lang.specs.declared.module.Operand.TheVariants.{Local}
use Rattle.bed_lang.specs.declared.statement.Stmt.{Stmt}
use Rattle.bed_table.specs.CodeTable as table
use Rattle.bed_table.specs.Code.{body_piece}
use Rattle.bed_sat.specs.Assertions.{World}
use Rattle.bed_sat.specs.Conditions.{Site, Path, straight, body_part, owed_from, then_action}
use Rattle.bed_sat.proofs.ConditionLaws.{part-Assign}
use Rattle.bed_laws.specs.Activations.{FunctionSite, IsAmong, AreDistinct}
use Rattle.bed_laws.specs.Spans.{Spans}
use Rattle.bed_laws.specs.Statements.{KeepStatements, LayStatements}
use Rattle.bed_laws.proofs.TestLaws.{one_span, no_heads}
use Rattle.bed_laws.proofs.StatementLaws.{assign_law}
use Rattle.bed_laws.proofs.LayLaws.{assign_lays}
use Rattle.bed_laws.proofs.StatementsLaws.{one_goes, one_owes, then_goes, then_owes, then_falls, keep_one, lay_one, piece-Assign}
use Rattle.bed_laws.proofs.MacroLaws.{IsOutside, just_after, outside_back, then_spans, then_keeps, then_lays}
use Rattle.bed_macro.specs.Ends.{GoOnWhereTheyFall}
use Rattle.bed_macro.specs.EndLaws.{then_ends}
use Rattle.bed_swap.specs.Swaps.{moved, moved_block, moves, swap_statements, swap_blocks, swap_path, AreLocals}

-- ---- one assignment

module _ (into from : Name) where
  moved_falls : (body_piece (moved into from ∷ [])).falls ≡ true
  moved_falls = ap (λ q. q.falls) (piece-Assign 0 into (Local from))

  moved_owes : (site : Site) (p : Path) → (body_part site (moved into from ∷ [])).owes p ≡ []
  moved_owes site p = one_owes site (moved into from) (straight (then_action (moves into from))) (part-Assign site 0 into (Local from)) p

  moved_goes : (site : Site) (p : Path) → (body_part site (moved into from ∷ [])).goes_on p ≡ Some (then_action (moves into from) p)
  moved_goes site p = one_goes site (moved into from) (straight (then_action (moves into from))) (part-Assign site 0 into (Local from)) p

  moved_ends : (site : Site) → GoOnWhereTheyFall site (moved into from ∷ [])
  moved_ends site p = ap is_some (moved_goes site p) ∙ sym moved_falls

  moved_spans : (locals : List Name) (first next : ℕ) → Spans (moved_block locals into from first next ∷ []) [] first (first + 1)
  moved_spans locals first next = one_span (moved_block locals into from first next) [] (λ x is. no_heads x is)

  moved_keeps : (w : World) (c : FunctionSite) → IsAmong c.site.locals into.bytes → IsAmong c.site.locals from.bytes → AreDistinct c.site.locals → (places : ℕ → ℕ) (first next : ℕ) → IsOutside next first 1
      → KeepStatements w c places (moved_block c.site.locals into from first next ∷ []) [] first next (moved into from ∷ [])
  moved_keeps w c is_into is_from distinct places first next out =
      keep_one w c places (moved_block c.site.locals into from first next ∷ []) [] first next (moved into from) (straight (then_action (moves into from))) (part-Assign c.site 0 into (Local from))
      (λ path. assign_law w c places distinct into is_into first next out path (Local from) is_from)

  moved_lays : (locals : List Name) (first next : ℕ) → LayStatements locals (moved_block locals into from first next ∷ []) [] first next (moved into from ∷ [])
  moved_lays locals first next =
      lay_one locals (moved_block locals into from first next ∷ []) [] first next (moved into from) (table.assignment into (Local from)) (piece-Assign 0 into (Local from))
      (assign_lays locals first next into (Local from))

-- ---- statements in a row that owe nothing

both_owe : (site : Site) (xs ys : List Stmt) (p q : Path) → (body_part site xs).owes p ≡ [] → (body_part site xs).goes_on p ≡ Some q → (body_part site ys).owes q ≡ [] → (body_part site (xs ++ ys)).owes p ≡ []
both_owe site xs ys p q owes goes more = then_owes site xs ys p ∙ ap₂ (λ l o. l ++ owed_from o (body_part site ys)) owes goes ∙ more

both_go : (site : Site) (xs ys : List Stmt) (p q r : Path) → (body_part site xs).goes_on p ≡ Some q → (body_part site ys).goes_on q ≡ Some r → (body_part site (xs ++ ys)).goes_on p ≡ Some r
both_go site xs ys p q r goes more = then_goes site xs ys p ∙ ap (option_and_then (body_part site ys).goes_on) goes ∙ more

-- ---- the three assignments

module _ (x y t : Name) where
  abbrev one : List Stmt
  one = moved t x ∷ []

  abbrev two : List Stmt
  two = moved x y ∷ []

  abbrev three : List Stmt
  three = moved y t ∷ []

  pub swap_owes : (site : Site) (p : Path) → (body_part site (swap_statements x y t)).owes p ≡ []
  swap_owes site p =
      let q = then_action (moves t x) p in
      let r = then_action (moves x y) q in
      both_owe site one (two ++ three) p q (moved_owes t x site p) (moved_goes t x site p)
      (both_owe site two three q r (moved_owes x y site q) (moved_goes x y site q) (moved_owes y t site r))

  pub swap_goes : (site : Site) (p : Path) → (body_part site (swap_statements x y t)).goes_on p ≡ Some (swap_path x y t p)
  swap_goes site p =
      let q = then_action (moves t x) p in
      let r = then_action (moves x y) q in
      both_go site one (two ++ three) p q (swap_path x y t p) (moved_goes t x site p)
      (both_go site two three q r (swap_path x y t p) (moved_goes x y site q) (moved_goes y t site r))

  pub swap_falls : (body_piece (swap_statements x y t)).falls ≡ true
  swap_falls = then_falls one (two ++ three) (moved_falls t x) ∙ (then_falls two three (moved_falls x y) ∙ moved_falls y t)

  pub swap_ends : (site : Site) → GoOnWhereTheyFall site (swap_statements x y t)
  swap_ends site = then_ends site one (two ++ three) (moved_falls t x) (moved_ends t x site) (then_ends site two three (moved_falls x y) (moved_ends x y site) (moved_ends y t site))

  module _ (locals : List Name) (first next : ℕ) where
    rest_spans : Spans (moved_block locals x y (first + 1) (first + 1 + 1) ∷ moved_block locals y t (first + 1 + 1) next ∷ []) [] (first + 1) (first + 1 + 2)
    rest_spans =
        then_spans (moved_block locals x y (first + 1) (first + 1 + 1) ∷ []) (moved_block locals y t (first + 1 + 1) next ∷ []) [] [] (first + 1) 1 1
        (moved_spans x y locals (first + 1) (first + 1 + 1)) (moved_spans y t locals (first + 1 + 1) next)

    pub swap_spans : Spans (swap_blocks x y t locals first next) [] first (first + 3)
    swap_spans =
        then_spans (moved_block locals t x first (first + 1) ∷ []) (moved_block locals x y (first + 1) (first + 1 + 1) ∷ moved_block locals y t (first + 1 + 1) next ∷ []) [] [] first 1 2
        (moved_spans t x locals first (first + 1)) rest_spans

    pub swap_lays : LayStatements locals (swap_blocks x y t locals first next) [] first next (swap_statements x y t)
    swap_lays =
        then_lays locals (moved_block locals t x first (first + 1) ∷ []) (moved_block locals x y (first + 1) (first + 1 + 1) ∷ moved_block locals y t (first + 1 + 1) next ∷ []) [] [] first 1 2 next
        (moved_spans t x locals first (first + 1)) rest_spans one (two ++ three) (moved_falls t x) (moved_lays t x locals first (first + 1))
        (then_lays locals (moved_block locals x y (first + 1) (first + 1 + 1) ∷ []) (moved_block locals y t (first + 1 + 1) next ∷ []) [] [] (first + 1) 1 1 next
        (moved_spans x y locals (first + 1) (first + 1 + 1)) (moved_spans y t locals (first + 1 + 1) next) two three (moved_falls x y)
        (moved_lays x y locals (first + 1) (first + 1 + 1)) (moved_lays y t locals (first + 1 + 1) next))

  pub swap_keeps : (w : World) (c : FunctionSite) → AreLocals x y t c.site.locals → AreDistinct c.site.locals → (places : ℕ → ℕ) (first next : ℕ) → (next < first) ⊎ (first + 3 ≤ next)
      → KeepStatements w c places (swap_blocks x y t c.site.locals first next) [] first next (swap_statements x y t)
  swap_keeps w c known distinct places first next out =
      let locals = c.site.locals in
      let behind : IsOutside next (first + 1) 2 = outside_back first 1 2 next out in
      then_keeps w c places (moved_block locals t x first (first + 1) ∷ []) (moved_block locals x y (first + 1) (first + 1 + 1) ∷ moved_block locals y t (first + 1 + 1) next ∷ []) [] [] first 1 2 next
      (moved_spans t x locals first (first + 1)) (rest_spans locals first next) out one (two ++ three)
      (moved_keeps t x w c known.2 known.0 distinct places first (first + 1) (just_after first 1))
      (then_keeps w c places (moved_block locals x y (first + 1) (first + 1 + 1) ∷ []) (moved_block locals y t (first + 1 + 1) next ∷ []) [] [] (first + 1) 1 1 next
      (moved_spans x y locals (first + 1) (first + 1 + 1)) (moved_spans y t locals (first + 1 + 1) next) behind two three
      (moved_keeps x y w c known.0 known.1 distinct places (first + 1) (first + 1 + 1) (just_after (first + 1) 1))
      (moved_keeps y t w c known.1 known.2 distinct places (first + 1 + 1) next (outside_back (first + 1) 1 1 next behind)))
