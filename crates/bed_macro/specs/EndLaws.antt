-- Where paths leave statements: in a row, in an `if`, and in a `while`.
use Rattle.std.proofs.Common.{◌≡◌, ℕ, Bool, true, ◌||◌, Option, Some, None, option_map, option_and_then, List, [], ◌∷◌, ◌++◌, refl, sym, ◌∙◌, ap, ap₂}
use Rattle.std.specs.Prelude.{is_some}
use Rattle.std.specs.Option.{option_or}
use Rattle.std.proofs.lemmas.Bool.{false≢true}
use Rattle.bed_lang.specs.declared.logic.Assertion.{Assertion}
use Rattle.bed_lang.specs.declared.module.Test.{Test}
use Rattle.bed_lang.specs.declared.module.Join.{Join}
use Rattle.bed_lang.specs.declared.statement.Stmt.{Stmt}
use Rattle.bed_lang.specs.declared.statement.StmtKind.{If, While}
use Rattle.bed_table.specs.Code.{body_piece}
use Rattle.bed_sat.specs.Conditions.{Site, Path, body_part, path_from, where_true, where_false, choice, loop}
use Rattle.bed_sat.proofs.ConditionLaws.{part-If, part-While}
use Rattle.bed_laws.proofs.StatementsLaws.{one_goes, then_goes, then_falls, piece-choice, piece-loop}
use Rattle.bed_macro.specs.Ends.{GoOnWhereTheyFall}

pub then_ends : (site : Site) (xs ys : List Stmt) → (body_piece xs).falls ≡ true → GoOnWhereTheyFall site xs → GoOnWhereTheyFall site ys → GoOnWhereTheyFall site (xs ++ ys)
then_ends site xs ys falls ex ey p =
    ap is_some (then_goes site xs ys p) ∙ behind ((body_part site xs).goes_on p) (ex p ∙ falls) ∙ sym (then_falls xs ys falls)
  where
    behind : (o : Option Path) → is_some o ≡ true → is_some (option_and_then (body_part site ys).goes_on o) ≡ (body_piece ys).falls
    behind None e = absurd (false≢true e)
    behind (Some q) e = ey q

either : (a b : Option Path) → is_some (option_or a b) ≡ (is_some a || is_some b)
either None b = refl
either (Some q) b = refl

mapped : (A : Assertion) (o : Option Path) → is_some (option_map (λ q. path_from A) o) ≡ is_some o
mapped A None = refl
mapped A (Some q) = refl

pub choice_falls : (at : ℕ) (t : Test) (ys ns : List Stmt) (join : Option Join) (f g : Bool) → (body_piece ys).falls ≡ f → (body_piece ns).falls ≡ g
    → (body_piece (record { at = at; kind = If t ys ns join } ∷ [])).falls ≡ (f || g)
choice_falls at t ys ns join f g ef eg = ap (λ q. q.falls) (piece-choice at t ys ns join) ∙ ap₂ (λ a b. a || b) ef eg

pub choice_ends : (site : Site) (at : ℕ) (t : Test) (ys ns : List Stmt) (join : Option Join) → GoOnWhereTheyFall site ys → GoOnWhereTheyFall site ns
    → GoOnWhereTheyFall site (record { at = at; kind = If t ys ns join } ∷ [])
choice_ends site at t ys ns join ey en p =
    ap is_some (one_goes site (record { at = at; kind = If t ys ns join }) (choice site t (body_part site ys) (body_part site ns) join) (part-If site at t ys ns join) p)
    ∙ by_join join ∙ ap₂ (λ a b. a || b) (ey (where_true t p)) (en (where_false t p))
    ∙ sym (ap (λ q. q.falls) (piece-choice at t ys ns join))
  where
    by_join : (j : Option Join) → is_some ((choice site t (body_part site ys) (body_part site ns) j).goes_on p)
        ≡ (is_some ((body_part site ys).goes_on (where_true t p)) || is_some ((body_part site ns).goes_on (where_false t p)))
    by_join None = either ((body_part site ys).goes_on (where_true t p)) ((body_part site ns).goes_on (where_false t p))
    by_join (Some j) =
        mapped j.assertion (option_or ((body_part site ys).goes_on (where_true t p)) ((body_part site ns).goes_on (where_false t p)))
        ∙ either ((body_part site ys).goes_on (where_true t p)) ((body_part site ns).goes_on (where_false t p))

pub loop_falls : (at : ℕ) (t : Test) (place : ℕ) (I : Assertion) (body : List Stmt) → (body_piece (record { at = at; kind = While t place I body } ∷ [])).falls ≡ true
loop_falls at t place I body = ap (λ q. q.falls) (piece-loop at t place I body)

pub loop_ends : (site : Site) (at : ℕ) (t : Test) (place : ℕ) (I : Assertion) (body : List Stmt) → GoOnWhereTheyFall site (record { at = at; kind = While t place I body } ∷ [])
loop_ends site at t place I body p =
    ap is_some (one_goes site (record { at = at; kind = While t place I body }) (loop site t place I (body_part site body)) (part-While site at t place I body) p)
    ∙ sym (ap (λ q. q.falls) (piece-loop at t place I body))
