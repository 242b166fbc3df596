-- What is owed for a statement that each path leaves, and how the path goes on.
use Rattle.std.proofs.Common.{◌≡◌, Some, List, [], ◌∷◌, ◌++◌, sym, ◌∙◌, ap}
use Rattle.std.proofs.lemmas.List.{append-nil}
use Rattle.bed_lang.specs.declared.condition.Cond.{Cond}
use Rattle.bed_lang.specs.declared.statement.Stmt.{Stmt}
use Rattle.bed_sat.specs.Conditions.{Site, Path, straight, statement_part, body_part}
use Rattle.bed_macro_data.specs.StatementLaws.{straight_owes, straight_goes}

module _ (site : Site) (s : Stmt) (f : Path → Path) (is : statement_part site s ≡ straight f) (p : Path) where
  pub nothing_owed : (out : List Cond) → out ≡ out ++ (body_part site (s ∷ [])).owes p
  nothing_owed out = sym (append-nil out) ∙ ap (λ l. out ++ l) (sym (straight_owes site s f is p))

  pub goes_by : (q : Path) → q ≡ f p → Some q ≡ (body_part site (s ∷ [])).goes_on p
  goes_by q e = ap Some e ∙ sym (straight_goes site s f is p)
