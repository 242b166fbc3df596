-- A path leaves statements exactly where control comes to their end.
use Rattle.std.specs.Prelude.{◌≡◌, List, is_some}
use Rattle.bed_lang.specs.declared.statement.Stmt.{Stmt}
use Rattle.bed_table.specs.Code.{body_piece}
use Rattle.bed_sat.specs.Conditions.{Site, Path, body_part}

abbrev pub GoOnWhereTheyFall : Site → List Stmt → Type 0
GoOnWhereTheyFall site body = (p : Path) → is_some ((body_part site body).goes_on p) ≡ (body_piece body).falls
