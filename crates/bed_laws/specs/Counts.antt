-- How many statements there are, those in bodies too, with each `find` and `walk` written out.
use Rattle.std.specs.Prelude.{ℕ, ◌+◌, List, [], ◌∷◌, map}
use Rattle.bed_lang.specs.declared.statement.Stmt.{Stmt, Stmt-F, fold-Stmt}
use Rattle.bed_lang.specs.declared.statement.StmtKind.{StmtKind, StmtKind-F, fold-StmtKind}

abbrev pub total : List ℕ → ℕ
total [] = 0
total (n ∷ ns) = n + total ns

abbrev pub kind_count_step : StmtKind-F ℕ ℕ → ℕ
kind_count_step (StmtKind-F.If test ys ns join) = 1 + (total ys + total ns)
kind_count_step (StmtKind-F.While test place invariant body) = 1 + total body
kind_count_step (StmtKind-F.Find n v a p s u t keep body) = 14 + total body
kind_count_step (StmtKind-F.Walk n v p s u t keep body) = 13 + total body
kind_count_step _ = 1

abbrev pub count_step : Stmt-F ℕ ℕ → ℕ
count_step s = s.kind

abbrev pub kind_count : StmtKind → ℕ
kind_count = fold-StmtKind ℕ ℕ kind_count_step count_step

abbrev pub statement_count : Stmt → ℕ
statement_count = fold-Stmt ℕ ℕ kind_count_step count_step

abbrev pub body_count : List Stmt → ℕ
body_count body = total (map statement_count body)
