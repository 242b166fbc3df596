-- The code of statements and of functions.
use Rattle.std.specs.Prelude.{ℕ, List, [], ◌∷◌, ◌++◌, map, bytes_eq, if◌then◌else◌}
use Rattle.bed_lang.specs.declared.word.Name.{Name}
use Rattle.bed_lang.specs.declared.module.Signature.{Signature}
use Rattle.bed_lang.specs.declared.module.Function.{Function}
use Rattle.bed_lang.specs.declared.statement.Stmt.{Stmt, Stmt-F, fold-Stmt}
use Rattle.bed_lang.specs.declared.statement.StmtKind.{StmtKind, StmtKind-F, fold-StmtKind}
use Rattle.bed_table.specs.Pieces.{Piece, nothing, sequence}
use Rattle.bed_table.specs.CodeTable.{entry, assignment, computation, load, load_byte, store, store_byte, choice, loop, call, answer}
use Rattle.bed_table.specs.ListLoops.{finding, walking}

-- one row of the code table for each kind of statement, over the pieces of the statements in it
abbrev pub kind_row : StmtKind-F Piece Piece → Piece
kind_row (StmtKind-F.Assign x a) = assignment x a
kind_row (StmtKind-F.Compute x op a b) = computation x op a b
kind_row (StmtKind-F.Load x p) = load x p
kind_row (StmtKind-F.LoadByte x p) = load_byte x p
kind_row (StmtKind-F.Store p b) = store p b
kind_row (StmtKind-F.StoreByte p b) = store_byte p b
kind_row (StmtKind-F.Call place into target via args hints after) = call into target args
kind_row (StmtKind-F.If test ys ns join) = choice test (sequence ys) (sequence ns)
kind_row (StmtKind-F.While test place invariant body) = loop test invariant (sequence body)
kind_row (StmtKind-F.Return a) = answer a
kind_row (StmtKind-F.Hint h) = nothing
kind_row (StmtKind-F.Find n v a p s u t keep body) = finding n v a p s u t keep (sequence body)
kind_row (StmtKind-F.Walk n v p s u t keep body) = walking n v p s u t keep (sequence body)

abbrev pub statement_row : Stmt-F Piece Piece → Piece
statement_row s = s.kind

-- the code of a statement, of what it does, and of a list of statements
abbrev pub kind_piece : StmtKind → Piece
kind_piece = fold-StmtKind Piece Piece kind_row statement_row

abbrev pub piece : Stmt → Piece
piece = fold-Stmt Piece Piece kind_row statement_row

abbrev pub body_piece : List Stmt → Piece
body_piece body = sequence (map piece body)

-- the parameters of the first signature of this name; none where there is no such signature
abbrev pub params_of : List Signature → List ℕ → List Name
params_of [] name = []
params_of (s ∷ ss) name = if bytes_eq s.name.bytes name then s.params else params_of ss name

-- the locals of a function, the arguments first
abbrev pub locals_of : List Signature → Function → List Name
locals_of signatures f = params_of signatures f.signature.bytes ++ f.locals

-- the code of a function: the entry's instruction, and its body
abbrev pub function_piece : Function → Piece
function_piece f = sequence (entry ∷ body_piece f.body ∷ [])
