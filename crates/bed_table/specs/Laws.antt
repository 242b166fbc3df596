-- Laws of the definitions, as statements.
use Rattle.std.specs.Prelude.{◌≡◌, ℕ, ◌+◌, ◌*◌, ◌≤◌, List, [], ◌∷◌, ◌++◌, map, length}
use Rattle.bed_lang.specs.declared.word.Name.{Name}
use Rattle.bed_lang.specs.declared.statement.Stmt.{Stmt}
use Rattle.bed_lang.specs.declared.module.Function.{Function}
use Rattle.bed_lang.specs.declared.module.Module.{Module}
use Rattle.bed_lang.specs.declared.statement.StmtKind.{StmtKind-F, map-StmtKind, Return}
use Rattle.bed_lang.specs.declared.module.Operand.{Operand}
use Rattle.bed_lang.specs.Skeletons.{skeleton}
use Rattle.bed_table.specs.CodeTable.{operand_size}
use Rattle.bed_table.specs.Pieces.{Piece}
use Rattle.bed_table.specs.Code.{kind_row, piece, body_piece, function_piece}
use Rattle.bed_table.specs.Layout.{Defined, all_defined, code, code_length}
use Rattle.bed_table.specs.Image.{image}

-- a piece has as many bytes as it says, wherever it stands and whatever the labels are
pub record IsSized (p : Piece) : Type 0 where
  pub size_is : (locals : List Name) (labels : List ℕ → ℕ) (at : ℕ) → length (p.bytes locals labels at) ≡ p.size

-- a fact that each row of the code table keeps: it holds of the row's piece where it holds of the pieces in it
abbrev pub RowsKeep : (Piece → Type 0) → Type 0
RowsKeep K = (x : StmtKind-F ((p : Piece) × K p) ((p : Piece) × K p)) → K (kind_row (map-StmtKind _ _ _ _ (λ p. p.0) (λ p. p.0) x))

-- two pieces after one another as one: of its size, its bytes and its heads
pub record IsSequence (whole first second : Piece) : Type 0 where
  pub size_is : whole.size ≡ first.size + second.size
  pub bytes_are : (locals : List Name) (labels : List ℕ → ℕ) (at : ℕ)
      → whole.bytes locals labels at ≡ first.bytes locals labels at ++ second.bytes locals labels (at + first.size)
  pub heads_are : (at : ℕ) → whole.heads at ≡ first.heads at ++ second.heads (at + first.size)

abbrev pub StatementsAreSized : Type 0
StatementsAreSized = (s : Stmt) → IsSized (piece s)

abbrev pub BodiesAreSized : Type 0
BodiesAreSized = (body : List Stmt) → IsSized (body_piece body)

abbrev pub FunctionsAreSized : Type 0
FunctionsAreSized = (f : Function) → IsSized (function_piece f)

abbrev pub BodiesAreSequences : Type 0
BodiesAreSequences = (first second : List Stmt) → IsSequence (body_piece (first ++ second)) (body_piece first) (body_piece second)

abbrev pub CodeIsSized : Type 0
CodeIsSized = (modules : List Module) (base : ℕ) (imports : List (Name × ℕ)) → length (code modules base imports) ≡ code_length modules

-- a function whose body is one `return`
pub record OnlyReturns (f : Function) : Type 0 where
  pub place : ℕ
  pub operand : Operand
  pub body_is : f.body ≡ record { at = place; kind = Return operand } ∷ []

-- its code has 16 bytes more than its operand: 21 or 22
abbrev pub ReturnsAreSized : Type 0
ReturnsAreSized = (f : Function) → (r : OnlyReturns f) → (function_piece f).size ≡ 16 + operand_size r.operand

abbrev pub EachOnlyReturns : List Defined → Type 0
EachOnlyReturns [] = Unit {0}
EachOnlyReturns (d ∷ ds) = OnlyReturns d.function × EachOnlyReturns ds

-- modules of such functions have at most 22 bytes of code for each function
abbrev pub ReturnsAreShort : Type 0
ReturnsAreShort = (modules : List Module) → EachOnlyReturns (all_defined modules) → code_length modules ≤ 22 * length (all_defined modules)

-- an image reads nothing that is there for proofs alone: modules have the image, and the code, of their skeletons
abbrev pub ImagesReadSkeletons : Type 0
ImagesReadSkeletons = (modules : List Module) (base : ℕ) (imports : List (Name × ℕ)) → image (map skeleton modules) base imports ≡ image modules base imports

abbrev pub CodeReadsSkeletons : Type 0
CodeReadsSkeletons = (modules : List Module) (base : ℕ) (imports : List (Name × ℕ)) → code (map skeleton modules) base imports ≡ code modules base imports
