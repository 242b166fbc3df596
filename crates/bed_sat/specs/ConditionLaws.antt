-- What the definitions of conditions give: statements of laws.
use Rattle.std.specs.Prelude.{◌≡◌, ◌↔◌, ℕ, Bool, true, false, ◌&&◌, ◌||◌, None, IsSome, List, [], ◌∷◌, map}
use Rattle.bed_lang.specs.declared.module.Operand.{Operand}
use Rattle.bed_lang.specs.declared.module.Test.{Test}
use Rattle.bed_lang.specs.declared.module.Function.{Function}
use Rattle.bed_lang.specs.declared.module.Module.{Module}
use Rattle.bed_lang.specs.declared.condition.Goal.TheVariants.{Returns}
use Rattle.bed_lang.specs.declared.statement.Stmt.{Stmt, Stmt-F, fold-Stmt}
use Rattle.bed_lang.specs.declared.statement.StmtKind.{StmtKind, StmtKind-F, fold-StmtKind}
use Rattle.bed_lang.specs.Values.{Values, value}
use Rattle.bed_lang.specs.Lookups.{first_signature}
use Rattle.bed_table.specs.Laws.{OnlyReturns}
use Rattle.bed_table.specs.Code.{body_piece}
use Rattle.bed_table.specs.ListLoops.{word_of}
use Rattle.bed_sat.specs.Written.{written}
use Rattle.bed_sat.specs.Conditions.{Site, Path, negated, condition, body_part, path_at_entry, site_of, function_conditions}
use Rattle.bed_sat.specs.Valid.{operand_value, IsTrueTest}

abbrev pub all_true : List Bool → Bool
all_true [] = true
all_true (b ∷ bs) = b && all_true bs

-- a statement is no `find` and no `walk`, and has none in it at any depth
abbrev pub plain_kind_step : StmtKind-F Bool Bool → Bool
plain_kind_step (StmtKind-F.If test ys ns join) = all_true ys && all_true ns
plain_kind_step (StmtKind-F.While test place invariant body) = all_true body
plain_kind_step (StmtKind-F.Find n v a p s u t keep body) = false
plain_kind_step (StmtKind-F.Walk n v p s u t keep body) = false
plain_kind_step _ = true

abbrev pub plain_step : Stmt-F Bool Bool → Bool
plain_step s = s.kind

abbrev pub plain_kind : StmtKind → Bool
plain_kind = fold-StmtKind Bool Bool plain_kind_step plain_step

abbrev pub plain_statement : Stmt → Bool
plain_statement = fold-Stmt Bool Bool plain_kind_step plain_step

abbrev pub is_plain : List Stmt → Bool
is_plain body = all_true (map plain_statement body)

-- in a body that is written out no `find` and no `walk` is left
abbrev pub ListLoopsAreWritten : Type 0
ListLoopsAreWritten = (body : List Stmt) → is_plain (written body) ≡ true

-- what is written out has the same code: the same size, bytes and loop heads, and it falls through where the body does
abbrev pub CodeIsSame : Type 0
CodeIsSame = (body : List Stmt) → body_piece (written body) ≡ body_piece body

-- a path makes the same of a body and of what is written out, where it goes on and what it owes
abbrev pub PathsAreSame : Type 0
PathsAreSame = (site : Site) (body : List Stmt) → body_part site (written body) ≡ body_part site body

-- no path goes on after statements that can't fall through
abbrev pub PathsEnd : Type 0
PathsEnd = (site : Site) (body : List Stmt) → (body_piece body).falls ≡ false → (p : Path) → (body_part site body).goes_on p ≡ None

-- what control does in a part of a body: whether it may come to the end, and whether no statement in the part, at any depth,
-- follows one that can't fall through
pub record Flow : Type 0 where
  pub falls : Bool
  pub live : Bool

-- parts one after the other, where `falls` says whether control may come to the first
abbrev pub flow_after : Bool → List Flow → Flow
flow_after falls [] = record { falls = falls; live = true }
flow_after falls (f ∷ fs) = record {
  falls = (flow_after f.falls fs).falls;
  live = falls && (f.live && (flow_after f.falls fs).live);
}

abbrev pub flow_in_order : List Flow → Flow
flow_in_order fs = flow_after true fs

-- behind the body of a `walk` stand the statements that go on to the next node
abbrev pub kind_flow_step : StmtKind-F Flow Flow → Flow
kind_flow_step (StmtKind-F.If test ys ns join) = record {
  falls = (flow_in_order ys).falls || (flow_in_order ns).falls;
  live = (flow_in_order ys).live && (flow_in_order ns).live;
}
kind_flow_step (StmtKind-F.While test place invariant body) = record { falls = true; live = (flow_in_order body).live }
kind_flow_step (StmtKind-F.Find n v a p s u t keep body) = record { falls = true; live = (flow_in_order body).live }
kind_flow_step (StmtKind-F.Walk n v p s u t keep body) = record {
  falls = true;
  live = (flow_in_order body).live && (flow_in_order body).falls;
}
kind_flow_step (StmtKind-F.Return a) = record { falls = false; live = true }
kind_flow_step _ = record { falls = true; live = true }

abbrev pub flow_step : Stmt-F Flow Flow → Flow
flow_step s = s.kind

abbrev pub kind_flow : StmtKind → Flow
kind_flow = fold-StmtKind Flow Flow kind_flow_step flow_step

abbrev pub statement_flow : Stmt → Flow
statement_flow = fold-Stmt Flow Flow kind_flow_step flow_step

abbrev pub is_live : List Stmt → Bool
is_live body = (flow_in_order (map statement_flow body)).live

-- and a path goes on after those that fall through, where no statement follows one that can't
abbrev pub PathsGoOn : Type 0
PathsGoOn =
    (site : Site) (body : List Stmt) → is_live body ≡ true → (body_piece body).falls ≡ true → (p : Path)
    → IsSome ((body_part site body).goes_on p)

-- a function whose body is one `return` owes one condition: its precondition gives its postcondition
abbrev pub ReturnsOweOne : Type 0
ReturnsOweOne =
    (m : Module) (f : Function) → (r : OnlyReturns f)
    → function_conditions m f
    ≡ condition (site_of m f) r.place (Returns r.operand) (path_at_entry (first_signature m.signatures f.signature.bytes)) ∷ []

-- the negation of a test is true exactly where the test is false
abbrev pub NegationsDecide : Type 0
NegationsDecide =
    (labels : List ℕ → ℕ) (ν : Values) (t : Test) → IsTrueTest labels ν (negated t) ↔ (IsTrueTest labels ν t → ⊥)

-- the word of an operand is that of the term that it is
abbrev pub OperandsAreTerms : Type 0
OperandsAreTerms = (labels : List ℕ → ℕ) (ν : Values) (a : Operand) → operand_value labels ν a ≡ value labels ν (word_of a)
