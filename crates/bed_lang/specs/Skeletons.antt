-- Modules without what is there for their proofs alone: the assertions, the logical variables, the predicates, the hints, and the
-- sequences of `find` and `walk`. What is left is what code is made of.
use Rattle.std.specs.Prelude.{Option, Some, None, [], map}
use Rattle.bed_lang.specs.declared.word.Word.{Number}
use Rattle.bed_lang.specs.declared.word.Seq.{Nil}
use Rattle.bed_lang.specs.declared.logic.Assertion.{Assertion}
use Rattle.bed_lang.specs.declared.module.Signature.{Signature}
use Rattle.bed_lang.specs.declared.module.Function.{Function}
use Rattle.bed_lang.specs.declared.module.Module.{Module}
use Rattle.bed_lang.specs.declared.module.Join.{Join}
use Rattle.bed_lang.specs.declared.module.Hint.{Hint}
use Rattle.bed_lang.specs.declared.module.Hint.TheVariants.{Drop}
use Rattle.bed_lang.specs.declared.statement.Stmt.{Stmt, Stmt-F, fold-Stmt}
use Rattle.bed_lang.specs.declared.statement.StmtKind.{StmtKind, StmtKind-F, fold-StmtKind, Assign, Compute, Load, LoadByte, Store, StoreByte, Call, If, While, Return, Hint as HintStmt, Find, Walk}

-- the assertion that stands in place of each other one
abbrev pub no_assertion : Assertion
no_assertion = record { at = 0; binders = []; terms = [] }

-- the hint that stands in place of each other one
abbrev pub no_hint : Hint
no_hint = Drop (Number 0)

-- a join stays where there is one
abbrev pub join_skeleton : Option Join → Option Join
join_skeleton None = None
join_skeleton (Some j) = Some (record j { assertion = no_assertion })

abbrev pub kind_skeleton_step : StmtKind-F StmtKind Stmt → StmtKind
kind_skeleton_step (StmtKind-F.Assign x a) = Assign x a
kind_skeleton_step (StmtKind-F.Compute x op a b) = Compute x op a b
kind_skeleton_step (StmtKind-F.Load x p) = Load x p
kind_skeleton_step (StmtKind-F.LoadByte x p) = LoadByte x p
kind_skeleton_step (StmtKind-F.Store p b) = Store p b
kind_skeleton_step (StmtKind-F.StoreByte p b) = StoreByte p b
kind_skeleton_step (StmtKind-F.Call place into target via args hints after) = Call place into target via args [] no_assertion
kind_skeleton_step (StmtKind-F.If test ys ns join) = If test ys ns (join_skeleton join)
kind_skeleton_step (StmtKind-F.While test place invariant body) = While test place no_assertion body
kind_skeleton_step (StmtKind-F.Return a) = Return a
kind_skeleton_step (StmtKind-F.Hint h) = HintStmt no_hint
kind_skeleton_step (StmtKind-F.Find n v a p s u t keep body) = Find n v a p Nil u t no_assertion body
kind_skeleton_step (StmtKind-F.Walk n v p s u t keep body) = Walk n v p Nil u t no_assertion body

abbrev pub statement_skeleton_step : Stmt-F StmtKind Stmt → Stmt
statement_skeleton_step s = record { at = s.at; kind = s.kind }

abbrev pub kind_skeleton : StmtKind → StmtKind
kind_skeleton = fold-StmtKind StmtKind Stmt kind_skeleton_step statement_skeleton_step

abbrev pub statement_skeleton : Stmt → Stmt
statement_skeleton = fold-Stmt StmtKind Stmt kind_skeleton_step statement_skeleton_step

abbrev pub function_skeleton : Function → Function
function_skeleton f = record f { body = map statement_skeleton f.body }

-- a signature keeps its name, its parameters and its reserve
abbrev pub signature_skeleton : Signature → Signature
signature_skeleton S = record S { logical = []; pre = no_assertion; post = no_assertion }

-- a module keeps its name, its imports, its signatures and its functions
abbrev pub skeleton : Module → Module
skeleton m = record m {
  signatures = map signature_skeleton m.signatures;
  predicates = [];
  functions = map function_skeleton m.functions;
}
