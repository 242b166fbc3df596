-- Modules that name no fresh variable, wherever an assertion may stand in them.
use Rattle.std.specs.Prelude.{◌≡◌, ℕ, Bool, true, ◌&&◌, List, Option, Some, None, Contains}
use Rattle.bed_lang.specs.declared.module.Join.{Join}
use Rattle.bed_lang.specs.declared.module.Function.{Function}
use Rattle.bed_lang.specs.declared.module.Module.{Module}
use Rattle.bed_lang.specs.declared.statement.Stmt.{Stmt, Stmt-F, fold-Stmt}
use Rattle.bed_lang.specs.declared.statement.StmtKind.{StmtKind, StmtKind-F, fold-StmtKind}
use Rattle.bed_lang.specs.declared.condition.Cond.{Cond}
use Rattle.bed_lang.specs.Declarations.{declarations}
use Rattle.bed_read.specs.Reading.{IsModule}
use Rattle.bed_names.specs.Resolved.{resolved}
use Rattle.bed_deriv.specs.Fresh.{every, known_seq, known_assertion, unfresh_signature, unfresh_predicate, unfresh_condition, AreUnfresh}
use Rattle.bed_sat.specs.Conditions.{conditions}

abbrev pub unfresh_join : Option Join → Bool
unfresh_join None = true
unfresh_join (Some j) = known_assertion 0 j.assertion

-- the assertions of a statement at any depth, and the sequences of `find` and `walk`; hints are read by the search alone
abbrev pub unfresh_kind_step : StmtKind-F Bool Bool → Bool
unfresh_kind_step (StmtKind-F.Call place into target via args hints after) = known_assertion 0 after
unfresh_kind_step (StmtKind-F.If test ys ns join) = every (λ b. b) ys && (every (λ b. b) ns && unfresh_join join)
unfresh_kind_step (StmtKind-F.While test place invariant body) = known_assertion 0 invariant && every (λ b. b) body
unfresh_kind_step (StmtKind-F.Find n v a p s u t keep body) = known_seq 0 s && (known_assertion 0 keep && every (λ b. b) body)
unfresh_kind_step (StmtKind-F.Walk n v p s u t keep body) = known_seq 0 s && (known_assertion 0 keep && every (λ b. b) body)
unfresh_kind_step _ = true

abbrev pub unfresh_statement_step : Stmt-F Bool Bool → Bool
unfresh_statement_step s = s.kind

abbrev pub unfresh_kind : StmtKind → Bool
unfresh_kind = fold-StmtKind Bool Bool unfresh_kind_step unfresh_statement_step

abbrev pub unfresh_statement : Stmt → Bool
unfresh_statement = fold-Stmt Bool Bool unfresh_kind_step unfresh_statement_step

abbrev pub unfresh_function : Function → Bool
unfresh_function f = every unfresh_statement f.body

-- no signature, predicate or statement of the module names one
abbrev pub unfresh_module : Module → Bool
unfresh_module m = every unfresh_signature m.signatures && (every unfresh_predicate m.predicates && every unfresh_function m.functions)

-- what is read of a text names none
abbrev pub TextsAreUnfresh : Type 0
TextsAreUnfresh = (text : List ℕ) (m : Module) → IsModule text m → unfresh_module m ≡ true

-- nor does it once its arguments are resolved
abbrev pub ResolvedAreUnfresh : Type 0
ResolvedAreUnfresh = (m : Module) → unfresh_module m ≡ true → unfresh_module (resolved m) ≡ true

-- and so neither do what it declares, the prelude's predicates among it, and the conditions that it owes
abbrev pub DeclarationsAreUnfresh : Type 0
DeclarationsAreUnfresh = (m : Module) → unfresh_module m ≡ true → AreUnfresh (declarations m)

abbrev pub ConditionsAreUnfresh : Type 0
ConditionsAreUnfresh = (m : Module) → unfresh_module m ≡ true → (c : Cond) → Contains (conditions m) c → unfresh_condition c ≡ true
