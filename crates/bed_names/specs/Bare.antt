-- Whether no bare argument is left.
use Rattle.std.specs.Prelude.{Bool, true, false, ◌&&◌, Option, None, Some}
use Rattle.std.specs.List.{list_all}
use Rattle.bed_lang.specs.declared.logic.Arg.{Arg}
use Rattle.bed_lang.specs.declared.logic.Arg.TheVariants as arg
use Rattle.bed_lang.specs.declared.logic.Atom.{Atom}
use Rattle.bed_lang.specs.declared.logic.Atom.TheVariants as atom
use Rattle.bed_lang.specs.declared.logic.Term.{Term}
use Rattle.bed_lang.specs.declared.logic.Term.TheVariants as term
use Rattle.bed_lang.specs.declared.logic.Assertion.{Assertion}
use Rattle.bed_lang.specs.declared.module.Signature.{Signature}
use Rattle.bed_lang.specs.declared.module.Predicate.{Predicate}
use Rattle.bed_lang.specs.declared.module.Function.{Function}
use Rattle.bed_lang.specs.declared.module.Module.{Module}
use Rattle.bed_lang.specs.declared.module.Join.{Join}
use Rattle.bed_lang.specs.declared.module.Hint.{Hint}
use Rattle.bed_lang.specs.declared.module.Hint.TheVariants as hint
use Rattle.bed_lang.specs.declared.statement.Stmt.{Stmt, Stmt-F, fold-Stmt}
use Rattle.bed_lang.specs.declared.statement.StmtKind.{StmtKind, StmtKind-F, fold-StmtKind}

abbrev pub arg_is_resolved : Arg → Bool
arg_is_resolved (arg.Word at a) = true
arg_is_resolved (arg.Seq at s) = true
arg_is_resolved (arg.Bare x) = false

abbrev pub atom_is_resolved : Atom → Bool
atom_is_resolved (atom.Pred x as') = list_all arg_is_resolved as'
atom_is_resolved (atom.Cell a b) = true
atom_is_resolved (atom.Byte a b) = true
atom_is_resolved (atom.Block a b) = true

abbrev pub term_is_resolved : Term → Bool
term_is_resolved term.Emp = true
term_is_resolved (term.Pure a) = true
term_is_resolved (term.Atom a) = atom_is_resolved a

abbrev pub assertion_is_resolved : Assertion → Bool
assertion_is_resolved a = list_all term_is_resolved a.terms

abbrev pub hint_is_resolved : Hint → Bool
hint_is_resolved (hint.Fold x as' n) = list_all arg_is_resolved as'
hint_is_resolved (hint.Give x a) = arg_is_resolved a
hint_is_resolved _ = true

abbrev pub join_is_resolved : Option Join → Bool
join_is_resolved None = true
join_is_resolved (Some j) = assertion_is_resolved j.assertion

abbrev pub kind_test : StmtKind-F Bool Bool → Bool
kind_test (StmtKind-F.Call place into target via args hints after) = list_all hint_is_resolved hints && assertion_is_resolved after
kind_test (StmtKind-F.If test ys ns join) = list_all (λ s. s) ys && (list_all (λ s. s) ns && join_is_resolved join)
kind_test (StmtKind-F.While test place invariant' body) = assertion_is_resolved invariant' && list_all (λ s. s) body
kind_test (StmtKind-F.Hint h) = hint_is_resolved h
kind_test (StmtKind-F.Find n x a p s u t keep body) = assertion_is_resolved keep && list_all (λ s. s) body
kind_test (StmtKind-F.Walk n x p s u t keep body) = assertion_is_resolved keep && list_all (λ s. s) body
kind_test _ = true

abbrev pub stmt_test : Stmt-F Bool Bool → Bool
stmt_test s = s.kind

abbrev pub kind_is_resolved : StmtKind → Bool
kind_is_resolved = fold-StmtKind Bool Bool kind_test stmt_test

abbrev pub stmt_is_resolved : Stmt → Bool
stmt_is_resolved = fold-Stmt Bool Bool kind_test stmt_test

abbrev pub signature_is_resolved : Signature → Bool
signature_is_resolved s = assertion_is_resolved s.pre && assertion_is_resolved s.post

abbrev pub predicate_is_resolved : Predicate → Bool
predicate_is_resolved p = list_all assertion_is_resolved p.cases

abbrev pub function_is_resolved : Function → Bool
function_is_resolved f = list_all stmt_is_resolved f.body

-- no bare argument is left in a module
abbrev pub module_is_resolved : Module → Bool
module_is_resolved m =
    list_all signature_is_resolved m.signatures
    && (list_all predicate_is_resolved m.predicates && list_all function_is_resolved m.functions)
