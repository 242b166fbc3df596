-- A module with brackets round each name alone that its place asks to be a word: the module that the text of a scoped module has.
use Rattle.std.specs.Prelude.{if◌then◌else◌, List, Option}
use Rattle.bed_lang.specs.declared.word.Name.{Name}
use Rattle.bed_lang.specs.declared.word.Sort.{Sort}
use Rattle.bed_lang.specs.declared.word.Sort.TheVariants as sort
use Rattle.bed_lang.specs.declared.word.Var.TheVariants as var
use Rattle.bed_lang.specs.declared.word.Word.{Var as WordVar}
use Rattle.bed_lang.specs.declared.logic.Arg.{Arg}
use Rattle.bed_lang.specs.declared.logic.Arg.TheVariants as arg
use Rattle.bed_lang.specs.declared.logic.Atom.{Atom}
use Rattle.bed_lang.specs.declared.logic.Term.{Term}
use Rattle.bed_lang.specs.declared.logic.Bind.{Bind}
use Rattle.bed_lang.specs.declared.logic.Assertion.{Assertion}
use Rattle.bed_lang.specs.declared.module.Signature.{Signature}
use Rattle.bed_lang.specs.declared.module.Predicate.{Predicate}
use Rattle.bed_lang.specs.declared.module.Function.{Function}
use Rattle.bed_lang.specs.declared.module.Module.{Module}
use Rattle.bed_lang.specs.declared.module.Join.{Join}
use Rattle.bed_lang.specs.declared.module.Hint.{Hint}
use Rattle.bed_lang.specs.declared.statement.Stmt.{Stmt, Stmt-F}
use Rattle.bed_lang.specs.declared.statement.StmtKind.{StmtKind, StmtKind-F}
use Rattle.bed_lang.specs.declared.condition.Decls.{Decls}
use Rattle.bed_lang.specs.Declarations.{declarations}
use Rattle.bed_names.specs.Terms.{Visible, is_hole}
use Rattle.bed_names.specs.Arguments.{changed_args, changed_applied, changed_atom, changed_term, changed_assertion, changed_hint, changed_join, changed_keep, changed_step, changed_stmt_step, changed_kind, changed_stmt, changed_signature, changed_predicate, changed_function, changed_with}
use Rattle.bed_names.specs.Resolved.{bare_sort}

-- a name alone of this sort
abbrev pub bracketed : Sort → Name → Arg
bracketed sort.Word x = arg.Word x.at (WordVar (var.Named x))
bracketed sort.Seq x = arg.Bare x

abbrev pub worded_arg : Visible → Option Sort → Arg → Arg
worded_arg v asked (arg.Word at a) = arg.Word at a
worded_arg v asked (arg.Seq at s) = arg.Seq at s
worded_arg v asked (arg.Bare x) = if is_hole x then arg.Bare x else bracketed (bare_sort v asked x) x

-- the same of all arguments in each part of a module
abbrev pub worded_args : Visible → List Bind → List Arg → List Arg
worded_args = changed_args worded_arg

abbrev pub worded_applied : Visible → Name → List Arg → List Arg
worded_applied = changed_applied worded_arg

abbrev pub worded_atom : Visible → Atom → Atom
worded_atom = changed_atom worded_arg

abbrev pub worded_term : Visible → Term → Term
worded_term = changed_term worded_arg

abbrev pub worded_assertion : Visible → Assertion → Assertion
worded_assertion = changed_assertion worded_arg

abbrev pub worded_hint : Visible → Hint → Hint
worded_hint = changed_hint worded_arg

abbrev pub worded_join : Visible → Option Join → Option Join
worded_join = changed_join worded_arg

abbrev pub worded_keep : Visible → Name → Name → Assertion → Assertion
worded_keep = changed_keep worded_arg

abbrev pub worded_step : Visible → StmtKind-F StmtKind Stmt → StmtKind
worded_step = changed_step worded_arg

abbrev pub worded_stmt_step : Visible → Stmt-F StmtKind Stmt → Stmt
worded_stmt_step = changed_stmt_step worded_arg

abbrev pub worded_kind : Visible → StmtKind → StmtKind
worded_kind = changed_kind worded_arg

abbrev pub worded_stmt : Visible → Stmt → Stmt
worded_stmt = changed_stmt worded_arg

abbrev pub worded_signature : Decls → Signature → Signature
worded_signature = changed_signature worded_arg

abbrev pub worded_predicate : Decls → Predicate → Predicate
worded_predicate = changed_predicate worded_arg

abbrev pub worded_function : Decls → Function → Function
worded_function = changed_function worded_arg

abbrev pub worded_with : Decls → Module → Module
worded_with = changed_with worded_arg

abbrev pub worded : Module → Module
worded m = worded_with (declarations m) m
