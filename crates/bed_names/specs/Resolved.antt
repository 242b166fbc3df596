-- A module without bare arguments: each name alone is the word or the sequence that its place asks for, and a hole is one of
-- the sort that its place asks for.
use Rattle.std.specs.Prelude.{ℕ, if◌then◌else◌, List, Option, None, Some, unwrap_or}
use Rattle.bed_lang.specs.declared.word.Name.{Name}
use Rattle.bed_lang.specs.declared.word.Sort.{Sort}
use Rattle.bed_lang.specs.declared.word.Sort.TheVariants as sort
use Rattle.bed_lang.specs.declared.word.Var.{Var}
use Rattle.bed_lang.specs.declared.word.Var.TheVariants as var
use Rattle.bed_lang.specs.declared.word.Word.{Var as WordVar}
use Rattle.bed_lang.specs.declared.word.Seq.{Var as SeqVar}
use Rattle.bed_lang.specs.declared.logic.Arg.{Arg}
use Rattle.bed_lang.specs.declared.logic.Arg.TheVariants as arg
use Rattle.bed_lang.specs.declared.logic.Atom.{Atom}
use Rattle.bed_lang.specs.declared.logic.Term.{Term}
use Rattle.bed_lang.specs.declared.logic.Bind.{Bind}
use Rattle.bed_lang.specs.declared.logic.Assertion.{Assertion}
use Rattle.bed_lang.specs.declared.module.Signature.{Signature}
use Rattle.bed_lang.specs.declared.module.Predicate.{Predicate}
use Rattle.bed_lang.specs.declared.module.Function.{Function}
use Rattle.bed_lang.specs.declared.module.Module.{Module}
use Rattle.bed_lang.specs.declared.module.Join.{Join}
use Rattle.bed_lang.specs.declared.module.Hint.{Hint}
use Rattle.bed_lang.specs.declared.statement.Stmt.{Stmt, Stmt-F}
use Rattle.bed_lang.specs.declared.statement.StmtKind.{StmtKind, StmtKind-F}
use Rattle.bed_lang.specs.declared.condition.Decls.{Decls}
use Rattle.bed_lang.specs.Declarations.{declarations}
use Rattle.bed_names.specs.Names.{sort_of}
use Rattle.bed_names.specs.Terms.{Visible, is_hole}
use Rattle.bed_names.specs.Arguments.{changed_args, changed_applied, changed_atom, changed_term, changed_assertion, changed_hint, changed_join, changed_keep, changed_step, changed_stmt_step, changed_kind, changed_stmt, changed_signature, changed_predicate, changed_function, changed_with}

-- the sort that is asked for; a variable's own one where none is, and a word where there is no such variable
abbrev pub bare_sort : Visible → Option Sort → Name → Sort
bare_sort v (Some s) x = s
bare_sort v None x = unwrap_or (sort_of v.names x) sort.Word

-- a name alone stands for its variable, and `_` for a hole
abbrev pub bare_variable : Name → Var
bare_variable x = if is_hole x then var.Hole else var.Named x

-- the argument of a sort that is one variable
abbrev pub variable_arg : Sort → ℕ → Var → Arg
variable_arg sort.Word at x = arg.Word at (WordVar x)
variable_arg sort.Seq at x = arg.Seq at (SeqVar x)

abbrev pub resolved_arg : Visible → Option Sort → Arg → Arg
resolved_arg v asked (arg.Word at a) = arg.Word at a
resolved_arg v asked (arg.Seq at s) = arg.Seq at s
resolved_arg v asked (arg.Bare x) = variable_arg (bare_sort v asked x) x.at (bare_variable x)

-- the same of all arguments in each part of a module
abbrev pub resolved_args : Visible → List Bind → List Arg → List Arg
resolved_args = changed_args resolved_arg

abbrev pub resolved_applied : Visible → Name → List Arg → List Arg
resolved_applied = changed_applied resolved_arg

abbrev pub resolved_atom : Visible → Atom → Atom
resolved_atom = changed_atom resolved_arg

abbrev pub resolved_term : Visible → Term → Term
resolved_term = changed_term resolved_arg

abbrev pub resolved_assertion : Visible → Assertion → Assertion
resolved_assertion = changed_assertion resolved_arg

abbrev pub resolved_hint : Visible → Hint → Hint
resolved_hint = changed_hint resolved_arg

abbrev pub resolved_join : Visible → Option Join → Option Join
resolved_join = changed_join resolved_arg

abbrev pub resolved_keep : Visible → Name → Name → Assertion → Assertion
resolved_keep = changed_keep resolved_arg

abbrev pub resolved_step : Visible → StmtKind-F StmtKind Stmt → StmtKind
resolved_step = changed_step resolved_arg

abbrev pub resolved_stmt_step : Visible → Stmt-F StmtKind Stmt → Stmt
resolved_stmt_step = changed_stmt_step resolved_arg

abbrev pub resolved_kind : Visible → StmtKind → StmtKind
resolved_kind = changed_kind resolved_arg

abbrev pub resolved_stmt : Visible → Stmt → Stmt
resolved_stmt = changed_stmt resolved_arg

abbrev pub resolved_signature : Decls → Signature → Signature
resolved_signature = changed_signature resolved_arg

abbrev pub resolved_predicate : Decls → Predicate → Predicate
resolved_predicate = changed_predicate resolved_arg

abbrev pub resolved_function : Decls → Function → Function
resolved_function = changed_function resolved_arg

-- a module with no bare argument left, where names stand for these declarations
abbrev pub resolved_with : Decls → Module → Module
resolved_with = changed_with resolved_arg

-- the same module with no bare argument left
abbrev pub resolved : Module → Module
resolved m = resolved_with (declarations m) m
