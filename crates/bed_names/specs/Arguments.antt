-- A module with its arguments changed, each by what is in scope at its place and by the sort that its place asks for, where one
-- does. All else stays.
use Rattle.std.specs.Prelude.{true, false, List, [], ◌∷◌, map, Option, None, Some}
use Rattle.bed_lang.specs.declared.word.Name.{Name}
use Rattle.bed_lang.specs.declared.word.Sort.{Sort}
use Rattle.bed_lang.specs.declared.logic.Arg.{Arg}
use Rattle.bed_lang.specs.declared.logic.Atom.{Atom}
use Rattle.bed_lang.specs.declared.logic.Atom.TheVariants as atom
use Rattle.bed_lang.specs.declared.logic.Term.{Term}
use Rattle.bed_lang.specs.declared.logic.Term.TheVariants as term
use Rattle.bed_lang.specs.declared.logic.Bind.{Bind}
use Rattle.bed_lang.specs.declared.logic.Assertion.{Assertion}
use Rattle.bed_lang.specs.declared.module.Signature.{Signature}
use Rattle.bed_lang.specs.declared.module.Predicate.{Predicate}
use Rattle.bed_lang.specs.declared.module.Function.{Function}
use Rattle.bed_lang.specs.declared.module.Module.{Module}
use Rattle.bed_lang.specs.declared.module.Join.{Join}
use Rattle.bed_lang.specs.declared.module.Hint.{Hint}
use Rattle.bed_lang.specs.declared.module.Hint.TheVariants as hint
use Rattle.bed_lang.specs.declared.statement.Stmt.{Stmt, Stmt-F, fold-Stmt}
use Rattle.bed_lang.specs.declared.statement.StmtKind.{StmtKind, StmtKind-F, fold-StmtKind, Assign, Compute, Load, LoadByte, Store, StoreByte, Call, If, While, Return, Hint as HintStmt, Find, Walk}
use Rattle.bed_lang.specs.declared.condition.Decls.{Decls}
use Rattle.bed_lang.specs.Lookups.{signature_named, predicate_named}
use Rattle.bed_names.specs.Names.{sequences}
use Rattle.bed_names.specs.Terms.{Visible, with_names, asked_by, first_sort, behind_first}
use Rattle.bed_names.specs.Modules.{plain, signature_names, function_visible}

module _ (change : Visible → Option Sort → Arg → Arg) where
  -- arguments are asked for the sorts of these parameters in their order
  abbrev pub changed_args : Visible → List Bind → List Arg → List Arg
  changed_args v ps [] = []
  changed_args v ps (a ∷ more) = change v (first_sort ps) a ∷ changed_args v (behind_first ps) more

  -- the arguments of a predicate
  abbrev pub changed_applied : Visible → Name → List Arg → List Arg
  changed_applied v x as' = changed_args v (asked_by (predicate_named v.decls x.bytes) as') as'

  abbrev pub changed_atom : Visible → Atom → Atom
  changed_atom v (atom.Pred x as') = atom.Pred x (changed_applied v x as')
  changed_atom v (atom.Cell a b) = atom.Cell a b
  changed_atom v (atom.Byte a b) = atom.Byte a b
  changed_atom v (atom.Block a b) = atom.Block a b

  abbrev pub changed_term : Visible → Term → Term
  changed_term v term.Emp = term.Emp
  changed_term v (term.Pure a) = term.Pure a
  changed_term v (term.Atom a) = term.Atom (changed_atom v a)

  abbrev pub changed_assertion : Visible → Assertion → Assertion
  changed_assertion v a = record a { terms = map (changed_term (with_names v a.binders)) a.terms }

  abbrev pub changed_hint : Visible → Hint → Hint
  changed_hint v (hint.Fold x as' n) = hint.Fold x (changed_applied v x as') n
  changed_hint v (hint.Give x a) = hint.Give x (change v None a)
  changed_hint v (hint.Unfold x at) = hint.Unfold x at
  changed_hint v (hint.Append a) = hint.Append a
  changed_hint v (hint.Divide a b) = hint.Divide a b
  changed_hint v (hint.Merge a b) = hint.Merge a b
  changed_hint v (hint.Bytes a) = hint.Bytes a
  changed_hint v (hint.Word a) = hint.Word a
  changed_hint v (hint.Cell a) = hint.Cell a
  changed_hint v (hint.Uncell a) = hint.Uncell a
  changed_hint v (hint.Drop a) = hint.Drop a
  changed_hint v (hint.Claim a) = hint.Claim a
  changed_hint v (hint.When a) = hint.When a

  abbrev pub changed_join : Visible → Option Join → Option Join
  changed_join v None = None
  changed_join v (Some j) = Some (record j { assertion = changed_assertion v j.assertion })

  -- what is kept by `find` and `walk` sees their two sequences
  abbrev pub changed_keep : Visible → Name → Name → Assertion → Assertion
  changed_keep v u t a = changed_assertion (with_names v (sequences (u ∷ t ∷ []))) a

  abbrev pub changed_step : Visible → StmtKind-F StmtKind Stmt → StmtKind
  changed_step v (StmtKind-F.Assign x a) = Assign x a
  changed_step v (StmtKind-F.Compute x op a b) = Compute x op a b
  changed_step v (StmtKind-F.Load x p) = Load x p
  changed_step v (StmtKind-F.LoadByte x p) = LoadByte x p
  changed_step v (StmtKind-F.Store p a) = Store p a
  changed_step v (StmtKind-F.StoreByte p a) = StoreByte p a
  changed_step v (StmtKind-F.Call place into target via args hints after) =
      Call place into target via args (map (changed_hint v) hints) (changed_assertion v after)
  changed_step v (StmtKind-F.If test ys ns join) = If test ys ns (changed_join v join)
  changed_step v (StmtKind-F.While test place invariant' body) = While test place (changed_assertion v invariant') body
  changed_step v (StmtKind-F.Return a) = Return a
  changed_step v (StmtKind-F.Hint h) = HintStmt (changed_hint v h)
  changed_step v (StmtKind-F.Find n x a p s u t keep body) = Find n x a p s u t (changed_keep v u t keep) body
  changed_step v (StmtKind-F.Walk n x p s u t keep body) = Walk n x p s u t (changed_keep v u t keep) body

  abbrev pub changed_stmt_step : Visible → Stmt-F StmtKind Stmt → Stmt
  changed_stmt_step v s = record { at = s.at; kind = s.kind }

  abbrev pub changed_kind : Visible → StmtKind → StmtKind
  changed_kind v = fold-StmtKind StmtKind Stmt (changed_step v) (changed_stmt_step v)

  abbrev pub changed_stmt : Visible → Stmt → Stmt
  changed_stmt v = fold-Stmt StmtKind Stmt (changed_step v) (changed_stmt_step v)

  abbrev pub changed_signature : Decls → Signature → Signature
  changed_signature d s = record s {
    pre = changed_assertion (plain d (signature_names s) false) s.pre;
    post = changed_assertion (plain d (signature_names s) true) s.post;
  }

  abbrev pub changed_predicate : Decls → Predicate → Predicate
  changed_predicate d p = record p { cases = map (changed_assertion (plain d p.params false)) p.cases }

  abbrev pub changed_function : Decls → Function → Function
  changed_function d f =
      record f { body = map (changed_stmt (function_visible d (signature_named d f.signature.bytes) f)) f.body }

  -- a module whose names stand for these declarations
  abbrev pub changed_with : Decls → Module → Module
  changed_with d m = record m {
    signatures = map (changed_signature d) m.signatures;
    predicates = map (changed_predicate d) m.predicates;
    functions = map (changed_function d) m.functions;
  }
