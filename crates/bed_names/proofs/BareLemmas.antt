-- No bare argument is left where names are resolved.
use Rattle.std.proofs.Common.{◌≡◌, ◌∙◌, sym, ap, subst, refl, ℕ, Bool, true, false, ◌&&◌, List, [], ◌∷◌, map, Option, None, Some}
use Rattle.std.specs.List.{list_all}
use Rattle.std.proofs.lemmas.Bool.{and_from}
use Rattle.bed_lang.specs.declared.word.Name.{Name}
use Rattle.bed_lang.specs.declared.word.Sort.{Sort}
use Rattle.bed_lang.specs.declared.word.Sort.TheVariants as sort
use Rattle.bed_lang.specs.declared.word.Var.{Var}
use Rattle.bed_lang.specs.declared.logic.Arg.{Arg}
use Rattle.bed_lang.specs.declared.logic.Arg.TheVariants as arg
use Rattle.bed_lang.specs.declared.logic.Atom.{Atom}
use Rattle.bed_lang.specs.declared.logic.Atom.TheVariants as atom
use Rattle.bed_lang.specs.declared.logic.Term.{Term}
use Rattle.bed_lang.specs.declared.logic.Term.TheVariants as term
use Rattle.bed_lang.specs.declared.logic.Bind.{Bind}
use Rattle.bed_lang.specs.declared.logic.Assertion.{Assertion}
use Rattle.bed_lang.specs.declared.module.Signature.{Signature}
use Rattle.bed_lang.specs.declared.module.Predicate.{Predicate}
use Rattle.bed_lang.specs.declared.module.Function.{Function}
use Rattle.bed_lang.specs.declared.module.Join.{Join}
use Rattle.bed_lang.specs.declared.module.Hint.{Hint}
use Rattle.bed_lang.specs.declared.module.Hint.TheVariants as hint
use Rattle.bed_lang.specs.declared.statement.Stmt.{Stmt, fold-Stmt, ind-Stmt, fold-roll-Stmt}
use Rattle.bed_lang.specs.declared.statement.StmtKind.{StmtKind, StmtKind-F, fold-StmtKind, map-StmtKind, fold-roll-StmtKind}
use Rattle.bed_lang.specs.declared.condition.Decls.{Decls}
use Rattle.bed_names.specs.Bare.{arg_is_resolved, atom_is_resolved, term_is_resolved, assertion_is_resolved, hint_is_resolved, join_is_resolved, kind_test, stmt_test, stmt_is_resolved, signature_is_resolved, predicate_is_resolved, function_is_resolved}
use Rattle.bed_lang.specs.Declarations.{declarations}
use Rattle.bed_lang.specs.Lookups.{signature_named, predicate_named}
use Rattle.bed_names.specs.Names.{sequences}
use Rattle.bed_names.specs.Laws.{NoBareArgumentIsLeft}
use Rattle.bed_names.specs.Modules.{plain, signature_names, function_visible}
use Rattle.bed_names.specs.Resolved.{bare_sort, bare_variable, variable_arg, resolved_arg, resolved_args, resolved_atom, resolved_term, resolved_assertion, resolved_hint, resolved_join, resolved_keep, resolved_stmt, resolved_signature, resolved_predicate, resolved_function}
use Rattle.bed_names.proofs.ArgumentLaws.{changed_layer, fold_changed}
use Rattle.bed_names.specs.Terms.{Visible, with_names, asked_by, first_sort, behind_first}

-- what each item becomes has no bare argument
all_made : {X Y : Type 0} (test : Y → Bool) (f : X → Y) → ((x : X) → test (f x) ≡ true) → (xs : List X) → list_all test (map f xs) ≡ true
all_made test f each [] = refl
all_made test f each (x ∷ xs) = and_from (test (f x)) (list_all test (map f xs)) (each x) (all_made test f each xs)

variable_made : (s : Sort) (at : ℕ) (x : Var) → arg_is_resolved (variable_arg s at x) ≡ true
variable_made sort.Word at x = refl
variable_made sort.Seq at x = refl

arg_made : (v : Visible) (asked : Option Sort) (a : Arg) → arg_is_resolved (resolved_arg v asked a) ≡ true
arg_made v asked (arg.Word at a) = refl
arg_made v asked (arg.Seq at s) = refl
arg_made v asked (arg.Bare x) = variable_made (bare_sort v asked x) x.at (bare_variable x)

args_made : (v : Visible) (ps : List Bind) (as' : List Arg) → list_all arg_is_resolved (resolved_args v ps as') ≡ true
args_made v ps [] = refl
args_made v ps (a ∷ more) =
    and_from (arg_is_resolved (resolved_arg v (first_sort ps) a)) (list_all arg_is_resolved (resolved_args v (behind_first ps) more))
    (arg_made v (first_sort ps) a) (args_made v (behind_first ps) more)

applied_made : (v : Visible) (x : Name) (as' : List Arg)
    → list_all arg_is_resolved (resolved_args v (asked_by (predicate_named v.decls x.bytes) as') as') ≡ true
applied_made v x as' = args_made v (asked_by (predicate_named v.decls x.bytes) as') as'

atom_made : (v : Visible) (a : Atom) → atom_is_resolved (resolved_atom v a) ≡ true
atom_made v (atom.Pred x as') = applied_made v x as'
atom_made v (atom.Cell a b) = refl
atom_made v (atom.Byte a b) = refl
atom_made v (atom.Block a b) = refl

term_made : (v : Visible) (t : Term) → term_is_resolved (resolved_term v t) ≡ true
term_made v term.Emp = refl
term_made v (term.Pure a) = refl
term_made v (term.Atom a) = atom_made v a

assertion_made : (v : Visible) (a : Assertion) → assertion_is_resolved (resolved_assertion v a) ≡ true
assertion_made v a = all_made term_is_resolved (resolved_term (with_names v a.binders)) (term_made (with_names v a.binders)) a.terms

hint_made : (v : Visible) (h : Hint) → hint_is_resolved (resolved_hint v h) ≡ true
hint_made v (hint.Fold x as' n) = applied_made v x as'
hint_made v (hint.Give x a) = arg_made v None a
hint_made v (hint.Unfold x at) = refl
hint_made v (hint.Append a) = refl
hint_made v (hint.Divide a b) = refl
hint_made v (hint.Merge a b) = refl
hint_made v (hint.Bytes a) = refl
hint_made v (hint.Word a) = refl
hint_made v (hint.Cell a) = refl
hint_made v (hint.Uncell a) = refl
hint_made v (hint.Drop a) = refl
hint_made v (hint.Claim a) = refl
hint_made v (hint.When a) = refl

join_made : (v : Visible) (j : Option Join) → join_is_resolved (resolved_join v j) ≡ true
join_made v None = refl
join_made v (Some j) = assertion_made v j.assertion

module _ (v : Visible) where
  -- the test of one layer without bare arguments, and of a statement layer by layer
  abbrev layered : StmtKind-F Bool Bool → Bool
  layered x = kind_test (changed_layer resolved_arg v x)

  abbrev kind_made : StmtKind → Bool
  kind_made = fold-StmtKind Bool Bool layered stmt_test

  abbrev stmt_made : Stmt → Bool
  stmt_made = fold-Stmt Bool Bool layered stmt_test

  abbrev trees : List ((s : Stmt) × (stmt_made s ≡ true)) → List Stmt
  trees ss = map (λ s. s.0) ss

  body_made : (ss : List ((s : Stmt) × (stmt_made s ≡ true))) → list_all (λ b. b) (map stmt_made (trees ss)) ≡ true
  body_made [] = refl
  body_made (s ∷ ss) = and_from (stmt_made s.0) (list_all (λ b. b) (map stmt_made (trees ss))) s.1 (body_made ss)

  layer : (y : StmtKind-F ((k : StmtKind) × (kind_made k ≡ true)) ((s : Stmt) × (stmt_made s ≡ true)))
      → layered (map-StmtKind StmtKind Stmt Bool Bool kind_made stmt_made (map-StmtKind _ _ StmtKind Stmt (λ k. k.0) (λ s. s.0) y)) ≡ true
  layer (StmtKind-F.Assign x a) = refl
  layer (StmtKind-F.Compute x op a b) = refl
  layer (StmtKind-F.Load x p) = refl
  layer (StmtKind-F.LoadByte x p) = refl
  layer (StmtKind-F.Store p a) = refl
  layer (StmtKind-F.StoreByte p a) = refl
  layer (StmtKind-F.Return a) = refl
  layer (StmtKind-F.Hint h) = hint_made v h
  layer (StmtKind-F.Call place x t via args hints after) =
      and_from (list_all hint_is_resolved (map (resolved_hint v) hints)) (assertion_is_resolved (resolved_assertion v after))
      (all_made hint_is_resolved (resolved_hint v) (hint_made v) hints) (assertion_made v after)
  layer (StmtKind-F.If t ys ns j) =
      and_from (list_all (λ b. b) (map stmt_made (trees ys)))
      (list_all (λ b. b) (map stmt_made (trees ns)) && join_is_resolved (resolved_join v j))
      (body_made ys)
      (and_from (list_all (λ b. b) (map stmt_made (trees ns))) (join_is_resolved (resolved_join v j)) (body_made ns) (join_made v j))
  layer (StmtKind-F.While t place a body) =
      and_from (assertion_is_resolved (resolved_assertion v a)) (list_all (λ b. b) (map stmt_made (trees body)))
      (assertion_made v a) (body_made body)
  layer (StmtKind-F.Find n x a p s u t keep body) =
      and_from (assertion_is_resolved (resolved_keep v u t keep)) (list_all (λ b. b) (map stmt_made (trees body)))
      (assertion_made (with_names v (sequences (u ∷ t ∷ []))) keep) (body_made body)
  layer (StmtKind-F.Walk n x p s u t keep body) =
      and_from (assertion_is_resolved (resolved_keep v u t keep)) (list_all (λ b. b) (map stmt_made (trees body)))
      (assertion_made (with_names v (sequences (u ∷ t ∷ []))) keep) (body_made body)

  each_made : (s : Stmt) → stmt_made s ≡ true
  each_made =
      ind-Stmt (λ k. kind_made k ≡ true) (λ s. stmt_made s ≡ true)
      (λ x y is.
      fold-roll-StmtKind Bool Bool layered stmt_test x
      ∙ subst (λ z. layered (map-StmtKind StmtKind Stmt Bool Bool kind_made stmt_made z) ≡ true) is (layer y))
      (λ x y is. fold-roll-Stmt Bool Bool layered stmt_test x ∙ subst (λ z. kind_made z.kind ≡ true) is y.kind.1)

  statement_made : (s : Stmt) → stmt_is_resolved (resolved_stmt v s) ≡ true
  statement_made s = fold_changed resolved_arg v kind_test stmt_test s ∙ each_made s

signature_made : (d : Decls) (s : Signature) → signature_is_resolved (resolved_signature d s) ≡ true
signature_made d s =
    and_from (assertion_is_resolved (resolved_assertion (plain d (signature_names s) false) s.pre))
    (assertion_is_resolved (resolved_assertion (plain d (signature_names s) true) s.post))
    (assertion_made (plain d (signature_names s) false) s.pre) (assertion_made (plain d (signature_names s) true) s.post)

predicate_made : (d : Decls) (p : Predicate) → predicate_is_resolved (resolved_predicate d p) ≡ true
predicate_made d p =
    all_made assertion_is_resolved (resolved_assertion (plain d p.params false)) (assertion_made (plain d p.params false)) p.cases

function_made : (d : Decls) (f : Function) → function_is_resolved (resolved_function d f) ≡ true
function_made d f =
    let v : Visible = function_visible d (signature_named d f.signature.bytes) f in
    all_made stmt_is_resolved (resolved_stmt v) (statement_made v) f.body

pub no_bare_argument_is_left : NoBareArgumentIsLeft
no_bare_argument_is_left m =
    let d : Decls = declarations m in
    and_from (list_all signature_is_resolved (map (resolved_signature d) m.signatures))
    (list_all predicate_is_resolved (map (resolved_predicate d) m.predicates)
    && list_all function_is_resolved (map (resolved_function d) m.functions))
    (all_made signature_is_resolved (resolved_signature d) (signature_made d) m.signatures)
    (and_from (list_all predicate_is_resolved (map (resolved_predicate d) m.predicates))
    (list_all function_is_resolved (map (resolved_function d) m.functions))
    (all_made predicate_is_resolved (resolved_predicate d) (predicate_made d) m.predicates)
    (all_made function_is_resolved (resolved_function d) (function_made d) m.functions))
