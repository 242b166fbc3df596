-- A scoped module has the tokens of the module with brackets round names that stand for words.
use Rattle.std.proofs.Math.Path.{fun_ext}
use Rattle.std.proofs.Common.{◌≡◌, ℕ, Bool, true, false, if◌then◌else◌, List, [], ◌∷◌, ◌++◌, map, Option, Some, None, refl, sym, ap, ◌∙◌, subst}
use Rattle.bed_lang.specs.declared.word.Name.{Name}
use Rattle.bed_lang.specs.declared.word.Sort.{Sort}
use Rattle.bed_lang.specs.declared.word.Sort.TheVariants as sort
use Rattle.bed_lang.specs.declared.word.Var.TheVariants as var
use Rattle.bed_lang.specs.declared.word.Word.{Var as WordVar}
use Rattle.bed_lang.specs.declared.word.Word.TheVariants.{outs-Var}
use Rattle.bed_lang.specs.declared.logic.Arg.{Arg}
use Rattle.bed_lang.specs.declared.logic.Arg.TheVariants as arg
use Rattle.bed_lang.specs.declared.logic.Atom.TheVariants as atom
use Rattle.bed_lang.specs.declared.logic.Term.{Term}
use Rattle.bed_lang.specs.declared.logic.Term.TheVariants as term
use Rattle.bed_lang.specs.declared.logic.Bind.{Bind}
use Rattle.bed_lang.specs.declared.logic.Assertion.{Assertion}
use Rattle.bed_lang.specs.declared.module.Signature.{Signature}
use Rattle.bed_lang.specs.declared.module.Predicate.{Predicate}
use Rattle.bed_lang.specs.declared.module.Function.{Function}
use Rattle.bed_lang.specs.declared.module.Module.{Module}
use Rattle.bed_lang.specs.declared.module.Join.{Join}
use Rattle.bed_lang.specs.declared.module.Hint.{Hint}
use Rattle.bed_lang.specs.declared.module.Hint.TheVariants as hint
use Rattle.bed_lang.specs.declared.statement.Stmt.{Stmt, fold-Stmt}
use Rattle.bed_lang.specs.declared.statement.StmtKind.{StmtKind-F}
use Rattle.bed_lang.specs.declared.condition.Decls.{Decls}
use Rattle.bed_lex.specs.declared.token.Kind.{Kind}
use Rattle.bed_lex.specs.declared.token.Kind.TheVariants as kind
use Rattle.bed_lang.specs.Lookups.{signature_named}
use Rattle.bed_names.specs.Names.{sequences}
use Rattle.bed_names.specs.Terms.{Visible, with_names, is_hole, first_sort, behind_first}
use Rattle.bed_names.specs.Modules.{plain, signature_names, function_visible}
use Rattle.bed_names.specs.Resolved.{bare_sort, variable_arg, resolved_arg, resolved_args, resolved_term, resolved_assertion, resolved_hint, resolved_join, resolved_stmt, resolved_signature, resolved_predicate, resolved_function, resolved_with}
use Rattle.bed_read.specs.Classes.{MODULE, PRE, POST, PREDICATE, AFTER, FIND, WALK, FOR, AS, KEEP, HINT, FOLD, CASE, GIVE, USING, IF, WHILE, INVARIANT, JOIN, SEMICOLON, COMMA, LEFT_PAREN, RIGHT_PAREN, BAR, ASSIGN, EQUAL, STAR, HOLE}
use Rattle.bed_print.specs.Kinds.{fixed, all_of, each_after, parted, arg_kinds, term_kinds, assertion_kinds, exists_kinds, hint_kinds, using_kinds, join_kinds, body_of, else_of, over_kinds, target_kinds, operand_kinds, test_kinds, kind_step, stmt_step, stmt_kinds, signature_kinds, predicate_kinds, function_kinds, module_kinds, word_kinds, is_name_layer, is_name_alone, binds_kinds, params_kinds, reserve_kinds, list_kinds, pair_kinds, head_kinds, locals_kinds, import_kinds}
use Rattle.bed_print.proofs.WordTrees.{sum_of-Var, seq_kinds-Var}
use Rattle.bed_names.proofs.ArgumentLaws.{changed_layer, fold_changed}
use Rattle.bed_print.proofs.Worded.{bracketed, worded_arg, worded_args, worded_term, worded_assertion, worded_hint, worded_join, worded_stmt, worded_signature, worded_predicate, worded_function, worded_with}

-- ---- arguments

alone-Hole : is_name_alone (WordVar var.Hole) ≡ false
alone-Hole = ap is_name_layer (outs-Var var.Hole)

-- a hole of either sort is `_`
hole_arg : (r : Sort) (at : ℕ) → arg_kinds (variable_arg r at var.Hole) ≡ fixed HOLE ∷ []
hole_arg sort.Word at =
    ap (λ b. if b then fixed LEFT_PAREN ∷ (word_kinds (WordVar var.Hole) ++ fixed RIGHT_PAREN ∷ []) else word_kinds (WordVar var.Hole)) alone-Hole
    ∙ sum_of-Var var.Hole 255
hole_arg sort.Seq at = seq_kinds-Var var.Hole

-- a name that stands for a word has brackets, and one that stands for a sequence is alone
name_arg : (r : Sort) (x : Name) → is_hole x ≡ false → arg_kinds (bracketed r x) ≡ arg_kinds (variable_arg r x.at (var.Named x))
name_arg sort.Word x e = refl
name_arg sort.Seq x e = ap (λ b. if b then fixed HOLE ∷ [] else kind.Name x ∷ []) e ∙ sym (seq_kinds-Var (var.Named x))

args_same : (v : Visible) (asked : Option Sort) (a : Arg) → arg_kinds (worded_arg v asked a) ≡ arg_kinds (resolved_arg v asked a)
args_same v asked (arg.Word at a) = refl
args_same v asked (arg.Seq at s) = refl
args_same v asked (arg.Bare x) = by (is_hole x) refl
  where
    r : Sort
    r = bare_sort v asked x

    by : (h : Bool) → is_hole x ≡ h
        → arg_kinds (if h then arg.Bare x else bracketed (bare_sort v asked x) x) ≡ arg_kinds (variable_arg (bare_sort v asked x) x.at (if h then var.Hole else var.Named x))
    by true e = ap (λ b. if b then fixed HOLE ∷ [] else kind.Name x ∷ []) e ∙ sym (hole_arg (bare_sort v asked x) x.at)
    by false e = name_arg (bare_sort v asked x) x e

-- ---- lists

same_all : {T : Type 0} (kinds : T → List Kind) (f g : T → T) → ((x : T) → kinds (f x) ≡ kinds (g x)) → (xs : List T)
    → all_of kinds (map f xs) ≡ all_of kinds (map g xs)
same_all kinds f g h [] = refl
same_all kinds f g h (x ∷ xs) = ap (λ z. z ++ all_of kinds (map f xs)) (h x) ∙ ap (λ z. kinds (g x) ++ z) (same_all kinds f g h xs)

same_after : (c : ℕ) {T : Type 0} (kinds : T → List Kind) (f g : T → T) → ((x : T) → kinds (f x) ≡ kinds (g x)) → (xs : List T)
    → each_after c kinds (map f xs) ≡ each_after c kinds (map g xs)
same_after c kinds f g h [] = refl
same_after c kinds f g h (x ∷ xs) =
    ap (λ z. fixed c ∷ (z ++ each_after c kinds (map f xs))) (h x) ∙ ap (λ z. fixed c ∷ (kinds (g x) ++ z)) (same_after c kinds f g h xs)

same_parted : (c : ℕ) {T : Type 0} (kinds : T → List Kind) (f g : T → T) → ((x : T) → kinds (f x) ≡ kinds (g x)) → (xs : List T)
    → parted c kinds (map f xs) ≡ parted c kinds (map g xs)
same_parted c kinds f g h [] = refl
same_parted c kinds f g h (x ∷ xs) =
    ap (λ z. z ++ each_after c kinds (map f xs)) (h x) ∙ ap (λ z. kinds (g x) ++ z) (same_after c kinds f g h xs)

-- arguments, each with the sort that its place asks for
more_args : (v : Visible) (ps : List Bind) (xs : List Arg) → each_after COMMA arg_kinds (worded_args v ps xs) ≡ each_after COMMA arg_kinds (resolved_args v ps xs)
more_args v ps [] = refl
more_args v ps (x ∷ xs) =
    ap (λ z. fixed COMMA ∷ (z ++ each_after COMMA arg_kinds (worded_args v (behind_first ps) xs))) (args_same v (first_sort ps) x)
    ∙ ap (λ z. fixed COMMA ∷ (arg_kinds (resolved_arg v (first_sort ps) x) ++ z)) (more_args v (behind_first ps) xs)

list_args : (v : Visible) (ps : List Bind) (xs : List Arg) → parted COMMA arg_kinds (worded_args v ps xs) ≡ parted COMMA arg_kinds (resolved_args v ps xs)
list_args v ps [] = refl
list_args v ps (x ∷ xs) =
    ap (λ z. z ++ each_after COMMA arg_kinds (worded_args v (behind_first ps) xs)) (args_same v (first_sort ps) x)
    ∙ ap (λ z. arg_kinds (resolved_arg v (first_sort ps) x) ++ z) (more_args v (behind_first ps) xs)

-- ---- assertions and hints

term_same : (v : Visible) (t : Term) → term_kinds (worded_term v t) ≡ term_kinds (resolved_term v t)
term_same v term.Emp = refl
term_same v (term.Pure p) = refl
term_same v (term.Atom (atom.Cell a b)) = refl
term_same v (term.Atom (atom.Byte a b)) = refl
term_same v (term.Atom (atom.Block a b)) = refl
term_same v (term.Atom (atom.Pred x xs)) = ap (λ z. kind.Name x ∷ fixed LEFT_PAREN ∷ (z ++ fixed RIGHT_PAREN ∷ [])) (list_args v _ xs)

assertion_same : (v : Visible) (a : Assertion) → assertion_kinds (worded_assertion v a) ≡ assertion_kinds (resolved_assertion v a)
assertion_same v a =
    let s : Visible = with_names v a.binders in
    ap (λ z. exists_kinds a.binders ++ z) (same_parted STAR term_kinds (worded_term s) (resolved_term s) (term_same s) a.terms)

hint_same : (v : Visible) (h : Hint) → hint_kinds (worded_hint v h) ≡ hint_kinds (resolved_hint v h)
hint_same v (hint.Fold x xs n) = ap (λ z. fixed FOLD ∷ kind.Name x ∷ fixed LEFT_PAREN ∷ (z ++ fixed RIGHT_PAREN ∷ fixed CASE ∷ kind.Number n ∷ [])) (list_args v _ xs)
hint_same v (hint.Give x a) = ap (λ z. fixed GIVE ∷ kind.Name x ∷ fixed EQUAL ∷ z) (args_same v None a)
hint_same v (hint.Unfold x at) = refl
hint_same v (hint.Append a) = refl
hint_same v (hint.Divide a b) = refl
hint_same v (hint.Merge a b) = refl
hint_same v (hint.Bytes a) = refl
hint_same v (hint.Word a) = refl
hint_same v (hint.Cell a) = refl
hint_same v (hint.Uncell a) = refl
hint_same v (hint.Drop a) = refl
hint_same v (hint.Claim a) = refl
hint_same v (hint.When a) = refl

using_same : (v : Visible) (hs : List Hint) → using_kinds (map (worded_hint v) hs) ≡ using_kinds (map (resolved_hint v) hs)
using_same v [] = refl
using_same v (h ∷ hs) = ap (λ z. fixed USING ∷ z) (same_parted COMMA hint_kinds (worded_hint v) (resolved_hint v) (hint_same v) (h ∷ hs))

join_same : (v : Visible) (j : Option Join) → join_kinds (worded_join v j) ≡ join_kinds (resolved_join v j)
join_same v None = refl
join_same v (Some j) = ap (λ z. fixed JOIN ∷ (z ++ fixed SEMICOLON ∷ [])) (assertion_same v j.assertion)

-- ---- statements

module _ (v : Visible) where
  layer : (x : StmtKind-F (List Kind) (List Kind)) → kind_step (changed_layer worded_arg v x) ≡ kind_step (changed_layer resolved_arg v x)
  layer (StmtKind-F.Assign x a) = refl
  layer (StmtKind-F.Compute x op a b) = refl
  layer (StmtKind-F.Load x p) = refl
  layer (StmtKind-F.LoadByte x p) = refl
  layer (StmtKind-F.Store p a) = refl
  layer (StmtKind-F.StoreByte p a) = refl
  layer (StmtKind-F.Return a) = refl
  layer (StmtKind-F.Hint h) = ap (λ z. fixed HINT ∷ (z ++ fixed SEMICOLON ∷ [])) (hint_same v h)
  layer (StmtKind-F.Call place x t via args hints after) =
      ap (λ z. kind.Name x ∷ fixed ASSIGN ∷ ((target_kinds t via args ++ (z ++ fixed AFTER ∷ assertion_kinds (worded_assertion v after))) ++ fixed SEMICOLON ∷ [])) (using_same v hints)
      ∙ ap (λ z. kind.Name x ∷ fixed ASSIGN ∷ ((target_kinds t via args ++ (using_kinds (map (resolved_hint v) hints) ++ fixed AFTER ∷ z)) ++ fixed SEMICOLON ∷ [])) (assertion_same v after)
  layer (StmtKind-F.If t ys ns j) = ap (λ z. fixed IF ∷ (test_kinds t ++ (body_of ys ++ (else_of ns ++ z)))) (join_same v j)
  layer (StmtKind-F.While t place a body) =
      ap (λ z. fixed WHILE ∷ (test_kinds t ++ fixed INVARIANT ∷ (z ++ body_of body))) (assertion_same v a)
  layer (StmtKind-F.Find n x k p s u t keep body) =
      ap (λ z. (pair_kinds FIND n x ++ fixed FOR ∷ (operand_kinds k ++ (list_kinds p s ++ (pair_kinds AS u t ++ fixed KEEP ∷ z)))) ++ body_of body)
      (assertion_same (with_names v (sequences (u ∷ t ∷ []))) keep)
  layer (StmtKind-F.Walk n x p s u t keep body) =
      ap (λ z. (pair_kinds WALK n x ++ (list_kinds p s ++ (pair_kinds AS u t ++ fixed KEEP ∷ z))) ++ body_of body)
      (assertion_same (with_names v (sequences (u ∷ t ∷ []))) keep)

  stmt_same : (s : Stmt) → stmt_kinds (worded_stmt v s) ≡ stmt_kinds (resolved_stmt v s)
  stmt_same s =
      fold_changed worded_arg v kind_step stmt_step s
      ∙ ap (λ step. fold-Stmt (List Kind) (List Kind) step stmt_step s) (fun_ext layer)
      ∙ sym (fold_changed resolved_arg v kind_step stmt_step s)

  stmts_same : (ss : List Stmt) → map stmt_kinds (map (worded_stmt v) ss) ≡ map stmt_kinds (map (resolved_stmt v) ss)
  stmts_same [] = refl
  stmts_same (s ∷ ss) =
      ap (λ z. z ∷ map stmt_kinds (map (worded_stmt v) ss)) (stmt_same s) ∙ ap (λ z. stmt_kinds (resolved_stmt v s) ∷ z) (stmts_same ss)

-- ---- items

signature_same : (d : Decls) (s : Signature) → signature_kinds (worded_signature d s) ≡ signature_kinds (resolved_signature d s)
signature_same d s =
    let before : Visible = plain d (signature_names s) false in
    let after : Visible = plain d (signature_names s) true in
    ap (λ z. params_kinds s.name s.params ++ (reserve_kinds s.reserve s.logical
    ++ fixed PRE ∷ (z ++ fixed POST ∷ (assertion_kinds (worded_assertion after s.post) ++ fixed SEMICOLON ∷ [])))) (assertion_same before s.pre)
    ∙ ap (λ z. params_kinds s.name s.params ++ (reserve_kinds s.reserve s.logical
    ++ fixed PRE ∷ (assertion_kinds (resolved_assertion before s.pre) ++ fixed POST ∷ (z ++ fixed SEMICOLON ∷ [])))) (assertion_same after s.post)

predicate_same : (d : Decls) (p : Predicate) → predicate_kinds (worded_predicate d p) ≡ predicate_kinds (resolved_predicate d p)
predicate_same d p =
    let s : Visible = plain d p.params false in
    ap (λ z. fixed PREDICATE ∷ kind.Name p.name ∷ fixed LEFT_PAREN ∷ (binds_kinds p.params ++ fixed RIGHT_PAREN ∷ fixed EQUAL ∷ (z ++ fixed SEMICOLON ∷ [])))
    (same_parted BAR assertion_kinds (worded_assertion s) (resolved_assertion s) (assertion_same s) p.cases)

function_same : (d : Decls) (f : Function) → function_kinds (worded_function d f) ≡ function_kinds (resolved_function d f)
function_same d f =
    ap (λ z. head_kinds f ++ (locals_kinds f.locals ++ body_of z)) (stmts_same (function_visible d (signature_named d f.signature.bytes) f) f.body)

pub module_same : (d : Decls) (m : Module) → module_kinds (worded_with d m) ≡ module_kinds (resolved_with d m)
module_same d m =
    let ws : List Kind = all_of signature_kinds (map (worded_signature d) m.signatures) in
    let rs : List Kind = all_of signature_kinds (map (resolved_signature d) m.signatures) in
    let wp : List Kind = all_of predicate_kinds (map (worded_predicate d) m.predicates) in
    let rp : List Kind = all_of predicate_kinds (map (resolved_predicate d) m.predicates) in
    let wf : List Kind = all_of function_kinds (map (worded_function d) m.functions) in
    let imports : List Kind = all_of import_kinds m.imports in
    ap (λ z. fixed MODULE ∷ kind.Name m.name ∷ fixed SEMICOLON ∷ (z ++ (wp ++ (imports ++ wf)))) (same_all signature_kinds (worded_signature d) (resolved_signature d) (signature_same d) m.signatures)
    ∙ ap (λ z. fixed MODULE ∷ kind.Name m.name ∷ fixed SEMICOLON ∷ (rs ++ (z ++ (imports ++ wf)))) (same_all predicate_kinds (worded_predicate d) (resolved_predicate d) (predicate_same d) m.predicates)
    ∙ ap (λ z. fixed MODULE ∷ kind.Name m.name ∷ fixed SEMICOLON ∷ (rs ++ (rp ++ (imports ++ z)))) (same_all function_kinds (worded_function d) (resolved_function d) (function_same d) m.functions)
