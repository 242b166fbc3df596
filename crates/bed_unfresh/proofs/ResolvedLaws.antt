-- Names stand for no fresh variable.
use Rattle.std.proofs.Common.{◌≡◌, ℕ, Bool, true, false, ◌&&◌, if◌then◌else◌, Option, Some, None, List, [], ◌∷◌, map, refl, sym, ◌∙◌, ap, subst}
use Rattle.bed_lang.specs.declared.word.Name.{Name}
use Rattle.bed_lang.specs.declared.word.Sort.{Sort}
use Rattle.bed_lang.specs.declared.word.Sort.TheVariants as sort
use Rattle.bed_lang.specs.declared.word.Var.TheVariants as var
use Rattle.bed_lang.specs.declared.word.Word.{Var as WordVar}
use Rattle.bed_lang.specs.declared.word.Seq.{Var as SeqVar}
use Rattle.bed_lang.specs.declared.logic.Arg.{Arg}
use Rattle.bed_lang.specs.declared.logic.Arg.TheVariants as arg
use Rattle.bed_lang.specs.declared.logic.Atom.{Atom}
use Rattle.bed_lang.specs.declared.logic.Atom.TheVariants as atom
use Rattle.bed_lang.specs.declared.logic.Term.{Term}
use Rattle.bed_lang.specs.declared.logic.Term.TheVariants as term
use Rattle.bed_lang.specs.declared.logic.Bind.{Bind}
use Rattle.bed_lang.specs.declared.logic.Assertion.{Assertion}
use Rattle.bed_lang.specs.declared.module.Join.{Join}
use Rattle.bed_lang.specs.declared.module.Signature.{Signature}
use Rattle.bed_lang.specs.declared.module.Predicate.{Predicate}
use Rattle.bed_lang.specs.declared.module.Function.{Function}
use Rattle.bed_lang.specs.declared.module.Module.{Module}
use Rattle.bed_lang.specs.declared.condition.Decls.{Decls}
use Rattle.bed_lang.specs.declared.statement.Stmt.{Stmt, fold-Stmt, roll-Stmt, ind-Stmt, fold-roll-Stmt}
use Rattle.bed_lang.specs.declared.statement.StmtKind.{StmtKind, StmtKind-F, fold-StmtKind, roll-StmtKind, map-StmtKind, fold-roll-StmtKind}
use Rattle.bed_lang.specs.Declarations.{declarations}
use Rattle.bed_lang.specs.Lookups.{predicate_named, signature_named}
use Rattle.bed_names.specs.Names.{sequences}
use Rattle.bed_names.specs.Terms.{Visible, with_names, is_hole, asked_by, first_sort, behind_first}
use Rattle.bed_names.specs.Modules.{plain, signature_names, function_visible}
use Rattle.bed_names.specs.Arguments.{changed_args, changed_atom, changed_term, changed_assertion, changed_join, changed_keep, changed_stmt}
use Rattle.bed_names.specs.Resolved.{bare_sort, bare_variable, variable_arg, resolved_arg, resolved_signature, resolved_predicate, resolved_function, resolved}
use Rattle.bed_names.proofs.ArgumentLaws.{layered, fold_changed}
use Rattle.bed_deriv.specs.Fresh.{every, known_var, known_word, known_seq, known_arg, known_atom, known_term, known_assertion, unfresh_signature, unfresh_predicate}
use Rattle.bed_deriv.proofs.KnownLaws.{known-Var, known_seq-Var}
use Rattle.bed_unfresh.specs.Unfresh.{unfresh_join, unfresh_kind_step, unfresh_statement_step, unfresh_kind, unfresh_statement, unfresh_function, unfresh_module, ResolvedAreUnfresh}
use Rattle.bed_unfresh.proofs.StatementLemmas.{both_true, front_true, back_true}

-- ---- terms

variable_known : (x : Name) → known_var 0 (bare_variable x) ≡ true
variable_known x = by (is_hole x)
  where
    by : (b : Bool) → known_var 0 (if b then var.Hole else var.Named x) ≡ true
    by true = refl
    by false = refl

lone_known : (k : Sort) (at : ℕ) (x : Name) → known_arg 0 (variable_arg k at (bare_variable x)) ≡ true
lone_known sort.Word at x = known-Var 0 (bare_variable x) ∙ variable_known x
lone_known sort.Seq at x = known_seq-Var 0 (bare_variable x) ∙ variable_known x

arg_known : (v : Visible) (asked : Option Sort) (a : Arg) → known_arg 0 a ≡ true → known_arg 0 (resolved_arg v asked a) ≡ true
arg_known v asked (arg.Word at w) h = h
arg_known v asked (arg.Seq at s) h = h
arg_known v asked (arg.Bare x) h = lone_known (bare_sort v asked x) x.at x

args_known : (v : Visible) (ps : List Bind) (args : List Arg) → every (known_arg 0) args ≡ true → every (known_arg 0) (changed_args resolved_arg v ps args) ≡ true
args_known v ps [] h = refl
args_known v ps (a ∷ more) h =
    both_true (known_arg 0 (resolved_arg v (first_sort ps) a)) (every (known_arg 0) (changed_args resolved_arg v (behind_first ps) more)) (arg_known v (first_sort ps) a (front_true (known_arg 0 a) _ h))
    (args_known v (behind_first ps) more (back_true (known_arg 0 a) _ h))

term_known : (v : Visible) (t : Term) → known_term 0 t ≡ true → known_term 0 (changed_term resolved_arg v t) ≡ true
term_known v term.Emp h = h
term_known v (term.Pure p) h = h
term_known v (term.Atom (atom.Cell a b)) h = h
term_known v (term.Atom (atom.Byte a b)) h = h
term_known v (term.Atom (atom.Block a b)) h = h
term_known v (term.Atom (atom.Pred x args)) h = args_known v (asked_by (predicate_named v.decls x.bytes) args) args h

all_changed : {A : Type 0} (f : A → Bool) (g : A → A) → ((x : A) → f x ≡ true → f (g x) ≡ true) → (xs : List A) → every f xs ≡ true → every f (map g xs) ≡ true
all_changed f g each [] h = refl
all_changed f g each (x ∷ xs) h = both_true (f (g x)) (every f (map g xs)) (each x (front_true (f x) _ h)) (all_changed f g each xs (back_true (f x) _ h))

assertion_known : (v : Visible) (A : Assertion) → known_assertion 0 A ≡ true → known_assertion 0 (changed_assertion resolved_arg v A) ≡ true
assertion_known v A h = all_changed (known_term 0) (changed_term resolved_arg (with_names v A.binders)) (term_known (with_names v A.binders)) A.terms h

join_known : (v : Visible) (j : Option Join) → unfresh_join j ≡ true → unfresh_join (changed_join resolved_arg v j) ≡ true
join_known v None h = h
join_known v (Some j) h = assertion_known v j.assertion h

-- ---- statements

module _ (v : Visible) where
  -- what is said of a statement with its arguments resolved, by a fold over the statement as it was
  abbrev step : StmtKind-F Bool Bool → Bool
  step = layered resolved_arg v unfresh_kind_step unfresh_statement_step

  abbrev kind_fold : StmtKind → Bool
  kind_fold = fold-StmtKind Bool Bool step unfresh_statement_step

  abbrev statement_fold : Stmt → Bool
  statement_fold = fold-Stmt Bool Bool step unfresh_statement_step

  abbrev KindStays : StmtKind → Type 0
  KindStays k = unfresh_kind k ≡ true → kind_fold k ≡ true

  abbrev Stays : Stmt → Type 0
  Stays s = unfresh_statement s ≡ true → statement_fold s ≡ true

  abbrev of_list : List ((s : Stmt) × Stays s) → List Stmt
  of_list ss = map (λ s. s.0) ss

  list_stays : (ss : List ((s : Stmt) × Stays s)) → every (λ b. b) (map unfresh_statement (of_list ss)) ≡ true → every (λ b. b) (map statement_fold (of_list ss)) ≡ true
  list_stays [] h = refl
  list_stays (s ∷ ss) h =
      both_true (statement_fold s.0) (every (λ b. b) (map statement_fold (of_list ss))) (s.1 (front_true (unfresh_statement s.0) _ h)) (list_stays ss (back_true (unfresh_statement s.0) _ h))

  abbrev plain_layer : StmtKind-F ((k : StmtKind) × KindStays k) ((s : Stmt) × Stays s) → StmtKind-F StmtKind Stmt
  plain_layer y = map-StmtKind _ _ _ _ (λ k. k.0) (λ s. s.0) y

  abbrev before : StmtKind-F StmtKind Stmt → Bool
  before x = unfresh_kind_step (map-StmtKind _ _ _ _ unfresh_kind unfresh_statement x)

  abbrev after : StmtKind-F StmtKind Stmt → Bool
  after x = step (map-StmtKind _ _ _ _ kind_fold statement_fold x)

  layer : (y : StmtKind-F ((k : StmtKind) × KindStays k) ((s : Stmt) × Stays s)) → before (plain_layer y) ≡ true → after (plain_layer y) ≡ true
  layer (StmtKind-F.Assign x a) h = refl
  layer (StmtKind-F.Compute x op a b) h = refl
  layer (StmtKind-F.Load x p) h = refl
  layer (StmtKind-F.LoadByte x p) h = refl
  layer (StmtKind-F.Store p a) h = refl
  layer (StmtKind-F.StoreByte p a) h = refl
  layer (StmtKind-F.Call place into target via args hints after') h = assertion_known v after' h
  layer (StmtKind-F.If test ys ns join) h =
      let y0 = every (λ b. b) (map unfresh_statement (of_list ys)) in
      let n0 = every (λ b. b) (map unfresh_statement (of_list ns)) in
      let rest = back_true y0 _ h in
      both_true (every (λ b. b) (map statement_fold (of_list ys))) _ (list_stays ys (front_true y0 _ h))
      (both_true (every (λ b. b) (map statement_fold (of_list ns))) (unfresh_join (changed_join resolved_arg v join)) (list_stays ns (front_true n0 _ rest)) (join_known v join (back_true n0 _ rest)))
  layer (StmtKind-F.While test place invariant body) h =
      both_true (known_assertion 0 (changed_assertion resolved_arg v invariant)) (every (λ b. b) (map statement_fold (of_list body)))
      (assertion_known v invariant (front_true (known_assertion 0 invariant) _ h)) (list_stays body (back_true (known_assertion 0 invariant) _ h))
  layer (StmtKind-F.Return a) h = refl
  layer (StmtKind-F.Hint hint) h = refl
  layer (StmtKind-F.Find n x a p s u t keep body) h =
      let rest = back_true (known_seq 0 s) _ h in
      both_true (known_seq 0 s) _ (front_true (known_seq 0 s) _ h)
      (both_true (known_assertion 0 (changed_keep resolved_arg v u t keep)) (every (λ b. b) (map statement_fold (of_list body)))
      (assertion_known (with_names v (sequences (u ∷ t ∷ []))) keep (front_true (known_assertion 0 keep) _ rest)) (list_stays body (back_true (known_assertion 0 keep) _ rest)))
  layer (StmtKind-F.Walk n x p s u t keep body) h =
      let rest = back_true (known_seq 0 s) _ h in
      both_true (known_seq 0 s) _ (front_true (known_seq 0 s) _ h)
      (both_true (known_assertion 0 (changed_keep resolved_arg v u t keep)) (every (λ b. b) (map statement_fold (of_list body)))
      (assertion_known (with_names v (sequences (u ∷ t ∷ []))) keep (front_true (known_assertion 0 keep) _ rest)) (list_stays body (back_true (known_assertion 0 keep) _ rest)))

  every_stays : (s : Stmt) → Stays s
  every_stays =
      ind-Stmt KindStays Stays
      (λ x y is h.
      fold-roll-StmtKind Bool Bool step unfresh_statement_step x
      ∙ subst (λ z. before z ≡ true → after z ≡ true) is (layer y) (sym (fold-roll-StmtKind Bool Bool unfresh_kind_step unfresh_statement_step x) ∙ h))
      (λ x y is h.
      fold-roll-Stmt Bool Bool step unfresh_statement_step x
      ∙ subst (λ z. unfresh_kind z.kind ≡ true → kind_fold z.kind ≡ true) is y.kind.1 (sym (fold-roll-Stmt Bool Bool unfresh_kind_step unfresh_statement_step x) ∙ h))

  statement_resolved : (s : Stmt) → unfresh_statement s ≡ true → unfresh_statement (changed_stmt resolved_arg v s) ≡ true
  statement_resolved s h = fold_changed resolved_arg v unfresh_kind_step unfresh_statement_step s ∙ every_stays s h

-- ---- modules

signature_resolved : (d : Decls) (S : Signature) → unfresh_signature S ≡ true → unfresh_signature (resolved_signature d S) ≡ true
signature_resolved d S h =
    both_true (known_assertion 0 (resolved_signature d S).pre) (known_assertion 0 (resolved_signature d S).post) (assertion_known (plain d (signature_names S) false) S.pre (front_true (known_assertion 0 S.pre) _ h))
    (assertion_known (plain d (signature_names S) true) S.post (back_true (known_assertion 0 S.pre) _ h))

predicate_resolved : (d : Decls) (p : Predicate) → unfresh_predicate p ≡ true → unfresh_predicate (resolved_predicate d p) ≡ true
predicate_resolved d p h = all_changed (known_assertion 0) (changed_assertion resolved_arg (plain d p.params false)) (assertion_known (plain d p.params false)) p.cases h

function_resolved : (d : Decls) (f : Function) → unfresh_function f ≡ true → unfresh_function (resolved_function d f) ≡ true
function_resolved d f h =
    let v = function_visible d (signature_named d f.signature.bytes) f in all_changed unfresh_statement (changed_stmt resolved_arg v) (statement_resolved v) f.body h

pub resolved_are_unfresh : ResolvedAreUnfresh
resolved_are_unfresh m h =
    let d = declarations m in
    let rest = back_true (every unfresh_signature m.signatures) _ h in
    both_true (every unfresh_signature (resolved m).signatures) _ (all_changed unfresh_signature (resolved_signature d) (signature_resolved d) m.signatures (front_true (every unfresh_signature m.signatures) _ h))
    (both_true (every unfresh_predicate (resolved m).predicates) (every unfresh_function (resolved m).functions)
    (all_changed unfresh_predicate (resolved_predicate d) (predicate_resolved d) m.predicates (front_true (every unfresh_predicate m.predicates) _ rest))
    (all_changed unfresh_function (resolved_function d) (function_resolved d) m.functions (back_true (every unfresh_predicate m.predicates) _ rest)))
