-- Names are resolved to the same, places aside, where every place is set to 0.
use Rattle.std.proofs.Common.{◌≡◌, ◌∙◌, sym, ap, ap₂, refl, subst, ℕ, Bool, true, false, List, [], ◌∷◌, map, Option, None, Some, unwrap_or}
use Rattle.std.specs.Prelude.{if◌then◌else◌}
use Rattle.bed_lang.specs.declared.word.Name.{Name}
use Rattle.bed_lang.specs.declared.word.Sort.{Sort}
use Rattle.bed_lang.specs.declared.word.Sort.TheVariants as sort
use Rattle.bed_lang.specs.declared.word.Var.{Var}
use Rattle.bed_lang.specs.declared.word.Var.TheVariants as var
use Rattle.bed_lang.specs.declared.logic.Arg.{Arg}
use Rattle.bed_lang.specs.declared.logic.Arg.TheVariants as arg
use Rattle.bed_lang.specs.declared.logic.Atom.{Atom}
use Rattle.bed_lang.specs.declared.logic.Atom.TheVariants as atom
use Rattle.bed_lang.specs.declared.logic.Term.{Term}
use Rattle.bed_lang.specs.declared.logic.Term.TheVariants as term
use Rattle.bed_lang.specs.declared.logic.Bind.{Bind}
use Rattle.bed_lang.specs.declared.logic.Assertion.{Assertion}
use Rattle.bed_lang.specs.declared.module.Signature.{Signature}
use Rattle.bed_lang.specs.declared.module.Predicate.{Predicate}
use Rattle.bed_lang.specs.declared.module.Function.{Function}
use Rattle.bed_lang.specs.declared.module.Module.{Module}
use Rattle.bed_lang.specs.declared.module.Join.{Join}
use Rattle.bed_lang.specs.declared.module.Hint.{Hint}
use Rattle.bed_lang.specs.declared.module.Hint.TheVariants as hint
use Rattle.bed_lang.specs.declared.statement.Stmt.{Stmt, ind-Stmt, fold-roll-Stmt, fold_out-Stmt}
use Rattle.bed_lang.specs.declared.statement.StmtKind.{StmtKind, StmtKind-F, roll-StmtKind, map-StmtKind, fold-roll-StmtKind}
use Rattle.bed_lang.specs.declared.condition.Decls.{Decls}
use Rattle.bed_lang.specs.Declarations.{declarations}
use Rattle.bed_lang.specs.Lookups.{signature_named, predicate_named}
use Rattle.bed_names.specs.Names.{sequences}
use Rattle.bed_names.specs.Terms.{Visible, with_names, is_hole, asked_by, first_sort, behind_first}
use Rattle.bed_names.specs.Modules.{plain, signature_names, function_visible}
use Rattle.bed_names.specs.Resolved.{bare_sort, bare_variable, variable_arg, resolved_arg, resolved_args, resolved_applied, resolved_atom, resolved_term, resolved_assertion, resolved_hint, resolved_join, resolved_keep, resolved_step, resolved_stmt_step, resolved_kind, resolved_stmt, resolved_signature, resolved_predicate, resolved_function, resolved_with, resolved}
use Rattle.bed_names.proofs.ArgumentLaws.{changed_layer, changed_below, changed_kind-roll}
use Rattle.bed_print.proofs.Places.{bare_option, bare_name, bare_var, bare_seq, bare_arg, bare_atom, bare_term, bare_bind, bare_assertion, bare_signature, bare_predicate, bare_operand, bare_test, bare_hint, bare_join, bare_kind_step, bare_stmt_step, bare_stmt_kind, bare_stmt, bare_function, bare_module}
use Rattle.bed_print.proofs.BareRolls.{Layer, bare_kind_layer, bare_below, bare_kind-roll}
use Rattle.bed_print.proofs.WordTrees.{bare_word-Var, bare_seq-Var}
use Rattle.bed_print.proofs.NamesPlaces.{bare_decls, bare_visible, maps_agree, with_names_bare, predicate_named_bare, sort_of_bare, asked_by_bare, first_sort_bare, behind_first_bare}
use Rattle.bed_print.proofs.ScopePlaces.{declarations_bare, plain_bare, signature_names_bare, function_visible_bare, own_signature_bare}

-- ---- terms, assertions and hints

variable_bare : (x : Name) → bare_variable (bare_name x) ≡ bare_var (bare_variable x)
variable_bare x = either (is_hole x)
  where
    either : (b : Bool) → (if b then var.Hole else var.Named (bare_name x)) ≡ bare_var (if b then var.Hole else var.Named x)
    either true = refl
    either false = refl

variable_arg_bare : (s : Sort) (at : ℕ) (x : Var) → variable_arg s 0 (bare_var x) ≡ bare_arg (variable_arg s at x)
variable_arg_bare sort.Word at x = ap (arg.Word 0) (sym (bare_word-Var x))
variable_arg_bare sort.Seq at x = ap (arg.Seq 0) (sym (bare_seq-Var x))

module _ (v : Visible) where
  abbrev v' : Visible
  v' = bare_visible v

  sort_bare : (asked : Option Sort) (x : Name) → bare_sort v' asked (bare_name x) ≡ bare_sort v asked x
  sort_bare None x = ap (λ s. unwrap_or s sort.Word) (sort_of_bare v.names x)
  sort_bare (Some s) x = refl

  arg_bare : (asked : Option Sort) (a : Arg) → resolved_arg v' asked (bare_arg a) ≡ bare_arg (resolved_arg v asked a)
  arg_bare asked (arg.Word at a) = refl
  arg_bare asked (arg.Seq at s) = refl
  arg_bare asked (arg.Bare x) =
      ap₂ (λ s y. variable_arg s 0 y) (sort_bare asked x) (variable_bare x) ∙ variable_arg_bare (bare_sort v asked x) x.at (bare_variable x)

  args_bare : (ps ps' : List Bind) (xs : List Arg) → ps' ≡ map bare_bind ps → resolved_args v' ps' (map bare_arg xs) ≡ map bare_arg (resolved_args v ps xs)
  args_bare ps ps' [] e = refl
  args_bare ps ps' (a ∷ more) e =
      ap₂ (λ b bs. b ∷ bs) (ap (λ s. resolved_arg v' s (bare_arg a)) (ap first_sort e ∙ first_sort_bare ps) ∙ arg_bare (first_sort ps) a)
      (args_bare (behind_first ps) (behind_first ps') more (ap behind_first e ∙ behind_first_bare ps))

  applied_bare : (x : Name) (xs : List Arg) → resolved_applied v' (bare_name x) (map bare_arg xs) ≡ map bare_arg (resolved_applied v x xs)
  applied_bare x xs =
      args_bare (asked_by (predicate_named v.decls x.bytes) xs) _ xs
      (ap (λ p. asked_by p (map bare_arg xs)) (predicate_named_bare v.decls x) ∙ asked_by_bare (predicate_named v.decls x.bytes) xs)

  atom_bare : (a : Atom) → resolved_atom v' (bare_atom a) ≡ bare_atom (resolved_atom v a)
  atom_bare (atom.Cell a b) = refl
  atom_bare (atom.Byte a b) = refl
  atom_bare (atom.Block a b) = refl
  atom_bare (atom.Pred x xs) = ap (atom.Pred (bare_name x)) (applied_bare x xs)

  term_bare : (t : Term) → resolved_term v' (bare_term t) ≡ bare_term (resolved_term v t)
  term_bare term.Emp = refl
  term_bare (term.Pure p) = refl
  term_bare (term.Atom a) = ap term.Atom (atom_bare a)

assertion_bare_in : (v w : Visible) (a : Assertion) → w ≡ bare_visible v → resolved_assertion w (bare_assertion a) ≡ bare_assertion (resolved_assertion v a)
assertion_bare_in v w a e =
    ap of_terms
    (ap (λ u. map (resolved_term u) (map bare_term a.terms)) (ap (λ u. with_names u (map bare_bind a.binders)) e ∙ with_names_bare v a.binders)
    ∙ maps_agree bare_term _ _ bare_term (term_bare (with_names v a.binders)) a.terms)
  where
    of_terms : List Term → Assertion
    of_terms ts = record { at = 0; binders = map bare_bind a.binders; terms = ts }

module _ (v : Visible) where
  assertion_bare : (a : Assertion) → resolved_assertion (bare_visible v) (bare_assertion a) ≡ bare_assertion (resolved_assertion v a)
  assertion_bare a = assertion_bare_in v (bare_visible v) a refl

  hint_bare : (h : Hint) → resolved_hint (bare_visible v) (bare_hint h) ≡ bare_hint (resolved_hint v h)
  hint_bare (hint.Unfold x at) = refl
  hint_bare (hint.Fold x xs n) = ap (λ ys. hint.Fold (bare_name x) ys n) (applied_bare v x xs)
  hint_bare (hint.Append a) = refl
  hint_bare (hint.Divide a b) = refl
  hint_bare (hint.Merge a b) = refl
  hint_bare (hint.Bytes a) = refl
  hint_bare (hint.Word a) = refl
  hint_bare (hint.Cell a) = refl
  hint_bare (hint.Uncell a) = refl
  hint_bare (hint.Drop a) = refl
  hint_bare (hint.Claim a) = refl
  hint_bare (hint.When a) = refl
  hint_bare (hint.Give x a) = ap (hint.Give (bare_name x)) (arg_bare v None a)

  join_bare : (j : Option Join) → resolved_join (bare_visible v) (bare_option bare_join j) ≡ bare_option bare_join (resolved_join v j)
  join_bare None = refl
  join_bare (Some j) = ap made (assertion_bare j.assertion)
    where
      made : Assertion → Option Join
      made a = Some (record { place = 0; assertion = a })

  keep_bare : (u t : Name) (a : Assertion) → resolved_keep (bare_visible v) (bare_name u) (bare_name t) (bare_assertion a) ≡ bare_assertion (resolved_keep v u t a)
  keep_bare u t a = assertion_bare_in (with_names v (sequences (u ∷ t ∷ []))) _ a (with_names_bare v (sequences (u ∷ t ∷ [])))

-- ---- statements

-- the two ways to the same layer: places first, or names first
module _ (v : Visible) where
  abbrev w : Visible
  w = bare_visible v

  abbrev KindBare : StmtKind → Type 0
  KindBare k = resolved_kind w (bare_stmt_kind k) ≡ bare_stmt_kind (resolved_kind v k)

  abbrev StmtBare : Stmt → Type 0
  StmtBare s = resolved_stmt w (bare_stmt s) ≡ bare_stmt (resolved_stmt v s)

  abbrev Kinds : Type 0
  Kinds = (k : StmtKind) × KindBare k

  abbrev Stmts : Type 0
  Stmts = (s : Stmt) × StmtBare s

  abbrev trees : StmtKind-F Kinds Stmts → Layer
  trees = map-StmtKind Kinds Stmts StmtKind Stmt (λ k. k.0) (λ s. s.0)

  bodies : (ss : List Stmts) → map (resolved_stmt w) (map bare_stmt (map (λ s. s.0) ss)) ≡ map bare_stmt (map (resolved_stmt v) (map (λ s. s.0) ss))
  bodies [] = refl
  bodies (s ∷ ss) = ap₂ (λ y ys. y ∷ ys) s.1 (bodies ss)

  abbrev places_first : Layer → Layer
  places_first x = changed_layer resolved_arg w (changed_below resolved_arg w (bare_kind_layer (bare_below x)))

  abbrev names_first : Layer → Layer
  names_first x = bare_kind_layer (bare_below (changed_layer resolved_arg v (changed_below resolved_arg v x)))

  kind_layer : (y : StmtKind-F Kinds Stmts) → places_first (trees y) ≡ names_first (trees y)
  kind_layer (StmtKind-F.Assign x a) = refl
  kind_layer (StmtKind-F.Compute x o a b) = refl
  kind_layer (StmtKind-F.Load x p) = refl
  kind_layer (StmtKind-F.LoadByte x p) = refl
  kind_layer (StmtKind-F.Store p a) = refl
  kind_layer (StmtKind-F.StoreByte p a) = refl
  kind_layer (StmtKind-F.Call place x target via xs hints after) =
      ap₂ (StmtKind-F.Call 0 (bare_name x) (bare_operand target) (bare_option bare_name via) (map bare_operand xs))
      (maps_agree bare_hint (resolved_hint w) (resolved_hint v) bare_hint (hint_bare v) hints) (assertion_bare v after)
  kind_layer (StmtKind-F.If t ys ns j) =
      ap₂ (λ bs cs. StmtKind-F.If (bare_test t) bs cs (resolved_join w (bare_option bare_join j))) (bodies ys) (bodies ns)
      ∙ ap (StmtKind-F.If (bare_test t) (map bare_stmt (map (resolved_stmt v) (map (λ s. s.0) ys))) (map bare_stmt (map (resolved_stmt v) (map (λ s. s.0) ns))))
      (join_bare v j)
  kind_layer (StmtKind-F.While t place inv ss) = ap₂ (StmtKind-F.While (bare_test t) 0) (assertion_bare v inv) (bodies ss)
  kind_layer (StmtKind-F.Return a) = refl
  kind_layer (StmtKind-F.Hint h) = ap StmtKind-F.Hint (hint_bare v h)
  kind_layer (StmtKind-F.Find n x a p s u t keep ss) =
      ap₂ (StmtKind-F.Find (bare_name n) (bare_name x) (bare_operand a) (bare_name p) (bare_seq s) (bare_name u) (bare_name t)) (keep_bare v u t keep) (bodies ss)
  kind_layer (StmtKind-F.Walk n x p s u t keep ss) =
      ap₂ (StmtKind-F.Walk (bare_name n) (bare_name x) (bare_name p) (bare_seq s) (bare_name u) (bare_name t)) (keep_bare v u t keep) (bodies ss)

  kind_roll : (x : Layer) → places_first x ≡ names_first x → KindBare (roll-StmtKind x)
  kind_roll x e =
      ap (resolved_kind w) (bare_kind-roll x) ∙ changed_kind-roll resolved_arg w (bare_kind_layer (bare_below x)) ∙ ap roll-StmtKind e
      ∙ sym (ap bare_stmt_kind (changed_kind-roll resolved_arg v x) ∙ bare_kind-roll (changed_layer resolved_arg v (changed_below resolved_arg v x)))

  abbrev at_zero : StmtKind → Stmt
  at_zero k = record { at = 0; kind = k }

  stmt_bare : (s : Stmt) → StmtBare s
  stmt_bare =
      ind-Stmt KindBare StmtBare
      (λ x y is. subst (λ z. KindBare (roll-StmtKind z)) is (kind_roll (trees y) (kind_layer y)))
      (λ x y is.
      ap (resolved_stmt w) (fold-roll-Stmt StmtKind Stmt bare_kind_step bare_stmt_step x)
      ∙ fold_out-Stmt StmtKind Stmt (resolved_step w) (resolved_stmt_step w) (record { at = 0; kind = bare_stmt_kind x.kind })
      ∙ ap at_zero (subst (λ z. KindBare z.kind) is y.kind.1)
      ∙ sym (ap bare_stmt (fold-roll-Stmt StmtKind Stmt (resolved_step v) (resolved_stmt_step v) x)
      ∙ fold_out-Stmt StmtKind Stmt bare_kind_step bare_stmt_step (record { at = x.at; kind = resolved_kind v x.kind })))

-- ---- items

module _ (d : Decls) where
  abbrev d' : Decls
  d' = bare_decls d

  signature_bare : (s : Signature) → resolved_signature d' (bare_signature s) ≡ bare_signature (resolved_signature d s)
  signature_bare s = ap₂ made (inside false s.pre) (inside true s.post)
    where
      inside : (answer : Bool) (a : Assertion)
          → resolved_assertion (plain d' (signature_names (bare_signature s)) answer) (bare_assertion a)
          ≡ bare_assertion (resolved_assertion (plain d (signature_names s) answer) a)
      inside answer a =
          assertion_bare_in (plain d (signature_names s) answer) _ a
          (plain_bare d (signature_names s) (signature_names (bare_signature s)) answer (signature_names_bare s))

      made : Assertion → Assertion → Signature
      made a b = record (bare_signature s) { pre = a; post = b }

  predicate_bare : (p : Predicate) → resolved_predicate d' (bare_predicate p) ≡ bare_predicate (resolved_predicate d p)
  predicate_bare p =
      ap made
      (maps_agree bare_assertion _ _ bare_assertion
      (λ a. assertion_bare_in (plain d p.params false) (plain d' (map bare_bind p.params) false) a refl) p.cases)
    where
      made : List Assertion → Predicate
      made cases = record (bare_predicate p) { cases = cases }

  function_bare : (f : Function) → resolved_function d' (bare_function f) ≡ bare_function (resolved_function d f)
  function_bare f =
      ap made
      (ap (λ v. map (resolved_stmt v) (map bare_stmt f.body))
      (ap (λ s. function_visible d' s (bare_function f)) (own_signature_bare d f) ∙ function_visible_bare d (signature_named d f.signature.bytes) f)
      ∙ maps_agree bare_stmt _ _ bare_stmt (stmt_bare (function_visible d (signature_named d f.signature.bytes) f)) f.body)
    where
      made : List Stmt → Function
      made body = record (bare_function f) { body = body }

  module_bare : (m : Module) → resolved_with d' (bare_module m) ≡ bare_module (resolved_with d m)
  module_bare m =
      ap₂ (λ ss ps. made ss ps (map (resolved_function d') (map bare_function m.functions)))
      (maps_agree bare_signature _ _ bare_signature signature_bare m.signatures)
      (maps_agree bare_predicate _ _ bare_predicate predicate_bare m.predicates)
      ∙ ap (made (map bare_signature (map (resolved_signature d) m.signatures)) (map bare_predicate (map (resolved_predicate d) m.predicates)))
      (maps_agree bare_function _ _ bare_function function_bare m.functions)
    where
      made : List Signature → List Predicate → List Function → Module
      made ss ps fs = record (bare_module m) { signatures = ss; predicates = ps; functions = fs }

pub resolved_bare : (m : Module) → resolved (bare_module m) ≡ bare_module (resolved m)
resolved_bare m = ap (λ d. resolved_with d (bare_module m)) (declarations_bare m) ∙ module_bare (declarations m) m
