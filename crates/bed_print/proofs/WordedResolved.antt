-- Wording changes nothing of what names stand for: a worded module without bare arguments is the module without bare arguments.
use Rattle.std.proofs.Common.{◌≡◌, Bool, true, false, if◌then◌else◌, List, [], ◌∷◌, map, Option, None, Some, refl, ap, sym, ◌∙◌}
use Rattle.std.proofs.Math.Path.{fun_ext}
use Rattle.bed_lang.specs.declared.word.Name.{Name}
use Rattle.bed_lang.specs.declared.word.Sort.{Sort}
use Rattle.bed_lang.specs.declared.word.Sort.TheVariants as sort
use Rattle.bed_lang.specs.declared.word.Var.TheVariants as var
use Rattle.bed_lang.specs.declared.logic.Arg.{Arg}
use Rattle.bed_lang.specs.declared.logic.Arg.TheVariants as arg
use Rattle.bed_lang.specs.declared.logic.Atom.{Atom}
use Rattle.bed_lang.specs.declared.logic.Atom.TheVariants as atom
use Rattle.bed_lang.specs.declared.logic.Term.{Term}
use Rattle.bed_lang.specs.declared.logic.Term.TheVariants as term
use Rattle.bed_lang.specs.declared.logic.Bind.{Bind}
use Rattle.bed_lang.specs.declared.logic.Assertion.{Assertion}
use Rattle.bed_lang.specs.declared.module.Signature.{Signature}
use Rattle.bed_lang.specs.declared.module.Predicate.{Predicate}
use Rattle.bed_lang.specs.declared.module.Function.{Function}
use Rattle.bed_lang.specs.declared.module.Module.{Module}
use Rattle.bed_lang.specs.declared.module.Join.{Join}
use Rattle.bed_lang.specs.declared.module.Hint.{Hint}
use Rattle.bed_lang.specs.declared.module.Hint.TheVariants as hint
use Rattle.bed_lang.specs.declared.statement.Stmt.{Stmt, fold-Stmt}
use Rattle.bed_lang.specs.declared.statement.StmtKind.{StmtKind, StmtKind-F, Call, If, While, Hint as HintStmt, Find, Walk}
use Rattle.bed_lang.specs.declared.condition.Decls.{Decls}
use Rattle.bed_lang.specs.Declarations.{declarations}
use Rattle.bed_lang.specs.Lookups.{signature_named, predicate_named}
use Rattle.bed_names.specs.Names.{sequences}
use Rattle.bed_names.specs.Terms.{Visible, with_names, is_hole, asked_by, first_sort, behind_first}
use Rattle.bed_names.specs.Modules.{plain, without_labels, signature_names, function_visible}
use Rattle.bed_names.specs.Resolved.{bare_sort, bare_variable, variable_arg, resolved_arg, resolved_args, resolved_applied, resolved_atom, resolved_term, resolved_assertion, resolved_hint, resolved_join, resolved_keep, resolved_step, resolved_stmt_step, resolved_stmt, resolved_signature, resolved_predicate, resolved_function, resolved_with, resolved}
use Rattle.bed_print.proofs.Worded.{bracketed, worded_arg, worded_args, worded_applied, worded_atom, worded_term, worded_assertion, worded_hint, worded_join, worded_keep, worded_stmt, worded_signature, worded_predicate, worded_function, worded_with, worded}
use Rattle.bed_print.proofs.WordedScopes.{SameDeclarations, SameSignatures, without_labels_same, asked_same, asked_length, worded_length, declarations_worded}
use Rattle.bed_print.proofs.WordedFaults.{under}
use Rattle.bed_names.proofs.ArgumentLaws.{changed_layer, fold_changed}

-- items that become the same
each_item : {T X : Type 0} (f g : T → X) (change : T → T) → ((t : T) → f (change t) ≡ g t) → (ts : List T) → map f (map change ts) ≡ map g ts
each_item f g change each [] = refl
each_item f g change each (t ∷ ts) = ap (λ x. x ∷ map f (map change ts)) (each t) ∙ ap (λ xs. g t ∷ xs) (each_item f g change each ts)

-- ---- under other declarations in which names stand for the same

module _ (d : Decls) (v : Visible) (same : SameDeclarations d v.decls) where
  args_under : (ps : List Bind) (as' : List Arg) → resolved_args (under d v) ps as' ≡ resolved_args v ps as'
  args_under ps [] = refl
  args_under ps (a ∷ more) = ap (λ l. resolved_arg v (first_sort ps) a ∷ l) (args_under (behind_first ps) more)

  applied_under : (x : Name) (as' : List Arg) → resolved_applied (under d v) x as' ≡ resolved_applied v x as'
  applied_under x as' =
      ap (λ ps. resolved_args (under d v) ps as') (asked_same (predicate_named d x.bytes) (predicate_named v.decls x.bytes) as' (same.predicate x))
      ∙ args_under (asked_by (predicate_named v.decls x.bytes) as') as'

  atom_under : (a : Atom) → resolved_atom (under d v) a ≡ resolved_atom v a
  atom_under (atom.Pred x as') = ap (atom.Pred x) (applied_under x as')
  atom_under (atom.Cell a b) = refl
  atom_under (atom.Byte a b) = refl
  atom_under (atom.Block a b) = refl

  term_under : (t : Term) → resolved_term (under d v) t ≡ resolved_term v t
  term_under term.Emp = refl
  term_under (term.Pure a) = refl
  term_under (term.Atom a) = ap term.Atom (atom_under a)

  hint_under : (h : Hint) → resolved_hint (under d v) h ≡ resolved_hint v h
  hint_under (hint.Fold x as' n) = ap (λ l. hint.Fold x l n) (applied_under x as')
  hint_under (hint.Give x a) = ap (hint.Give x) (give_under a)
    where
      give_under : (a : Arg) → resolved_arg (under d v) None a ≡ resolved_arg v None a
      give_under (arg.Word at w) = refl
      give_under (arg.Seq at s) = refl
      give_under (arg.Bare y) = refl
  hint_under (hint.Unfold x at) = refl
  hint_under (hint.Append a) = refl
  hint_under (hint.Divide a b) = refl
  hint_under (hint.Merge a b) = refl
  hint_under (hint.Bytes a) = refl
  hint_under (hint.Word a) = refl
  hint_under (hint.Cell a) = refl
  hint_under (hint.Uncell a) = refl
  hint_under (hint.Drop a) = refl
  hint_under (hint.Claim a) = refl
  hint_under (hint.When a) = refl

assertion_under : (d : Decls) (v : Visible) → SameDeclarations d v.decls → (a : Assertion) → resolved_assertion (under d v) a ≡ resolved_assertion v a
assertion_under d v same a =
    ap (λ f. record a { terms = map f a.terms }) (fun_ext (term_under d (with_names v a.binders) same))

module _ (d : Decls) (v : Visible) (same : SameDeclarations d v.decls) where
  join_under : (j : Option Join) → resolved_join (under d v) j ≡ resolved_join v j
  join_under None = refl
  join_under (Some j) = ap (λ a. Some (record j { assertion = a })) (assertion_under d v same j.assertion)

  keep_under : (u t : Name) (a : Assertion) → resolved_keep (under d v) u t a ≡ resolved_keep v u t a
  keep_under u t a = assertion_under d (with_names v (sequences (u ∷ t ∷ []))) same a

  step_under : (x : StmtKind-F StmtKind Stmt) → resolved_step (under d v) x ≡ resolved_step v x
  step_under (StmtKind-F.Assign x a) = refl
  step_under (StmtKind-F.Compute x op a b) = refl
  step_under (StmtKind-F.Load x p) = refl
  step_under (StmtKind-F.LoadByte x p) = refl
  step_under (StmtKind-F.Store p a) = refl
  step_under (StmtKind-F.StoreByte p a) = refl
  step_under (StmtKind-F.Call place into target via args hints after) =
      ap (λ f. Call place into target via args (map f hints) (resolved_assertion (under d v) after)) (fun_ext (hint_under d v same))
      ∙ ap (Call place into target via args (map (resolved_hint v) hints)) (assertion_under d v same after)
  step_under (StmtKind-F.If test ys ns join) = ap (If test ys ns) (join_under join)
  step_under (StmtKind-F.While test place invariant' body) = ap (λ a. While test place a body) (assertion_under d v same invariant')
  step_under (StmtKind-F.Return a) = refl
  step_under (StmtKind-F.Hint h) = ap HintStmt (hint_under d v same h)
  step_under (StmtKind-F.Find n x a p s u t keep body) = ap (λ b. Find n x a p s u t b body) (keep_under u t keep)
  step_under (StmtKind-F.Walk n x p s u t keep body) = ap (λ b. Walk n x p s u t b body) (keep_under u t keep)

  stmt_under : (s : Stmt) → resolved_stmt (under d v) s ≡ resolved_stmt v s
  stmt_under s = ap (λ step. fold-Stmt StmtKind Stmt step (resolved_stmt_step v) s) (fun_ext step_under)

-- ---- where names alone become words

module _ (v : Visible) where
  -- a name that isn't a hole stands for its variable, in brackets or not
  bracketed_same : (asked : Option Sort) (x : Name) (s : Sort) → is_hole x ≡ false → bare_sort v asked x ≡ s
      → resolved_arg v asked (bracketed s x) ≡ variable_arg (bare_sort v asked x) x.at (bare_variable x)
  bracketed_same asked x sort.Seq e is = refl
  bracketed_same asked x sort.Word e is =
      sym (ap (λ s. variable_arg s x.at (bare_variable x)) is ∙ ap (λ b. variable_arg sort.Word x.at (if b then var.Hole else var.Named x)) e)

  arg_worded : (asked : Option Sort) (a : Arg) → resolved_arg v asked (worded_arg v asked a) ≡ resolved_arg v asked a
  arg_worded asked (arg.Word at a) = refl
  arg_worded asked (arg.Seq at s) = refl
  arg_worded asked (arg.Bare x) = by_test (is_hole x) refl
    where
      by_test : (b : Bool) → is_hole x ≡ b
          → resolved_arg v asked (if b then arg.Bare x else bracketed (bare_sort v asked x) x) ≡ variable_arg (bare_sort v asked x) x.at (bare_variable x)
      by_test true e = refl
      by_test false e = bracketed_same asked x (bare_sort v asked x) e refl

  args_worded : (ps : List Bind) (as' : List Arg) → resolved_args v ps (worded_args v ps as') ≡ resolved_args v ps as'
  args_worded ps [] = refl
  args_worded ps (a ∷ more) =
      ap (λ x. x ∷ resolved_args v (behind_first ps) (worded_args v (behind_first ps) more)) (arg_worded (first_sort ps) a)
      ∙ ap (λ l. resolved_arg v (first_sort ps) a ∷ l) (args_worded (behind_first ps) more)

  applied_worded : (x : Name) (as' : List Arg) → resolved_applied v x (worded_applied v x as') ≡ resolved_applied v x as'
  applied_worded x as' =
      let o : Option Predicate = predicate_named v.decls x.bytes in
      let bs : List Arg = worded_args v (asked_by o as') as' in
      ap (λ ps. resolved_args v ps bs) (asked_length o bs as' (worded_length v (asked_by o as') as'))
      ∙ args_worded (asked_by o as') as'

  atom_worded : (a : Atom) → resolved_atom v (worded_atom v a) ≡ resolved_atom v a
  atom_worded (atom.Pred x as') = ap (atom.Pred x) (applied_worded x as')
  atom_worded (atom.Cell a b) = refl
  atom_worded (atom.Byte a b) = refl
  atom_worded (atom.Block a b) = refl

  term_worded : (t : Term) → resolved_term v (worded_term v t) ≡ resolved_term v t
  term_worded term.Emp = refl
  term_worded (term.Pure a) = refl
  term_worded (term.Atom a) = ap term.Atom (atom_worded a)

  hint_worded : (h : Hint) → resolved_hint v (worded_hint v h) ≡ resolved_hint v h
  hint_worded (hint.Fold x as' n) = ap (λ l. hint.Fold x l n) (applied_worded x as')
  hint_worded (hint.Give x a) = ap (hint.Give x) (arg_worded None a)
  hint_worded (hint.Unfold x at) = refl
  hint_worded (hint.Append a) = refl
  hint_worded (hint.Divide a b) = refl
  hint_worded (hint.Merge a b) = refl
  hint_worded (hint.Bytes a) = refl
  hint_worded (hint.Word a) = refl
  hint_worded (hint.Cell a) = refl
  hint_worded (hint.Uncell a) = refl
  hint_worded (hint.Drop a) = refl
  hint_worded (hint.Claim a) = refl
  hint_worded (hint.When a) = refl

assertion_worded : (v : Visible) (a : Assertion) → resolved_assertion v (worded_assertion v a) ≡ resolved_assertion v a
assertion_worded v a =
    let inner : Visible = with_names v a.binders in
    ap (λ ts. record a { terms = ts }) (each_item (resolved_term inner) (resolved_term inner) (worded_term inner) (term_worded inner) a.terms)

module _ (v : Visible) where
  join_worded : (j : Option Join) → resolved_join v (worded_join v j) ≡ resolved_join v j
  join_worded None = refl
  join_worded (Some j) = ap (λ a. Some (record j { assertion = a })) (assertion_worded v j.assertion)

  keep_worded : (u t : Name) (a : Assertion) → resolved_keep v u t (worded_keep v u t a) ≡ resolved_keep v u t a
  keep_worded u t a = assertion_worded (with_names v (sequences (u ∷ t ∷ []))) a

  step_worded : (x : StmtKind-F StmtKind Stmt) → resolved_step v (changed_layer worded_arg v x) ≡ resolved_step v x
  step_worded (StmtKind-F.Assign x a) = refl
  step_worded (StmtKind-F.Compute x op a b) = refl
  step_worded (StmtKind-F.Load x p) = refl
  step_worded (StmtKind-F.LoadByte x p) = refl
  step_worded (StmtKind-F.Store p a) = refl
  step_worded (StmtKind-F.StoreByte p a) = refl
  step_worded (StmtKind-F.Call place into target via args hints after) =
      ap (λ hs. Call place into target via args hs (resolved_assertion v (worded_assertion v after)))
      (each_item (resolved_hint v) (resolved_hint v) (worded_hint v) (hint_worded v) hints)
      ∙ ap (Call place into target via args (map (resolved_hint v) hints)) (assertion_worded v after)
  step_worded (StmtKind-F.If test ys ns join) = ap (If test ys ns) (join_worded join)
  step_worded (StmtKind-F.While test place invariant' body) = ap (λ a. While test place a body) (assertion_worded v invariant')
  step_worded (StmtKind-F.Return a) = refl
  step_worded (StmtKind-F.Hint h) = ap HintStmt (hint_worded v h)
  step_worded (StmtKind-F.Find n x a p s u t keep body) = ap (λ b. Find n x a p s u t b body) (keep_worded u t keep)
  step_worded (StmtKind-F.Walk n x p s u t keep body) = ap (λ b. Walk n x p s u t b body) (keep_worded u t keep)

  stmt_worded : (s : Stmt) → resolved_stmt v (worded_stmt v s) ≡ resolved_stmt v s
  stmt_worded s =
      fold_changed worded_arg v (resolved_step v) (resolved_stmt_step v) s
      ∙ ap (λ step. fold-Stmt StmtKind Stmt step (resolved_stmt_step v) s) (fun_ext step_worded)

-- ---- items and modules

assertion_same : (d : Decls) (v : Visible) → SameDeclarations d v.decls → (a : Assertion)
    → resolved_assertion (under d v) (worded_assertion v a) ≡ resolved_assertion v a
assertion_same d v same a = assertion_under d v same (worded_assertion v a) ∙ assertion_worded v a

module _ (d e : Decls) (same : SameDeclarations d e) where
  signature_same : (s : Signature) → resolved_signature d (worded_signature e s) ≡ resolved_signature e s
  signature_same s =
      let before : Visible = plain e (signature_names s) false in
      let behind : Visible = plain e (signature_names s) true in
      let hides : SameDeclarations (without_labels d) (without_labels e) = without_labels_same d e same in
      ap (λ a. record s { pre = a; post = resolved_assertion (under (without_labels d) behind) (worded_assertion behind s.post) })
      (assertion_same (without_labels d) before hides s.pre)
      ∙ ap (λ a. record s { pre = resolved_assertion before s.pre; post = a }) (assertion_same (without_labels d) behind hides s.post)

  predicate_same : (p : Predicate) → resolved_predicate d (worded_predicate e p) ≡ resolved_predicate e p
  predicate_same p =
      let v : Visible = plain e p.params false in
      ap (λ cs. record p { cases = cs })
      (each_item (resolved_assertion (under (without_labels d) v)) (resolved_assertion v) (worded_assertion v)
      (assertion_same (without_labels d) v (without_labels_same d e same)) p.cases)

  -- what a function sees by its signature, whose assertions don't count
  visible_same : (s t : Option Signature) (f : Function) → SameSignatures s t → function_visible d s f ≡ function_visible d t f
  visible_same None None f h = refl
  visible_same None (Some t) f h = absurd h
  visible_same (Some s) None f h = absurd h
  visible_same (Some s) (Some t) f h =
      ap (λ x. function_visible d (Some (record s { params = x })) f) h.0
      ∙ ap (λ x. function_visible d (Some (record s { params = t.params; logical = x })) f) h.1

  function_same : (f : Function) → resolved_function d (worded_function e f) ≡ resolved_function e f
  function_same f =
      let v : Visible = function_visible e (signature_named e f.signature.bytes) f in
      ap (λ w. record f { body = map (resolved_stmt w) (map (worded_stmt v) f.body) })
      (visible_same (signature_named d f.signature.bytes) (signature_named e f.signature.bytes) f (same.signature f.signature))
      ∙ ap (λ body. record f { body = body })
      (each_item (resolved_stmt (under d v)) (resolved_stmt v) (worded_stmt v)
      (λ s. stmt_under d v same (worded_stmt v s) ∙ stmt_worded v s) f.body)

  module_same : (m : Module) → resolved_with d (worded_with e m) ≡ resolved_with e m
  module_same m =
      ap (λ ss. record m {
        signatures = ss;
        predicates = map (resolved_predicate d) (map (worded_predicate e) m.predicates);
        functions = map (resolved_function d) (map (worded_function e) m.functions);
      })
      (each_item (resolved_signature d) (resolved_signature e) (worded_signature e) signature_same m.signatures)
      ∙ ap (λ ps. record m {
        signatures = map (resolved_signature e) m.signatures;
        predicates = ps;
        functions = map (resolved_function d) (map (worded_function e) m.functions);
      })
      (each_item (resolved_predicate d) (resolved_predicate e) (worded_predicate e) predicate_same m.predicates)
      ∙ ap (λ fs. record m {
        signatures = map (resolved_signature e) m.signatures;
        predicates = map (resolved_predicate e) m.predicates;
        functions = fs;
      })
      (each_item (resolved_function d) (resolved_function e) (worded_function e) function_same m.functions)

pub resolved_worded : (m : Module) → resolved (worded m) ≡ resolved m
resolved_worded m = module_same (declarations (worded m)) (declarations m) (declarations_worded (declarations m) m) m
