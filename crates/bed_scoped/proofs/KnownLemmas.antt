-- What breaks no rule of names names no predicate that isn't declared.
use Rattle.std.proofs.Common.{◌≡◌, ℕ, Bool, true, false, not, ◌||◌, Option, Some, None, List, [], ◌∷◌, ◌++◌, map, refl, sym, ◌∙◌, ap, subst}
use Rattle.std.specs.Prelude.{◌&&◌, is_some, is_none}
use Rattle.std.specs.List.{list_all}
use Rattle.bed_lang.specs.declared.word.Name.{Name}
use Rattle.bed_lang.specs.declared.word.Sort.{Sort}
use Rattle.bed_lang.specs.declared.logic.Arg.{Arg}
use Rattle.bed_lang.specs.declared.logic.Atom.{Atom}
use Rattle.bed_lang.specs.declared.logic.Atom.TheVariants as atom
use Rattle.bed_lang.specs.declared.logic.Term.{Term}
use Rattle.bed_lang.specs.declared.logic.Term.TheVariants as term
use Rattle.bed_lang.specs.declared.logic.Assertion.{Assertion}
use Rattle.bed_lang.specs.declared.module.Join.{Join}
use Rattle.bed_lang.specs.declared.statement.Stmt.{Stmt, fold-Stmt, roll-Stmt, ind-Stmt, fold-roll-Stmt}
use Rattle.bed_lang.specs.declared.statement.StmtKind.{StmtKind, StmtKind-F, fold-StmtKind, roll-StmtKind, map-StmtKind, fold-roll-StmtKind}
use Rattle.bed_lang.specs.declared.condition.Decls.{Decls}
use Rattle.bed_lang.specs.Lookups.{predicate_named}
use Rattle.bed_sat.specs.Declarations.{atom_known, term_known, assertion_known, join_known, kind_known_step, statement_known_step, statement_known}
use Rattle.bed_names.specs.declared.error.NameError.{NameError}
use Rattle.bed_names.specs.declared.error.NameError.TheVariants.{Dead, Unknown}
use Rattle.bed_names.specs.Faults.{fault_if, all_faults}
use Rattle.bed_names.specs.Names.{sequences}
use Rattle.bed_names.specs.Terms.{Visible, with_names, twice_faults, bind_names, term_faults, terms_faults, atom_faults, predicate_name_faults, assertion_faults, seq_faults, hints_faults}
use Rattle.bed_names.specs.Statements as names
use Rattle.bed_names.specs.Statements.{Surroundings, Judged, judged, judged_kind, faults_after, falls_through, join_faults}
use Rattle.bed_names.specs.Arguments.{changed_atom, changed_term, changed_assertion, changed_join, changed_keep, changed_stmt}
use Rattle.bed_names.proofs.ArgumentLaws.{layered, fold_changed}

pub no_front : {A : Type 0} (xs ys : List A) → xs ++ ys ≡ [] → xs ≡ []
no_front [] ys e = refl
no_front (x ∷ xs) ys e = absurd (cc)

pub no_back : {A : Type 0} (xs ys : List A) → xs ++ ys ≡ [] → ys ≡ []
no_back [] ys e = e
no_back (x ∷ xs) ys e = absurd (cc)

pub none_if : (b : Bool) (f : NameError) → fault_if b f ≡ [] → b ≡ false
none_if true f e = absurd (cc)
none_if false f e = refl

pub both_true : (a b : Bool) → a ≡ true → b ≡ true → (a && b) ≡ true
both_true true b ea eb = eb
both_true false b ea eb = ea

-- where none of the items has a fault, each is known once it is changed
pub all_known : {A B : Type 0} (faults : A → List NameError) (change : A → B) (known : B → Bool) → ((x : A) → faults x ≡ [] → known (change x) ≡ true)
    → (xs : List A) → all_faults faults xs ≡ [] → list_all known (map change xs) ≡ true
all_known faults change known each [] e = refl
all_known faults change known each (x ∷ xs) e =
    both_true (known (change x)) (list_all known (map change xs)) (each x (no_front (faults x) (all_faults faults xs) e))
    (all_known faults change known each xs (no_back (faults x) (all_faults faults xs) e))

module _ (change : Visible → Option Sort → Arg → Arg) (d e : Decls) (more : (x : List ℕ) → is_none (predicate_named e x) ≡ false → is_some (predicate_named d x) ≡ true) where
  module _ (v : Visible) (sees : (x : List ℕ) → predicate_named v.decls x ≡ predicate_named e x) where
    atom_fine : (t : Atom) → atom_faults v t ≡ [] → atom_known d (changed_atom change v t) ≡ true
    atom_fine (atom.Pred x args) none =
        more x.bytes (ap is_none (sym (sees x.bytes)) ∙ none_if (is_none (predicate_named v.decls x.bytes)) (Unknown x.at) (no_front (predicate_name_faults v x) _ none))
    atom_fine (atom.Cell a b) none = refl
    atom_fine (atom.Byte a b) none = refl
    atom_fine (atom.Block a b) none = refl

    term_fine : (t : Term) → term_faults v t ≡ [] → term_known d (changed_term change v t) ≡ true
    term_fine term.Emp none = refl
    term_fine (term.Pure a) none = refl
    term_fine (term.Atom a) none = atom_fine a none

  pub assertion_fine : (v : Visible) → ((x : List ℕ) → predicate_named v.decls x ≡ predicate_named e x) → (A : Assertion) → assertion_faults v A ≡ [] → assertion_known d (changed_assertion change v A) ≡ true
  assertion_fine v sees A none =
      let inside = with_names v A.binders in
      all_known (term_faults inside) (changed_term change inside) (term_known d) (term_fine inside sees) A.terms
      (no_back (twice_faults v.names (bind_names A.binders)) (terms_faults inside A.terms) none)

  module _ (i : Surroundings) (sees : (x : List ℕ) → predicate_named i.visible.decls x ≡ predicate_named e x) where
    abbrev v : Visible
    v = i.visible

    join_fine : (join : Option Join) (at : ℕ) (f g : Bool) → join_faults v at f g join ≡ [] → join_known d (changed_join change v join) ≡ true
    join_fine None at f g none = refl
    join_fine (Some j) at f g none = assertion_fine v sees j.assertion (no_back (fault_if (not (f || g)) (Dead j.place)) (assertion_faults v j.assertion) none)

    keep_fine : (u t : Name) (keep : Assertion) → names.keep_faults i u t keep ≡ [] → assertion_known d (changed_keep change v u t keep) ≡ true
    keep_fine u t keep none =
        assertion_fine (with_names v (sequences (u ∷ t ∷ []))) sees keep (no_back (twice_faults v.names (u ∷ t ∷ [])) _ none)

    -- what is known of a statement with its arguments changed, by a fold over the statement as it was
    abbrev step : StmtKind-F Bool Bool → Bool
    step = layered change v (kind_known_step d) (statement_known_step d)

    abbrev kind_fold : StmtKind → Bool
    kind_fold = fold-StmtKind Bool Bool step (statement_known_step d)

    abbrev statement_fold : Stmt → Bool
    statement_fold = fold-Stmt Bool Bool step (statement_known_step d)

    abbrev KindFine : StmtKind → Type 0
    KindFine k = (at : ℕ) → (judged_kind i k at).faults ≡ [] → kind_fold k ≡ true

    abbrev Fine : Stmt → Type 0
    Fine s = (judged i s).faults ≡ [] → statement_fold s ≡ true

    abbrev of_list : List ((s : Stmt) × Fine s) → List Stmt
    of_list ss = map (λ s. s.0) ss

    list_fine : (ss : List ((s : Stmt) × Fine s)) (b : Bool) → faults_after b (map (judged i) (of_list ss)) ≡ [] → list_all (λ x. x) (map statement_fold (of_list ss)) ≡ true
    list_fine [] b none = refl
    list_fine (s ∷ ss) b none =
        let j = judged i s.0 in
        let later = faults_after j.falls (map (judged i) (of_list ss)) in
        let both = no_back (fault_if (not b) (Dead j.at)) (j.faults ++ later) none in
        both_true (statement_fold s.0) (list_all (λ x. x) (map statement_fold (of_list ss))) (s.1 (no_front j.faults later both)) (list_fine ss j.falls (no_back j.faults later both))

    abbrev plain : StmtKind-F ((k : StmtKind) × KindFine k) ((s : Stmt) × Fine s) → StmtKind-F StmtKind Stmt
    plain y = map-StmtKind _ _ _ _ (λ k. k.0) (λ s. s.0) y

    abbrev judged_layer : StmtKind-F StmtKind Stmt → ℕ → Judged
    judged_layer x at = names.kind_step i (map-StmtKind _ _ _ _ (judged_kind i) (judged i) x) at

    abbrev known_layer : StmtKind-F StmtKind Stmt → Bool
    known_layer x = step (map-StmtKind _ _ _ _ kind_fold statement_fold x)

    layer : (y : StmtKind-F ((k : StmtKind) × KindFine k) ((s : Stmt) × Fine s)) (at : ℕ) → (judged_layer (plain y) at).faults ≡ [] → known_layer (plain y) ≡ true
    layer (StmtKind-F.Assign x a) at none = refl
    layer (StmtKind-F.Compute x op a b) at none = refl
    layer (StmtKind-F.Load x p) at none = refl
    layer (StmtKind-F.LoadByte x p) at none = refl
    layer (StmtKind-F.Store p a) at none = refl
    layer (StmtKind-F.StoreByte p a) at none = refl
    layer (StmtKind-F.Call place x target via args hints after) at none =
        assertion_fine v sees after (no_back (hints_faults v hints) (assertion_faults v after) (no_back (names.call_head_faults i place x target via args) _ none))
    layer (StmtKind-F.If test ys ns join) at none =
        let jy = map (judged i) (of_list ys) in
        let jn = map (judged i) (of_list ns) in
        let r1 = no_back (names.test_faults i test) _ none in
        let r2 = no_back (names.list_faults jy) _ r1 in
        let known_join = join_known d (changed_join change v join) in
        let known_else = list_all (λ x. x) (map statement_fold (of_list ns)) in
        both_true (list_all (λ x. x) (map statement_fold (of_list ys))) (known_else && known_join) (list_fine ys true (no_front (names.list_faults jy) _ r1))
        (both_true known_else known_join (list_fine ns true (no_front (names.list_faults jn) _ r2))
        (join_fine join at (falls_through jy) (falls_through jn) (no_back (names.list_faults jn) _ r2)))
    layer (StmtKind-F.While test place invariant body) at none =
        let jb = map (judged i) (of_list body) in
        let r1 = no_back (names.test_faults i test) _ none in
        both_true (assertion_known d (changed_assertion change v invariant)) (list_all (λ x. x) (map statement_fold (of_list body)))
        (assertion_fine v sees invariant (no_front (assertion_faults v invariant) (names.list_faults jb) r1)) (list_fine body true (no_back (assertion_faults v invariant) (names.list_faults jb) r1))
    layer (StmtKind-F.Return a) at none = refl
    layer (StmtKind-F.Hint h) at none = refl
    layer (StmtKind-F.Find n x a p s u t keep body) at none =
        let jb = map (judged i) (of_list body) in
        let head = no_front (names.find_faults i n x a p s u t keep) _ none in
        let r1 = no_back (names.local_faults i n) _ head in
        let r2 = no_back (names.other_local_faults i _ x) _ r1 in
        let r3 = no_back (names.key_faults i _ a) _ r2 in
        let r4 = no_back (names.other_local_faults i _ p) _ r3 in
        both_true (assertion_known d (changed_keep change v u t keep)) (list_all (λ x. x) (map statement_fold (of_list body)))
        (keep_fine u t keep (no_back (seq_faults v s) (names.keep_faults i u t keep) r4))
        (list_fine body true (no_front (names.list_faults jb) _ (no_back (names.find_faults i n x a p s u t keep) _ none)))
    layer (StmtKind-F.Walk n x p s u t keep body) at none =
        let jb = map (judged i) (of_list body) in
        let head = no_front (names.walk_faults i n x p s u t keep) _ none in
        let r1 = no_back (names.local_faults i n) _ head in
        let r2 = no_back (names.other_local_faults i _ x) _ r1 in
        let r4 = no_back (names.other_local_faults i _ p) _ r2 in
        both_true (assertion_known d (changed_keep change v u t keep)) (list_all (λ x. x) (map statement_fold (of_list body)))
        (keep_fine u t keep (no_back (seq_faults v s) (names.keep_faults i u t keep) r4))
        (list_fine body true (no_front (names.list_faults jb) _ (no_back (names.walk_faults i n x p s u t keep) _ none)))

    every_fine : (s : Stmt) → Fine s
    every_fine =
        ind-Stmt KindFine Fine
        (λ x y is at none.
        let jr : judged_kind i (roll-StmtKind x) at ≡ judged_layer x at = ap (λ f. f at) (fold-roll-StmtKind (ℕ → Judged) Judged (names.kind_step i) (names.stmt_step i) x) in
        fold-roll-StmtKind Bool Bool step (statement_known_step d) x
        ∙ subst (λ z. (judged_layer z at).faults ≡ [] → known_layer z ≡ true) is (layer y at) (ap (λ (j : Judged). j.faults) (sym jr) ∙ none))
        (λ x y is none.
        let jr : judged i (roll-Stmt x) ≡ record (judged_kind i x.kind x.at) { at = x.at } = fold-roll-Stmt (ℕ → Judged) Judged (names.kind_step i) (names.stmt_step i) x in
        fold-roll-Stmt Bool Bool step (statement_known_step d) x
        ∙ subst (λ z. (judged_kind i z.kind z.at).faults ≡ [] → kind_fold z.kind ≡ true) is (y.kind.1 y.at) (ap (λ (j : Judged). j.faults) (sym jr) ∙ none))

    body_after : (body : List Stmt) (b : Bool) → faults_after b (map (judged i) body) ≡ [] → list_all (statement_known d) (map (changed_stmt change v) body) ≡ true
    body_after [] b none = refl
    body_after (s ∷ ss) b none =
        let j = judged i s in
        let later = faults_after j.falls (map (judged i) ss) in
        let both = no_back (fault_if (not b) (Dead j.at)) (j.faults ++ later) none in
        both_true (statement_known d (changed_stmt change v s)) (list_all (statement_known d) (map (changed_stmt change v) ss))
        (fold_changed change v (kind_known_step d) (statement_known_step d) s ∙ every_fine s (no_front j.faults later both)) (body_after ss j.falls (no_back j.faults later both))

    pub body_fine : (body : List Stmt) → names.body_faults i body ≡ [] → list_all (statement_known d) (map (changed_stmt change v) body) ≡ true
    body_fine body none = body_after body true none
