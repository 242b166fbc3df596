-- Modules that break no rule of names keep to what the linker's laws ask.
use Rattle.std.proofs.Common.{◌≡◌, ℕ, zero, suc, Bool, true, false, not, ◌||◌, ◌⊎◌, inl, inr, IsTrue, List, [], ◌∷◌, ◌++◌, map, find, bytes_eq, Contains, refl, sym, ◌∙◌, ap, subst, arith}
use Rattle.std.specs.Prelude.{is_some, is_none}
use Rattle.std.specs.List.{list_all}
use Rattle.std.proofs.lemmas.Bool.{cases_Bool}
use Rattle.std.proofs.lemmas.List.Folds.{list_all-append}
use Rattle.std.proofs.lemmas.List.Elements.{Contains-append_cases}
use Rattle.bed_lang.specs.declared.word.Name.{Name}
use Rattle.bed_lang.specs.declared.logic.Assertion.{Assertion}
use Rattle.bed_lang.specs.declared.module.Signature.{Signature}
use Rattle.bed_lang.specs.declared.module.Predicate.{Predicate}
use Rattle.bed_lang.specs.declared.module.Function.{Function}
use Rattle.bed_lang.specs.declared.module.Module.{Module}
use Rattle.bed_lang.specs.declared.condition.Decls.{Decls}
use Rattle.bed_lang.specs.Declarations.{declarations, all_predicates}
use Rattle.bed_lang.specs.Lookups.{signature_named, predicate_named}
use Rattle.bed_lang.specs.Prelude.{prelude}
use Rattle.bed_table.specs.Layout as layout
use Rattle.bed_sat.specs.ConditionLaws.{CodeIsSame}
use Rattle.bed_sat.specs.Declarations.{assertion_known, signature_known, predicate_known, statement_known, module_known}
use Rattle.bed_sat.proofs.FrameLaws.{bytes_eq_is, bytes_eq_same}
use Rattle.bed_laws.specs.Activations.{IsAmong}
use Rattle.bed_names.specs.declared.error.NameError.TheVariants.{Twice}
use Rattle.bed_names.specs.Faults.{fault_if, all_faults}
use Rattle.bed_names.specs.Names.{is_among, words}
use Rattle.bed_names.specs.Terms.{Visible, twice_after, twice_faults, bind_names, signature_name_faults, assertion_faults}
use Rattle.bed_names.specs.Statements.{body_faults}
use Rattle.bed_names.specs.Modules.{plain, signature_names, params_of, logical_of, inside, locals_room_faults, signature_faults, predicate_faults, import_faults, function_faults, faults_under, name_spaces_faults, faults}
use Rattle.bed_names.specs.Resolved.{resolved, resolved_arg, resolved_assertion, resolved_signature, resolved_predicate, resolved_function}
use Rattle.bed_names.proofs.RuleLaws.{faults_are_refused}
use Rattle.bed_whole.specs.Programs.{IsRegular}
use Rattle.bed_layout.specs.Bodies.{own_variables}
use Rattle.bed_regular.specs.Regular as regular
use Rattle.bed_regular.specs.Regular.{HasOwn, ScopedAreRegular}
use Rattle.bed_fitting.specs.Fitting.{LinkedIsSound}
use Rattle.bed_scoped.specs.Scoped.{ScopedAreNamed, ScopedIsSound}
use Rattle.bed_scoped.proofs.KnownLemmas.{no_front, no_back, none_if, both_true, all_known, assertion_fine, body_fine}

not_true : false ≡ true → ⊥
not_true e = cc

-- ---- items of lists

contains_map : {A B : Type 0} (g : A → B) (xs : List A) (y : B) → Contains (map g xs) y → (x : A) × Contains xs x × (g x ≡ y)
contains_map g [] y (k, lt, e) = absurd (omega arith)
contains_map g (x ∷ xs) y (zero, lt, e) = (x, (0, omega arith, refl), e)
contains_map g (x ∷ xs) y (suc k, lt, e) =
    let r = contains_map g xs y (k, omega arith, e) in
    let at = r.1 in
    (r.0, (suc at.0, omega (arith, at.1), at.2), r.2)

-- ---- regular functions

among_if : (xs : List Name) (x : List ℕ) → layout.is_among xs x ≡ true → IsAmong xs x
among_if [] x e = absurd (not_true e)
among_if (y ∷ ys) x e = by_first (bytes_eq y.bytes x) refl (among_if ys x) e
  where
    by_first : (b : Bool) → bytes_eq y.bytes x ≡ b → (layout.is_among ys x ≡ true → IsAmong ys x) → (b || layout.is_among ys x) ≡ true → IsAmong (y ∷ ys) x
    by_first true is later t = inl (bytes_eq_is y.bytes x is)
    by_first false is later t = inr (later t)

has_own : (further : List Name) → HasOwn further (own_variables further)
has_own further = record { words = outside; answer = refl; fresh = λ k. refl; hole = refl; lists = λ x. refl }
  where
    outside : (x : List ℕ) → (IsAmong further x → ⊥) → not (layout.is_among further x) ≡ true
    outside x out = elim (cases_Bool (layout.is_among further x)) [ inl e ↦ absurd (out (among_if further x e)) | inr e ↦ ap not e ]

regular_in : CodeIsSame → (m : Module) (f : Function) → regular.IsRegular m f → IsRegular m f
regular_in same m f r =
    let own = r.own (own_variables f.locals) (has_own f.locals) in
    record {
      signature = r.signature;
      declared = r.declared;
      scoped = record { locals = r.locals; distinct = r.distinct; room = r.room; pre = own.0; post = own.1 };
      met = r.met;
      stops = ap (λ p. p.falls) (sym (same f.body)) ∙ r.stops;
    }

-- ---- predicates that are named

-- changed predicates have their names
found_still : (d : Decls) (first ps : List Predicate) (x : List ℕ) → is_none (find (λ (p : Predicate). bytes_eq p.name.bytes x) (first ++ ps)) ≡ false
    → is_some (find (λ (p : Predicate). bytes_eq p.name.bytes x) (first ++ map (resolved_predicate d) ps)) ≡ true
found_still d [] [] x e = absurd (not_true (sym e))
found_still d [] (p ∷ ps) x e = by_test (bytes_eq p.name.bytes x) refl (found_still d [] ps x)
  where
    by_test : (b : Bool) → bytes_eq p.name.bytes x ≡ b → (is_none (find (λ (q : Predicate). bytes_eq q.name.bytes x) ps) ≡ false → is_some (find (λ (q : Predicate). bytes_eq q.name.bytes x) (map (resolved_predicate d) ps)) ≡ true)
        → is_some (find (λ (q : Predicate). bytes_eq q.name.bytes x) (resolved_predicate d p ∷ map (resolved_predicate d) ps)) ≡ true
    by_test true t later = rw t refl
    by_test false t later =
        let there : is_none (find (λ (q : Predicate). bytes_eq q.name.bytes x) (p ∷ ps)) ≡ is_none (find (λ (q : Predicate). bytes_eq q.name.bytes x) ps) = rw t refl in
        rw t (later (sym there ∙ e))
found_still d (q ∷ qs) ps x e = by_test (bytes_eq q.name.bytes x) refl (found_still d qs ps x)
  where
    by_test : (b : Bool) → bytes_eq q.name.bytes x ≡ b → (is_none (find (λ (p : Predicate). bytes_eq p.name.bytes x) (qs ++ ps)) ≡ false → is_some (find (λ (p : Predicate). bytes_eq p.name.bytes x) (qs ++ map (resolved_predicate d) ps)) ≡ true)
        → is_some (find (λ (p : Predicate). bytes_eq p.name.bytes x) (q ∷ (qs ++ map (resolved_predicate d) ps))) ≡ true
    by_test true t later = rw t refl
    by_test false t later =
        let there : is_none (find (λ (p : Predicate). bytes_eq p.name.bytes x) (q ∷ (qs ++ ps))) ≡ is_none (find (λ (p : Predicate). bytes_eq p.name.bytes x) (qs ++ ps)) = rw t refl in
        rw t (later (sym there ∙ e))

-- ---- a module without a fault

module _ (m : Module) (fine : faults m ≡ []) where
  abbrev d0 : Decls
  d0 = declarations m

  abbrev d1 : Decls
  d1 = declarations (resolved m)

  still : (x : List ℕ) → is_none (predicate_named d0 x) ≡ false → is_some (predicate_named d1 x) ≡ true
  still x e = found_still d0 prelude m.predicates x e

  items : all_faults (signature_faults d0) m.signatures ++ (all_faults (predicate_faults d0) m.predicates ++ (all_faults (import_faults d0) m.imports ++ all_faults (function_faults d0) m.functions)) ≡ []
  items = no_back (name_spaces_faults d0) _ fine

  known_at : (v : Visible) → ((x : List ℕ) → predicate_named v.decls x ≡ predicate_named d0 x) → (A : Assertion) → assertion_faults v A ≡ [] → assertion_known d1 (resolved_assertion v A) ≡ true
  known_at = assertion_fine resolved_arg d1 d0 still

  signature_fine : (S : Signature) → signature_faults d0 S ≡ [] → signature_known d1 (resolved_signature d0 S) ≡ true
  signature_fine S e =
      let v = plain d0 (signature_names S) false in
      let u = plain d0 (signature_names S) true in
      let both = no_back (twice_faults (words S.params) (bind_names S.logical)) _ (no_back (twice_faults [] S.params) _ e) in
      both_true _ _ (known_at v (λ x. refl) S.pre (no_front (assertion_faults v S.pre) (assertion_faults u S.post) both)) (known_at u (λ x. refl) S.post (no_back (assertion_faults v S.pre) (assertion_faults u S.post) both))

  predicate_fine : (p : Predicate) → predicate_faults d0 p ≡ [] → predicate_known d1 (resolved_predicate d0 p) ≡ true
  predicate_fine p e =
      let v = plain d0 p.params false in
      all_known (assertion_faults v) _ (assertion_known d1) (known_at v (λ x. refl)) p.cases (no_back (twice_faults [] (bind_names p.params)) _ e)

  function_fine : (f : Function) → function_faults d0 f ≡ [] → list_all (statement_known d1) (resolved_function d0 f).body ≡ true
  function_fine f e =
      let s = signature_named d0 f.signature.bytes in
      let i = inside d0 s f in
      let under = no_back (signature_name_faults (plain d0 [] false) f.signature) (faults_under d0 s f) e in
      let r = no_back (twice_faults (words (params_of s) ++ logical_of s) f.locals) _ (no_back (locals_room_faults s f) _ under) in
      body_fine resolved_arg d1 d0 still i (λ x. refl) f.body (no_front (body_faults i f.body) _ r)

  own_known : list_all (predicate_known d1) prelude ≡ true
  own_known = refl

  known : module_known (resolved m) ≡ true
  known =
      let later = no_back (all_faults (signature_faults d0) m.signatures) _ items in
      let own = all_known (predicate_faults d0) (resolved_predicate d0) (predicate_known d1) predicate_fine m.predicates (no_front (all_faults (predicate_faults d0) m.predicates) _ later) in
      let functions = no_back (all_faults (import_faults d0) m.imports) _ (no_back (all_faults (predicate_faults d0) m.predicates) _ later) in
      both_true _ _ (all_known (signature_faults d0) (resolved_signature d0) (signature_known d1) signature_fine m.signatures (no_front (all_faults (signature_faults d0) m.signatures) _ items))
      (both_true _ _ (list_all-append (predicate_known d1) prelude (map (resolved_predicate d0) m.predicates) ∙ both_true _ _ own_known own)
      (all_known (function_faults d0) (resolved_function d0) (λ f. list_all (statement_known d1) f.body) function_fine m.functions functions))

-- ---- no predicate by a name of the prelude's

or_right : (a b : Bool) → b ≡ true → (a || b) ≡ true
or_right true b e = refl
or_right false b e = e

left_of : (a b : Bool) → (a || b) ≡ false → a ≡ false
left_of true b e = e
left_of false b e = refl

right_of : (a b : Bool) → (a || b) ≡ false → b ≡ false
right_of true b e = absurd (not_true (sym e))
right_of false b e = e

among_kept : (xs : List Name) (y x : Name) → is_among xs x ≡ true → is_among (xs ++ y ∷ []) x ≡ true
among_kept [] y x e = absurd (not_true e)
among_kept (z ∷ zs) y x e = by_first (bytes_eq x.bytes z.bytes) (among_kept zs y x) e
  where
    by_first : (b : Bool) → (is_among zs x ≡ true → is_among (zs ++ y ∷ []) x ≡ true) → (b || is_among zs x) ≡ true → (b || is_among (zs ++ y ∷ []) x) ≡ true
    by_first true later t = refl
    by_first false later t = later t

among_last : (xs : List Name) (x : Name) → is_among (xs ++ x ∷ []) x ≡ true
among_last [] x = subst (λ b. (b || false) ≡ true) (sym (bytes_eq_same x.bytes)) refl
among_last (z ∷ zs) x = or_right (bytes_eq x.bytes z.bytes) (is_among (zs ++ x ∷ []) x) (among_last zs x)

-- names that are declared behind others aren't among them
apart_after : (earlier xs : List Name) → twice_after [] earlier xs ≡ [] → (p : Name) → is_among earlier p ≡ true → (x : Name) → Contains xs x → bytes_eq p.bytes x.bytes ≡ false
apart_after earlier [] e p before x (k, lt, is) = absurd (omega arith)
apart_after earlier (y ∷ ys) e p before x (suc k, lt, is) =
    apart_after (earlier ++ y ∷ []) ys (no_back (fault_if (false || is_among earlier y) (Twice y.at)) _ e) p (among_kept earlier y p before) x (k, omega arith, is)
apart_after earlier (y ∷ ys) e p before x (zero, lt, is) =
    elim (cases_Bool (bytes_eq p.bytes x.bytes)) [
      | inl same ↦
          let not_there : is_among earlier y ≡ false = none_if (is_among earlier y) (Twice y.at) (no_front (fault_if (is_among earlier y) (Twice y.at)) _ e) in
          let equal : p.bytes ≡ y.bytes = bytes_eq_is p.bytes x.bytes same ∙ ap (λ (n : Name). n.bytes) (sym is) in
          absurd (not_true (sym not_there ∙ by_bytes earlier p y equal before))
      | inr other ↦ other
    ]
  where
    by_bytes : (xs : List Name) (a b : Name) → a.bytes ≡ b.bytes → is_among xs a ≡ true → is_among xs b ≡ true
    by_bytes [] a b same t = t
    by_bytes (z ∷ zs) a b same t = by_first (bytes_eq a.bytes z.bytes) refl (by_bytes zs a b same) t
      where
        by_first : (c : Bool) → bytes_eq a.bytes z.bytes ≡ c → (is_among zs a ≡ true → is_among zs b ≡ true) → (c || is_among zs a) ≡ true → (bytes_eq b.bytes z.bytes || is_among zs b) ≡ true
        by_first true is later w = subst (λ l. (bytes_eq l z.bytes || is_among zs b) ≡ true) same (rw is refl)
        by_first false is later w = or_right (bytes_eq b.bytes z.bytes) (is_among zs b) (later w)

-- and so after all of the first names
apart_behind : (earlier first xs : List Name) → twice_after [] earlier (first ++ xs) ≡ [] → (p : Name) → (is_among earlier p ≡ true) ⊎ Contains first p → (x : Name) → Contains xs x → bytes_eq p.bytes x.bytes ≡ false
apart_behind earlier [] xs e p (inl before) x is = apart_after earlier xs e p before x is
apart_behind earlier [] xs e p (inr (k, lt, at)) x is = absurd (omega arith)
apart_behind earlier (y ∷ ys) xs e p (inl before) x is =
    apart_behind (earlier ++ y ∷ []) ys xs (no_back (fault_if (false || is_among earlier y) (Twice y.at)) _ e) p (inl (among_kept earlier y p before)) x is
apart_behind earlier (y ∷ ys) xs e p (inr (zero, lt, at)) x is =
    apart_behind (earlier ++ y ∷ []) ys xs (no_back (fault_if (false || is_among earlier y) (Twice y.at)) _ e) p (inl (subst (λ n. is_among (earlier ++ y ∷ []) n ≡ true) at (among_last earlier y))) x is
apart_behind earlier (y ∷ ys) xs e p (inr (suc k, lt, at)) x is =
    apart_behind (earlier ++ y ∷ []) ys xs (no_back (fault_if (false || is_among earlier y) (Twice y.at)) _ e) p (inr (k, omega arith, at)) x is

contains_mapped : {A B : Type 0} (g : A → B) (xs : List A) (x : A) → Contains xs x → Contains (map g xs) (g x)
contains_mapped g [] x (k, lt, e) = absurd (omega arith)
contains_mapped g (y ∷ ys) x (zero, lt, e) = (0, omega arith, ap g e)
contains_mapped g (y ∷ ys) x (suc k, lt, e) = let r = contains_mapped g ys x (k, omega arith, e) in let at = r.1 in (suc r.0, omega (arith, at), r.2)

map_behind : {A B : Type 0} (g : A → B) (xs ys : List A) → map g (xs ++ ys) ≡ map g xs ++ map g ys
map_behind g [] ys = refl
map_behind g (x ∷ xs) ys = ap (λ l. g x ∷ l) (map_behind g xs ys)

own_names : (m : Module) → faults m ≡ [] → (p q : Predicate) → Contains prelude p → Contains m.predicates q → bytes_eq p.name.bytes q.name.bytes ≡ false
own_names m fine p q first is =
    let name = λ (r : Predicate). r.name in
    let spaces = no_front (name_spaces_faults (declarations m)) _ fine in
    let once = no_front (twice_faults [] (map name (prelude ++ m.predicates))) _ (no_back (twice_faults [] (map (λ (s : Signature). s.name) m.signatures)) _ spaces) in
    apart_behind [] (map name prelude) (map name m.predicates) (subst (λ l. twice_after [] [] l ≡ []) (map_behind name prelude m.predicates) once) p.name (inr (contains_mapped name prelude p first)) q.name (contains_mapped name m.predicates q is)

-- a predicate of modules is one of a module's
predicate_of : (ms : List Module) (q : Predicate) → Contains (all_predicates (map resolved ms)) q → (m : Module) × Contains ms m × ((p : Predicate) × Contains m.predicates p × (p.name ≡ q.name))
predicate_of [] q (k, lt, e) = absurd (omega arith)
predicate_of (m ∷ ms) q is =
    elim (Contains-append_cases (map (resolved_predicate (declarations m)) m.predicates) (all_predicates (map resolved ms)) q is) [
      | inl here ↦
          let p = contains_map (resolved_predicate (declarations m)) m.predicates q here in
          (m, (0, omega arith, refl), (p.0, p.1, ap (λ (r : Predicate). r.name) p.2))
      | inr later ↦
          let r = predicate_of ms q later in
          let at = r.1 in
          (r.0, (suc at.0, omega (arith, at.1), at.2), r.2)
    ]

-- ---- the laws

pub scoped_are_named : ScopedAreRegular → CodeIsSame → ScopedAreNamed
scoped_are_named are_regular same modules scoped = record {
  regular = λ m listed f is.
      let n = contains_map resolved modules m listed in
      subst (λ (k : Module). Contains k.functions f → IsRegular k f) n.2 (λ has. regular_in same (resolved n.0) f (are_regular n.0 f (scoped n.0 n.1) has)) is;
  known = λ m listed.
      let n = contains_map resolved modules m listed in
      subst (λ (k : Module). IsTrue (module_known k)) n.2 (known n.0 (faults_are_refused (faults n.0) (scoped n.0 n.1)));
  own = λ p q first is.
      let n = predicate_of modules q is in
      let r = n.2 in
      subst (λ (x : Name). bytes_eq p.name.bytes x.bytes ≡ false) r.2 (own_names n.0 (faults_are_refused (faults n.0) (scoped n.0 n.1)) p r.0 first r.1);
}

pub scoped_is_sound : ScopedAreNamed → LinkedIsSound → ScopedIsSound
scoped_is_sound named sound modules given base scoped linkable words valid = sound (map resolved modules) given base (named modules scoped) linkable words valid
