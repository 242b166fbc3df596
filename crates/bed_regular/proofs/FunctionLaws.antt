-- Each function of a module that keeps the rules of names is regular, and so its blocks keep the laws.
use Rattle.std.proofs.Common.{◌≡◌, ℕ, zero, suc, ◌+◌, ◌-◌, ◌<◌, ◌≤◌, Bool, true, false, not, ◌||◌, ◌⊎◌, inl, inr, IsTrue, Option, Some, None, List, [], ◌∷◌, ◌++◌, map, length, bytes_eq, Contains, refl, sym, ◌∙◌, ap, ap₂, subst, arith, length-append}
use Rattle.std.specs.Prelude.{is_some, is_none, find, nat_lt, ◌==◌, if◌then◌else◌}
use Rattle.std.proofs.lemmas.Bool.{ltb-false}
use Rattle.std.proofs.lemmas.List.Elements.{Contains-append_cases}
use Rattle.bed_lang.specs.declared.word.Name.{Name}
use Rattle.bed_lang.specs.declared.word.Sort.{Sort}
use Rattle.bed_lang.specs.declared.logic.Bind.{Bind}
use Rattle.bed_lang.specs.declared.module.Operand.{Operand}
use Rattle.bed_lang.specs.declared.module.Operand.TheVariants as operand
use Rattle.bed_lang.specs.declared.module.Signature.{Signature}
use Rattle.bed_lang.specs.declared.module.Import.{Import}
use Rattle.bed_lang.specs.declared.module.Function.{Function}
use Rattle.bed_lang.specs.declared.module.Module.{Module}
use Rattle.bed_lang.specs.declared.condition.Decls.{Decls}
use Rattle.bed_lang.specs.Declarations.{declarations, labels_of}
use Rattle.bed_lang.specs.Lookups.{first_signature, signature_named, label_signature, second_of, named_signature, function_signature}
use Rattle.bed_table.specs.Code.{params_of as params_in, locals_of}
use Rattle.bed_sat.specs.Written.{written}
use Rattle.bed_sat.specs.Frames.{frame_size}
use Rattle.bed_sat.specs.Valid.{callee_name}
use Rattle.bed_sat.specs.Declarations.{Extends}
use Rattle.bed_sat.specs.Scopes.{Scope, assertion_in}
use Rattle.bed_sat.proofs.FrameLaws.{bytes_eq_is, bytes_eq_same}
use Rattle.bed_sat.proofs.SignatureLaws.{names_long, parts_of}
use Rattle.bed_sat.proofs.ExtensionLaws.{found}
use Rattle.bed_laws.specs.Activations.{FunctionSite, IsAmong, AreDistinct}
use Rattle.bed_names.specs.declared.error.NameError.{NameError}
use Rattle.bed_names.specs.declared.error.NameError.TheVariants.{Twice, Unknown, FallsOff, StackRoom, Arity}
use Rattle.bed_names.specs.Faults.{fault_if, all_faults}
use Rattle.bed_names.specs.Names.{is_among, sort_of, words}
use Rattle.bed_names.specs.Terms.{twice_after, twice_faults, bind_names, signature_name_faults, assertion_faults}
use Rattle.bed_names.specs.Statements.{Surroundings, frame, callee, callee_faults, room_faults, operand_faults, via_faults, body_falls, body_faults}
use Rattle.bed_names.specs.Modules.{plain, signature_names, params_of, logical_of, area_of, locals_room_faults, inside, faults_under, function_faults, import_faults, predicate_faults, signature_faults, function_visible, faults, name_spaces_faults}
use Rattle.bed_names.specs.Arguments.{changed_signature, changed_function, changed_stmt}
use Rattle.bed_names.specs.Resolved.{resolved, resolved_arg, resolved_signature, resolved_function}
use Rattle.bed_names.proofs.ArgumentLaws.{kept_by}
use Rattle.bed_names.proofs.RuleLaws.{faults_are_refused}
use Rattle.bed_macro_call.specs.Room.{HasRoom}
use Rattle.bed_bodies.specs.Demands.{AreMet}
use Rattle.bed_bodies.specs.Bodies.{body_built}
use Rattle.bed_bodies.proofs.BodyLaws.{body_laws}
use Rattle.bed_bodies.proofs.FunctionLaws.{function_laws}
use Rattle.bed_regular.specs.Regular.{site_with, HasOwn, IsRegular, ScopedAreRegular, RegularKeepLaws}
use Rattle.bed_regular.proofs.StatementLemmas.{no_front, no_back, none_if, AreRegular, body_fine}
use Rattle.bed_regular.proofs.ScopeLemmas.{Covers, assertion_fits}

some_same : {A : Type 0} {x y : A} → ◌≡◌ {A = Option A} (Some x) (Some y) → x ≡ y
some_same e = cc

none_some : {A : Type 0} {x : A} → ◌≡◌ {A = Option A} None (Some x) → ⊥
none_some e = cc

not_true : false ≡ true → ⊥
not_true e = cc

some_of : {A : Type 0} (o : Option A) → is_none o ≡ false → (x : A) × (o ≡ Some x)
some_of None e = absurd (not_true (sym e))
some_of (Some x) e = (x, refl)

-- ---- items of lists

contains_map : {A B : Type 0} (g : A → B) (xs : List A) (y : B) → Contains (map g xs) y → (x : A) × Contains xs x × (g x ≡ y)
contains_map g [] y (k, lt, e) = absurd (omega arith)
contains_map g (x ∷ xs) y (zero, lt, e) = (x, (0, omega arith, refl), e)
contains_map g (x ∷ xs) y (suc k, lt, e) =
    let r = contains_map g xs y (k, omega arith, e) in
    let at = r.1 in
    (r.0, (suc at.0, omega (arith, at.1), at.2), r.2)

all_none : {A : Type 0} (each : A → List NameError) (xs : List A) (x : A) → all_faults each xs ≡ [] → Contains xs x → each x ≡ []
all_none each [] x e (k, lt, is) = absurd (omega arith)
all_none each (y ∷ ys) x e (zero, lt, is) = subst (λ z. each z ≡ []) is (no_front (each y) (all_faults each ys) e)
all_none each (y ∷ ys) x e (suc k, lt, is) = all_none each ys x (no_back (each y) (all_faults each ys) e) (k, omega arith, is)

-- ---- names that differ

among_left : (xs ys : List Name) (x : List ℕ) → IsAmong xs x → IsAmong (xs ++ ys) x
among_left [] ys x is = absurd is
among_left (y ∷ xs) ys x (inl e) = inl e
among_left (y ∷ xs) ys x (inr is) = inr (among_left xs ys x is)

among_right : (xs ys : List Name) (x : List ℕ) → IsAmong ys x → IsAmong (xs ++ ys) x
among_right [] ys x is = is
among_right (y ∷ xs) ys x is = inr (among_right xs ys x is)

among_cases : (xs ys : List Name) (x : List ℕ) → IsAmong (xs ++ ys) x → IsAmong xs x ⊎ IsAmong ys x
among_cases [] ys x is = inr is
among_cases (y ∷ xs) ys x (inl e) = inl (inl e)
among_cases (y ∷ xs) ys x (inr is) = elim (among_cases xs ys x is) [ inl p ↦ inl (inr p) | inr p ↦ inr p ]

or_left : (a b : Bool) → a ≡ true → (a || b) ≡ true
or_left true b e = refl
or_left false b e = absurd (not_true e)

or_right : (a b : Bool) → b ≡ true → (a || b) ≡ true
or_right true b e = refl
or_right false b e = e

left_false : (a b : Bool) → (a || b) ≡ false → a ≡ false
left_false true b e = e
left_false false b e = refl

right_false : (a b : Bool) → (a || b) ≡ false → b ≡ false
right_false true b e = absurd (not_true (sym e))
right_false false b e = e

same_bytes : (x y : Name) → y.bytes ≡ x.bytes → bytes_eq x.bytes y.bytes ≡ true
same_bytes x y e = subst (λ z. bytes_eq x.bytes z ≡ true) (sym e) (bytes_eq_same x.bytes)

-- by the test
is_if_among : (xs : List Name) (x : Name) → IsAmong xs x.bytes → is_among xs x ≡ true
is_if_among [] x is = absurd is
is_if_among (y ∷ ys) x (inl e) = or_left (bytes_eq x.bytes y.bytes) (is_among ys x) (same_bytes x y e)
is_if_among (y ∷ ys) x (inr is) = or_right (bytes_eq x.bytes y.bytes) (is_among ys x) (is_if_among ys x is)

-- a word is in scope under its name
word_in_scope : (xs : List Name) (more : List Bind) (x : Name) → IsAmong xs x.bytes → is_some (sort_of (words xs ++ more) x) ≡ true
word_in_scope [] more x is = absurd is
word_in_scope (y ∷ ys) more x is = by_first (bytes_eq x.bytes y.bytes) refl (λ later. word_in_scope ys more x later) is
  where
    by_first : (b : Bool) → bytes_eq x.bytes y.bytes ≡ b → (IsAmong ys x.bytes → is_some (sort_of (words ys ++ more) x) ≡ true) → IsAmong (y ∷ ys) x.bytes → is_some (sort_of (words (y ∷ ys) ++ more) x) ≡ true
    by_first true e later is = rw e refl
    by_first false e later (inl same) = absurd (not_true (sym e ∙ same_bytes x y same))
    by_first false e later (inr is) = rw e (later is)

-- names of one list without a fault: none is in scope, none is one of the earlier ones, and they differ
module _ (scope : List Bind) where
  first_fine : (earlier : List Name) (y : Name) (ys : List Name) → twice_after scope earlier (y ∷ ys) ≡ [] → (is_some (sort_of scope y) || is_among earlier y) ≡ false
  first_fine earlier y ys e = none_if _ (Twice y.at) (no_front (fault_if (is_some (sort_of scope y) || is_among earlier y) (Twice y.at)) _ e)

  rest_fine : (earlier : List Name) (y : Name) (ys : List Name) → twice_after scope earlier (y ∷ ys) ≡ [] → twice_after scope (earlier ++ y ∷ []) ys ≡ []
  rest_fine earlier y ys e = no_back (fault_if (is_some (sort_of scope y) || is_among earlier y) (Twice y.at)) _ e

  not_earlier : (earlier xs : List Name) → twice_after scope earlier xs ≡ [] → (x : List ℕ) → IsAmong xs x → IsAmong earlier x → ⊥
  not_earlier earlier [] e x is before = is
  not_earlier earlier (y ∷ ys) e x (inl same) before =
      not_true (sym (right_false (is_some (sort_of scope y)) (is_among earlier y) (first_fine earlier y ys e)) ∙ is_if_among earlier y (subst (IsAmong earlier) (sym same) before))
  not_earlier earlier (y ∷ ys) e x (inr later) before = not_earlier (earlier ++ y ∷ []) ys (rest_fine earlier y ys e) x later (among_left earlier (y ∷ []) x before)

  differ : (earlier xs : List Name) → twice_after scope earlier xs ≡ [] → AreDistinct xs
  differ earlier [] e = tt
  differ earlier (y ∷ ys) e =
      (λ is. not_earlier (earlier ++ y ∷ []) ys (rest_fine earlier y ys e) y.bytes is (among_right earlier (y ∷ []) y.bytes (inl refl)), differ (earlier ++ y ∷ []) ys (rest_fine earlier y ys e))

-- nor is one a parameter that is in scope
not_param : (params : List Name) (more : List Bind) (earlier xs : List Name) → twice_after (words params ++ more) earlier xs ≡ [] → (x : List ℕ) → IsAmong xs x → IsAmong params x → ⊥
not_param params more earlier [] e x is before = is
not_param params more earlier (y ∷ ys) e x (inl same) before =
    not_true (sym (left_false (is_some (sort_of (words params ++ more) y)) (is_among earlier y) (first_fine (words params ++ more) earlier y ys e)) ∙ word_in_scope params more y (subst (IsAmong params) (sym same) before))
not_param params more earlier (y ∷ ys) e x (inr later) before = not_param params more (earlier ++ y ∷ []) ys (rest_fine (words params ++ more) earlier y ys e) x later before

-- names are looked up by their bytes
sort_by_bytes : (scope : List Bind) (x y : Name) → x.bytes ≡ y.bytes → sort_of scope x ≡ sort_of scope y
sort_by_bytes [] x y e = refl
sort_by_bytes (b ∷ bs) x y e = ap₂ (λ t o. if t then Some b.sort else o) (ap (λ z. bytes_eq z b.name.bytes) e) (sort_by_bytes bs x y e)

out_of_scope : (scope : List Bind) (earlier xs : List Name) → twice_after scope earlier xs ≡ [] → (x : Name) → IsAmong xs x.bytes → is_some (sort_of scope x) ≡ false
out_of_scope scope earlier [] e x is = absurd is
out_of_scope scope earlier (y ∷ ys) e x (inl same) =
    ap is_some (sort_by_bytes scope x y (sym same)) ∙ left_false (is_some (sort_of scope y)) (is_among earlier y) (first_fine scope earlier y ys e)
out_of_scope scope earlier (y ∷ ys) e x (inr later) = out_of_scope scope (earlier ++ y ∷ []) ys (rest_fine scope earlier y ys e) x later

differ_both : (xs ys : List Name) → AreDistinct xs → AreDistinct ys → ((x : List ℕ) → IsAmong ys x → IsAmong xs x → ⊥) → AreDistinct (xs ++ ys)
differ_both [] ys dx dy apart = dy
differ_both (x ∷ xs) ys dx dy apart = (λ is. by_part (among_cases xs ys x.bytes is), differ_both xs ys dx.1 dy (λ z iy ix. apart z iy (inr ix)))
  where
    by_part : IsAmong xs x.bytes ⊎ IsAmong ys x.bytes → ⊥
    by_part (inl p) = dx.0 p
    by_part (inr p) = apart x.bytes p (inl refl)

-- ---- signatures and labels

signature_changed : (d : Decls) (ss : List Signature) (x : List ℕ) (S : Signature) → first_signature ss x ≡ Some S → first_signature (map (resolved_signature d) ss) x ≡ Some (resolved_signature d S)
signature_changed d [] x S e = absurd (none_some e)
signature_changed d (T ∷ Ts) x S e = by_test (bytes_eq T.name.bytes x) refl (signature_changed d Ts x S)
  where
    by_test : (b : Bool) → bytes_eq T.name.bytes x ≡ b → (first_signature Ts x ≡ Some S → first_signature (map (resolved_signature d) Ts) x ≡ Some (resolved_signature d S))
        → first_signature (map (resolved_signature d) (T ∷ Ts)) x ≡ Some (resolved_signature d S)
    by_test true t later = let here : first_signature (T ∷ Ts) x ≡ Some T = rw t refl in rw t (ap (λ U. Some (resolved_signature d U)) (some_same (sym here ∙ e)))
    by_test false t later = let there : first_signature (T ∷ Ts) x ≡ first_signature Ts x = rw t refl in rw t (later (sym there ∙ e))

params_found : (ss : List Signature) (x : List ℕ) (S : Signature) → first_signature ss x ≡ Some S → params_in ss x ≡ S.params
params_found [] x S e = absurd (none_some e)
params_found (T ∷ Ts) x S e = by_test (bytes_eq T.name.bytes x) refl (params_found Ts x S)
  where
    by_test : (b : Bool) → bytes_eq T.name.bytes x ≡ b → (first_signature Ts x ≡ Some S → params_in Ts x ≡ S.params) → params_in (T ∷ Ts) x ≡ S.params
    by_test true t later = let here : first_signature (T ∷ Ts) x ≡ Some T = rw t refl in rw t (ap (λ U. U.params) (some_same (sym here ∙ e)))
    by_test false t later = let there : first_signature (T ∷ Ts) x ≡ first_signature Ts x = rw t refl in rw t (later (sym there ∙ e))

labels_kept : (m : Module) → labels_of (resolved m) ≡ labels_of m
labels_kept m =
    ap (λ l. map (λ (i : Import). (i.name, i.signature)) m.imports ++ l)
    (kept_by (λ (f : Function). (f.name, f.signature)) (resolved_function (declarations m)) (λ f. refl) m.functions)

-- a label is found with the name of its signature
label_found : (ls : List (Name × Name)) (p : Name × Name → Bool) (n : Name) → second_of (find p ls) ≡ Some n → (l : Name × Name) × Contains ls l × (l.1 ≡ n)
label_found ls p n e = by_found (find p ls) refl e
  where
    by_found : (o : Option (Name × Name)) → find p ls ≡ o → second_of o ≡ Some n → (l : Name × Name) × Contains ls l × (l.1 ≡ n)
    by_found None is e = absurd (none_some e)
    by_found (Some l) is e = (l, (found p ls l is).0, some_same e)

-- ---- a module without a fault

module _ (m : Module) (fine : faults m ≡ []) where
  abbrev d0 : Decls
  d0 = declarations m

  items : all_faults (signature_faults d0) m.signatures ++ (all_faults (predicate_faults d0) m.predicates ++ (all_faults (import_faults d0) m.imports ++ all_faults (function_faults d0) m.functions)) ≡ []
  items = no_back (name_spaces_faults d0) _ fine

  no_signature_fault : (S : Signature) → Contains m.signatures S → signature_faults d0 S ≡ []
  no_signature_fault S is = all_none (signature_faults d0) m.signatures S (no_front (all_faults (signature_faults d0) m.signatures) _ items) is

  later_items : all_faults (import_faults d0) m.imports ++ all_faults (function_faults d0) m.functions ≡ []
  later_items = no_back _ (all_faults (import_faults d0) m.imports ++ all_faults (function_faults d0) m.functions) (no_back (all_faults (signature_faults d0) m.signatures) _ items)

  no_import_fault : (i : Import) → Contains m.imports i → import_faults d0 i ≡ []
  no_import_fault i is = all_none (import_faults d0) m.imports i (no_front (all_faults (import_faults d0) m.imports) _ later_items) is

  no_function_fault : (f : Function) → Contains m.functions f → function_faults d0 f ≡ []
  no_function_fault f is = all_none (function_faults d0) m.functions f (no_back (all_faults (import_faults d0) m.imports) _ later_items) is

  named : (x : Name) → signature_name_faults (plain d0 [] false) x ≡ [] → (S : Signature) × (signature_named d0 x.bytes ≡ Some S)
  named x e = some_of (signature_named d0 x.bytes) (none_if (is_none (signature_named d0 x.bytes)) (Unknown x.at) e)

  -- the signature of a function or an import is declared
  label_named : (f : List ℕ) (n : Name) → label_signature d0 f ≡ Some n → (S : Signature) × (signature_named d0 n.bytes ≡ Some S)
  label_named f n e =
      let r = label_found (labels_of m) _ n e in
      elim (Contains-append_cases (map (λ (i : Import). (i.name, i.signature)) m.imports) (map (λ (g : Function). (g.name, g.signature)) m.functions) r.0 r.1) [
        | inl is ↦
            let i = contains_map (λ (i : Import). (i.name, i.signature)) m.imports r.0 is in
            subst (λ (z : Name). (S : Signature) × (signature_named d0 z.bytes ≡ Some S)) (ap (λ (l : Name × Name). l.1) i.2 ∙ r.2) (named i.0.signature (no_import_fault i.0 i.1))
        | inr is ↦
            let g = contains_map (λ (g : Function). (g.name, g.signature)) m.functions r.0 is in
            subst (λ (z : Name). (S : Signature) × (signature_named d0 z.bytes ≡ Some S)) (ap (λ (l : Name × Name). l.1) g.2 ∙ r.2)
            (named g.0.signature (no_front (signature_name_faults (plain d0 [] false) g.0.signature) _ (no_function_fault g.0 g.1)))
      ]

  module _ (f : Function) (is : Contains m.functions f) (S : Signature) (declared : signature_named d0 f.signature.bytes ≡ Some S) where
    abbrev sees : Surroundings
    sees = inside d0 (Some S) f

    abbrev made : Function
    made = resolved_function d0 f

    abbrev signature : Signature
    signature = resolved_signature d0 S

    abbrev site : FunctionSite
    site = site_with (resolved m) made signature

    under : faults_under d0 (Some S) f ≡ []
    under = subst (λ o. faults_under d0 o f ≡ []) declared (no_back (signature_name_faults (plain d0 [] false) f.signature) _ (no_function_fault f is))

    r1 : twice_faults (words S.params ++ S.logical) f.locals ++ (body_faults sees f.body ++ fault_if (body_falls sees f.body) (FallsOff f.end)) ≡ []
    r1 = no_back (locals_room_faults (Some S) f) _ under

    body_none : body_faults sees f.body ≡ []
    body_none = no_front (body_faults sees f.body) _ (no_back (twice_faults (words S.params ++ S.logical) f.locals) _ r1)

    body_stops : body_falls sees f.body ≡ false
    body_stops = none_if _ (FallsOff f.end) (no_back (body_faults sees f.body) _ (no_back (twice_faults (words S.params ++ S.logical) f.locals) _ r1))

    locals_fine : twice_after (words S.params ++ S.logical) [] f.locals ≡ []
    locals_fine = no_front (twice_faults (words S.params ++ S.logical) f.locals) _ r1

    has_room : length f.locals ≤ S.reserve
    has_room = ltb-false S.reserve (length f.locals) (none_if _ (StackRoom f.name.at (length f.locals) S.reserve) (no_front (locals_room_faults (Some S) f) _ under))

    params_fine : twice_after [] [] S.params ≡ []
    params_fine = no_front (twice_faults [] S.params) _ (no_signature_fault S (found _ m.signatures S declared).0)

    declared_there : first_signature (resolved m).signatures f.signature.bytes ≡ Some signature
    declared_there = signature_changed d0 m.signatures f.signature.bytes S declared

    locals_are : locals_of (resolved m).signatures made ≡ S.params ++ f.locals
    locals_are = ap (λ l. l ++ f.locals) (params_found (resolved m).signatures f.signature.bytes signature declared_there)

    locals_differ : AreDistinct (S.params ++ f.locals)
    locals_differ = differ_both S.params f.locals (differ [] [] S.params params_fine) (differ (words S.params ++ S.logical) [] f.locals locals_fine) (not_param S.params S.logical [] f.locals locals_fine)

    covers : (P : Scope) (answer : Bool) → HasOwn f.locals P → Covers P (plain d0 (signature_names S) answer)
    covers P answer own = record {
      olds = refl;
      words = λ x e. own.words x.bytes (λ is. not_true (sym (out_of_scope (words S.params ++ S.logical) [] f.locals locals_fine x is) ∙ ap is_some e));
      answer = own.answer;
      fresh = own.fresh;
      hole = own.hole;
      lists = own.lists;
    }

    speaks_of_own : (P : Scope) → HasOwn f.locals P → (assertion_in P signature.pre ≡ true) × (assertion_in P signature.post ≡ true)
    speaks_of_own P own =
        let v = plain d0 (signature_names S) false in
        let u = plain d0 (signature_names S) true in
        let e = no_back (twice_faults (words S.params) (bind_names S.logical)) _ (no_back (twice_faults [] S.params) _ (no_signature_fault S (found _ m.signatures S declared).0)) in (
          assertion_fits P v S.pre (covers P false own) (no_front (assertion_faults v S.pre) (assertion_faults u S.post) e),
          assertion_fits P u S.post (covers P true own) (no_back (assertion_faults v S.pre) (assertion_faults u S.post) e),
        )

    module _ (d : Decls) (extends : Extends (declarations (resolved m)) d) where
      -- a frame of as many words fits where the callee's, as the module declares it, does
      room_for : (U T : Signature) (name : List ℕ) (args : List Operand) (at : ℕ) → signature_named d0 name ≡ Some U → signature_named d name ≡ Some T
          → callee_faults sees.area (Some U) args at ≡ [] → frame_size T + (1 + length site.site.locals) ≤ frame_size signature
      room_for U T name args at own all e =
          let less : frame U ≤ S.reserve - length f.locals =
          ltb-false (S.reserve - length f.locals) (frame U) (none_if _ (StackRoom at (frame U) (S.reserve - length f.locals)) (no_back (fault_if (not (length U.params == length args)) (Arity at)) _ e)) in
          let there = extends.signatures name (resolved_signature d0 U) (signature_changed d0 m.signatures name U own) in
          let same : there.0 ≡ T = some_same (sym there.1 ∙ all) in
          let parts = parts_of (resolved_signature d0 U) there.0 there.2 in
          let long = names_long U.params there.0.params parts.params in
          let reserve = parts.reserve in
          let size : frame_size T ≡ frame U = ap frame_size (sym same) ∙ (let z : 1 + length there.0.params + there.0.reserve ≡ 1 + length U.params + U.reserve = omega (arith, long, reserve) in z) in
          let locals : length site.site.locals ≡ length (S.params ++ f.locals) = ap length locals_are in
          omega (arith, less, size, locals, has_room, length-append S.params f.locals)

      callee_some : (t : Operand) (x : Name) → callee d0 t (Some x) ≡ signature_named d0 x.bytes
      callee_some (operand.Number n) x = refl
      callee_some (operand.Local y) x = refl
      callee_some (operand.Label g) x = refl

      name_some : (t : Operand) (x : Name) → callee_name d t (Some x) ≡ Some x
      name_some (operand.Number n) x = refl
      name_some (operand.Local y) x = refl
      name_some (operand.Label g) x = refl

      room : (target : Operand) (via : Option Name) (args : List Operand) (at : ℕ) → callee_faults sees.area (callee sees.visible.decls target via) args at ≡ []
          → operand_faults sees target ≡ [] → via_faults sees via ≡ [] → HasRoom d site target via
      room target (Some x) args at e known via_fine name T is_name is_callee =
          let U = some_of (signature_named d0 x.bytes) (none_if (is_none (signature_named d0 x.bytes)) (Unknown x.at) via_fine) in
          let same : x ≡ name = some_same (sym (name_some target x) ∙ is_name) in
          room_for U.0 T name.bytes args at (ap (λ (n : Name). signature_named d0 n.bytes) (sym same) ∙ U.1) is_callee (subst (λ o. callee_faults sees.area o args at ≡ []) (callee_some target x ∙ U.1) e)
      room (operand.Label g) None args at e known via name T is_name is_callee =
          let n = some_of (label_signature d0 g.bytes) (none_if (is_none (label_signature d0 g.bytes)) (Unknown g.at) known) in
          let U = label_named g.bytes n.0 n.1 in
          let kept : label_signature (declarations (resolved m)) g.bytes ≡ Some n.0 = ap (λ l. second_of (find (λ k. bytes_eq k.0.bytes g.bytes) l)) (labels_kept m) ∙ n.1 in
          let there = extends.labels g.bytes n.0 kept in
          let same : n.0.bytes ≡ name.bytes = bytes_eq_is n.0.bytes there.0.bytes there.2 ∙ ap (λ (z : Name). z.bytes) (some_same (sym there.1 ∙ is_name)) in
          let own : callee sees.visible.decls (operand.Label g) None ≡ Some U.0 = ap (named_signature d0) n.1 ∙ U.1 in
          room_for U.0 T name.bytes args at (ap (signature_named d0) (sym same) ∙ U.1) is_callee (subst (λ o. callee_faults sees.area o args at ≡ []) own e)
      room (operand.Number n) None args at e known via name T is_name is_callee = absurd (none_some is_name)
      room (operand.Local x) None args at e known via name T is_name is_callee = absurd (none_some is_name)

      regular_body : AreRegular d site (written made.body) false
      regular_body =
          let v = function_visible d0 (signature_named d0 f.signature.bytes) f in
          subst (AreRegular d site (written made.body)) body_stops
          (body_fine d site resolved_arg v sees (sym locals_are) room f.body body_none)

    -- nothing is declared
    abbrev nowhere : Decls
    nowhere = record { signatures = []; predicates = []; labels = [] }

    stops : (body_built (written made.body)).falls ≡ false
    stops =
        let v = function_visible d0 (signature_named d0 f.signature.bytes) f in
        (body_fine nowhere site resolved_arg v sees (sym locals_are) (λ target via args at e known via_fine name T is_name is_callee. absurd (none_some is_callee)) f.body body_none).ends ∙ body_stops

    regular_function : IsRegular (resolved m) made
    regular_function = record {
      signature = signature;
      declared = declared_there;
      locals = locals_are;
      distinct = subst AreDistinct (sym locals_are) locals_differ;
      room = has_room;
      own = speaks_of_own;
      met = λ d extends. (regular_body d extends).met;
      stops = (body_laws (written made.body)).falls ∙ stops;
    }

pub scoped_are_regular : ScopedAreRegular
scoped_are_regular m f refused is =
    let fine = faults_are_refused (faults m) refused in
    let g = contains_map (resolved_function (declarations m)) m.functions f is in
    let S = named m fine g.0.signature (no_front (signature_name_faults (plain (declarations m) [] false) g.0.signature) _ (no_function_fault m fine g.0 g.1)) in
    subst (λ h. IsRegular (resolved m) h) g.2 (regular_function m fine g.0 g.1 S.0 S.1)

pub regular_keep_laws : RegularKeepLaws
regular_keep_laws m f r d extends =
    let c = site_with m f r.signature in
    let laws = function_laws d c (written f.body) (r.met d extends) r.stops in
    record { fit = laws.fit; lays = laws.lays; keeps = λ w extends_w places from. laws.keeps w (r.met w.decls extends_w) r.distinct places from }
